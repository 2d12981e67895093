-- The result of encoding is unique: one outcome, and one list for each sink.
use Rattle.std.proofs.Common.{◌≡◌, refl, ℕ, zero, suc, ◌+◌, ◌*◌, ◌<◌, ◌≤◌, ◌⊎◌, inl, inr, ⊎_elim, List, [], ◌∷◌, arith, length, map, ap, sym, subst, ◌∙◌, Option, None, Some}
use Rattle.std.specs.List.{range_with_len, AllByRecursion}
use Rattle.std.proofs.lemmas.Bool.{cases_lt}
use Rattle.std.proofs.lemmas.List.Elements.{recursion_from_All}
use Rattle.pw_outside.specs.Reading.{Fault}
use Rattle.pic_y4m.specs.declared.fault.PictureKind.{PictureKind}
use Rattle.pic_y4m.specs.Frames.{Pictures}
use Rattle.rate_table.specs.declared.entry.Entry.{Entry}
use Rattle.rate_table.specs.Table.{IsTable, HasNoFit, IsBest, error_of, least_bytes}
use Rattle.rate_table.specs.Laws.{BestIsOne}
use Rattle.rate_layers.specs.Layers.{AreKept}
use Rattle.rate_layers.specs.Laws.{MultiplierIsOne, KeptAreOne}
use Rattle.rate_layers.specs.Best.{TellsLayers}
use Rattle.rate_build.specs.Groups.{group_at}
use Rattle.run_encode.specs.declared.job.Job.{Job}
use Rattle.run_encode.specs.declared.end.EncodeEnd.{EncodeEnd}
use Rattle.run_encode.specs.declared.end.EncodeEnd.TheVariants as ends
use Rattle.run_encode.specs.Groups.{group_count, table_in}
use Rattle.run_encode.specs.Outputs.{Lists}
use Rattle.run_encode.specs.Encoding.{Group, IsCoded, printed_of, AreFirst, group_behind, cut_lists, whole_lists, small_lists, Ends}

-- a coded group is determined by its pictures
group-same : BestIsOne → MultiplierIsOne → KeptAreOne → (j : Job) (g h : Group) → g.pictures ≡ h.pictures → IsTable (table_in j h.pictures) → IsCoded j g → IsCoded j h → g ≡ h
group-same best-one multiplier-one kept-one j g h p ok is-g is-h =
    let t = table_in j h.pictures in
    let best : IsBest t g.choice = subst (λ ps. IsBest (table_in j ps) g.choice) p is-g.best in
    let told : TellsLayers t (printed_of g) = subst (λ ps. TellsLayers (table_in j ps) (printed_of g)) p is-g.layers in
    let c : g.choice ≡ h.choice = best-one t g.choice h.choice ok best is-h.best in
    let m : g.multiplier ≡ h.multiplier = multiplier-one t g.multiplier h.multiplier told.multiplier is-h.layers.multiplier in
    let kept : AreKept t h.multiplier (error_of h.choice) g.layers =
    subst (λ n. AreKept t n (error_of h.choice) g.layers) m (subst (λ x. AreKept t g.multiplier (error_of x) g.layers) c told.kept) in
    let l : g.layers ≡ h.layers = kept-one t h.multiplier (error_of h.choice) g.layers h.layers kept is-h.layers.kept in
    λ i. record { pictures = p i; choice = c i; multiplier = m i; layers = l i }

module _ (best-one : BestIsOne) (multiplier-one : MultiplierIsOne) (kept-one : KeptAreOne)
    (j : Job) (ps : Pictures) (tables : (k : ℕ) → k < group_count j.group ps → IsTable (table_in j (group_at j.group ps.pictures k))) where
  -- equally many groups are the same
  groups-same : (a : ℕ) (gs hs : List Group) → length gs ≡ length hs → a + length hs ≤ group_count j.group ps
      → map (λ g. g.pictures) gs ≡ map (group_at j.group ps.pictures) (range_with_len a (length gs))
      → map (λ g. g.pictures) hs ≡ map (group_at j.group ps.pictures) (range_with_len a (length hs))
      → AllByRecursion (IsCoded j) gs → AllByRecursion (IsCoded j) hs → gs ≡ hs
  groups-same a [] [] n few p q is-g is-h = refl
  groups-same a [] (h ∷ hs) n few p q is-g is-h = absurd (omega (arith, n))
  groups-same a (g ∷ gs) [] n few p q is-g is-h = absurd (omega (arith, n))
  groups-same a (g ∷ gs) (h ∷ hs) n few p q is-g is-h =
      let first-g : g.pictures ≡ group_at j.group ps.pictures a = cc in
      let first-h : h.pictures ≡ group_at j.group ps.pictures a = cc in
      let others-g : map (λ g. g.pictures) gs ≡ map (group_at j.group ps.pictures) (range_with_len (a + 1) (length gs)) = cc in
      let others-h : map (λ g. g.pictures) hs ≡ map (group_at j.group ps.pictures) (range_with_len (a + 1) (length hs)) = cc in
      let lt : a < group_count j.group ps = omega (arith, few) in
      let ok : IsTable (table_in j h.pictures) = subst (λ x. IsTable (table_in j x)) (sym first-h) (tables a lt) in
      let one = group-same best-one multiplier-one kept-one j g h (first-g ∙ sym first-h) ok is-g.0 is-h.0 in
      let more = groups-same (a + 1) gs hs (omega (arith, n)) (omega (arith, few)) others-g others-h is-g.1 is-h.1 in
      λ i. one i ∷ more i

  -- each of the groups has a best choice
  has-best : (a k : ℕ) (gs : List Group) → k < length gs → map (λ g. g.pictures) gs ≡ map (group_at j.group ps.pictures) (range_with_len a (length gs))
      → AllByRecursion (IsCoded j) gs → (c : List Entry) × IsBest (table_in j (group_at j.group ps.pictures (a + k))) c
  has-best a k [] lt p is = absurd (omega (arith, lt))
  has-best a zero (g ∷ gs) lt p is =
      let first : g.pictures ≡ group_at j.group ps.pictures a = cc in
      let z : a ≡ a + 0 = omega arith in
      (g.choice, subst (λ n. IsBest (table_in j (group_at j.group ps.pictures n)) g.choice) z (subst (λ x. IsBest (table_in j x) g.choice) first is.0.best))
  has-best a (suc k) (g ∷ gs) lt p is =
      let others : map (λ g. g.pictures) gs ≡ map (group_at j.group ps.pictures) (range_with_len (a + 1) (length gs)) = cc in
      let more = has-best (a + 1) k gs (omega (arith, lt)) others is.1 in
      let n : (a + 1) + k ≡ a + suc k = omega arith in
      (more.0, subst (λ n. IsBest (table_in j (group_at j.group ps.pictures n)) more.0) n more.1)

  module _ (gs hs : List Group) (first-g : AreFirst j ps gs) (first-h : AreFirst j ps hs) where
    pub same : length gs ≡ length hs → gs ≡ hs
    same n = groups-same 0 gs hs n (let h = first-h.few in omega (arith, h)) first-g.pictures first-h.pictures
        (recursion_from_All (IsCoded j) gs first-g.each) (recursion_from_All (IsCoded j) hs first-h.each)

    -- if no choice fits after some groups, there are no more
    pub no-more : HasNoFit (table_in j (group_behind j ps gs)) → length hs ≤ length gs
    no-more nofit = ⊎_elim
        (λ lt. let b = has-best 0 (length gs) hs lt first-h.pictures (recursion_from_All (IsCoded j) hs first-h.each) in
        let z : 0 + length gs ≡ length gs = omega arith in
        let best : IsBest (table_in j (group_behind j ps gs)) b.0 = subst (λ n. IsBest (table_in j (group_at j.group ps.pictures n)) b.0) z b.1 in
        absurd (nofit b.0 best.choice best.fits))
        (λ le. le) (cases_lt (length gs) (length hs))

-- ---- the end

-- how encoding ends after all groups
abbrev end-at : Option (Fault PictureKind) → EncodeEnd
end-at None = ends.Done
end-at (Some f) = ends.BadPictures f.kind f.place

abbrev lists-at : Job → Option (Fault PictureKind) → List Group → Lists
lists-at j None coded = whole_lists j coded
lists-at j (Some f) coded = cut_lists j coded

-- After all groups the end of the pictures decides; before a group for which no choice fits, that group does.
abbrev Decided : Job → Pictures → List Group → EncodeEnd → Lists → Type 0
Decided j ps coded end lists =
    ((length coded ≡ group_count j.group ps) × (end ≡ end-at ps.fault) × (lists ≡ lists-at j ps.fault coded))
    ⊎ ((length coded < group_count j.group ps) × HasNoFit (table_in j (group_behind j ps coded))
    × (end ≡ ends.TooSmall (j.group * length coded) (least_bytes (table_in j (group_behind j ps coded)))) × (lists ≡ small_lists j coded (group_behind j ps coded)))

decided : (j : Job) (ps : Pictures) (coded : List Group) (end : EncodeEnd) (lists : Lists) → Ends j ps coded end lists → Decided j ps coded end lists
decided j ps coded ends.Done lists e = inl (e.0, sym (ap end-at e.1), e.2 ∙ sym (ap (λ f. lists-at j f coded) e.1))
decided j ps coded (ends.BadPictures kind place) lists e = inl (e.0, sym (ap end-at e.1), e.2 ∙ sym (ap (λ f. lists-at j f coded) e.1))
decided j ps coded (ends.TooSmall frame least) lists e =
    let frame-is = e.2 in
    let least-is = e.3 in
    inr (e.0, e.1, (λ i. ends.TooSmall (frame-is i) (least-is i)), e.4)
decided j ps coded ends.NoMemory lists e = absurd e
decided j ps coded ends.ReadFault lists e = absurd e
decided j ps coded ends.WriteFault lists e = absurd e
decided j ps coded (ends.LayersFull frame) lists e = absurd e

module _ (best-one : BestIsOne) (multiplier-one : MultiplierIsOne) (kept-one : KeptAreOne)
    (j : Job) (ps : Pictures) (tables : (k : ℕ) → k < group_count j.group ps → IsTable (table_in j (group_at j.group ps.pictures k)))
    (gs hs : List Group) (first-g : AreFirst j ps gs) (first-h : AreFirst j ps hs) (end end' : EncodeEnd) (lists lists' : Lists) where
  no-later : HasNoFit (table_in j (group_behind j ps gs)) → length hs ≤ length gs
  no-later = no-more best-one multiplier-one kept-one j ps tables gs hs first-g first-h

  no-sooner : HasNoFit (table_in j (group_behind j ps hs)) → length gs ≤ length hs
  no-sooner = no-more best-one multiplier-one kept-one j ps tables hs gs first-h first-g

  all-one : length gs ≡ length hs → gs ≡ hs
  all-one = same best-one multiplier-one kept-one j ps tables gs hs first-g first-h

  one-answer : Decided j ps gs end lists → Decided j ps hs end' lists' → (end ≡ end') × (lists ≡ lists')
  one-answer (inl (n, e, l)) (inl (n', e', l')) = (e ∙ sym e', l ∙ ap (lists-at j ps.fault) (all-one (n ∙ sym n')) ∙ sym l')
  one-answer (inl (n, e, l)) (inr (lt, nofit, e', l')) = let h = no-sooner nofit in absurd (omega (arith, n, lt, h))
  one-answer (inr (lt, nofit, e, l)) (inl (n', e', l')) = let h = no-later nofit in absurd (omega (arith, n', lt, h))
  one-answer (inr (lt, nofit, e, l)) (inr (lt', nofit', e', l')) =
      let h = no-later nofit in
      let h' = no-sooner nofit' in
      let s : gs ≡ hs = all-one (omega (arith, h, h')) in (
        e ∙ ap (λ x. ends.TooSmall (j.group * length x) (least_bytes (table_in j (group_behind j ps x)))) s ∙ sym e',
        l ∙ ap (λ x. small_lists j x (group_behind j ps x)) s ∙ sym l',
      )

  pub one-encoding : Ends j ps gs end lists → Ends j ps hs end' lists' → (end ≡ end') × (lists ≡ lists')
  one-encoding e f = one-answer (decided j ps gs end lists e) (decided j ps hs end' lists' f)
