-- Encoding always has a result, which extends what was written of any first groups.
use Rattle.std.proofs.Common.{◌≡◌, refl, ℕ, zero, suc, ◌+◌, ◌-◌, ◌*◌, ◌<◌, ◌⊎◌, inl, inr, ⊎_elim, List, [], ◌∷◌, ◌++◌, arith, length, map, ap, sym, ◌∙◌, length-append, append_assoc, append-nil, Option, None, Some}
use Rattle.std.specs.List.{flat_map, range_with_len}
use Rattle.std.proofs.lemmas.Bool.{cases_lt}
use Rattle.std.proofs.lemmas.List.{map-append}
use Rattle.std.proofs.lemmas.List.Concat.{flat_map-append}
use Rattle.std.proofs.lemmas.List.Folds.{flat_map-map}
use Rattle.std.proofs.lemmas.List.Elements.{All-push}
use Rattle.std.proofs.lemmas.List.FromFn.{map-range_with_len_more}
use Rattle.pw_outside.specs.Reading.{Fault}
use Rattle.pw_planes.specs.declared.picture.Picture.{Picture}
use Rattle.pic_y4m.specs.declared.fault.PictureKind.{PictureKind}
use Rattle.pic_y4m.specs.Frames.{Pictures}
use Rattle.qt_movie.specs.MovieBytes.{ftyp_bytes, frame_bytes, moov_bytes, extents}
use Rattle.rate_table.specs.declared.entry.Entry.{Entry}
use Rattle.rate_table.specs.Table.{Table, IsTable, IsChoice, Fits, HasNoFit, error_of, least_bytes}
use Rattle.rate_table.specs.Laws.{NoneFitsBelowLeast, BestExists}
use Rattle.rate_table.proofs.Entries.{least_choice}
use Rattle.rate_layers.specs.Laws.{MultiplierExists, KeptExist}
use Rattle.rate_build.specs.Groups.{group_at}
use Rattle.rate_cert.specs.Files.{record_bytes, end_bytes, proof_bytes}
use Rattle.rate_cert.specs.Head.{head_bytes}
use Rattle.run_encode.specs.declared.job.Job.{Job}
use Rattle.run_encode.specs.declared.end.EncodeEnd.{EncodeEnd}
use Rattle.run_encode.specs.declared.end.EncodeEnd.TheVariants as ends
use Rattle.run_encode.specs.Groups.{settings_of, group_count, table_in}
use Rattle.run_encode.specs.Outputs.{Lists, nothing, joined}
use Rattle.run_encode.specs.Encoding.{Group, IsCoded, AreFirst, all_frames, frames_of, record_in, records_bytes, group_lines, lines_of, frames_line, group_behind, none_record, cut_lists, whole_lists, small_lists, Encodes}

abbrev pub GoesOn : Job → Pictures → List Group → Type 0
GoesOn j ps coded = (end : EncodeEnd) × (lists : Lists) × Encodes j ps end lists × ((more : Lists) × (joined (cut_lists j coded) more ≡ lists))

-- the number of groups left
pub gap : (j : Job) (ps : Pictures) (coded : List Group) → (n : ℕ) × (AreFirst j ps coded → length coded + n ≡ group_count j.group ps)
gap j ps coded = (group_count j.group ps - length coded, λ first. let h = first.few in omega (arith, h))

-- ---- lists of groups

same-lists : {x y : Lists} → x.movie ≡ y.movie → x.proof ≡ y.proof → x.text ≡ y.text → x ≡ y
same-lists m p t = λ i. record { movie = m i; proof = p i; text = t i }

joined-nothing : (x : Lists) → joined x nothing ≡ x
joined-nothing x = same-lists (append-nil x.movie) (append-nil x.proof) (append-nil x.text)

joined-assoc : (x y z : Lists) → joined (joined x y) z ≡ joined x (joined y z)
joined-assoc x y z = same-lists (append_assoc x.movie y.movie z.movie) (append_assoc x.proof y.proof z.proof) (append_assoc x.text y.text z.text)

lines-append : (j : Job) (n : ℕ) (xs ys : List Group) → (m : ℕ) × (lines_of j n (xs ++ ys) ≡ lines_of j n xs ++ lines_of j m ys)
lines-append j n [] ys = (n, refl)
lines-append j n (x ∷ xs) ys =
    let more = lines-append j (n + length x.pictures) xs ys in
    (more.0, ap (λ l. group_lines j n x ++ l) more.1 ∙ sym (append_assoc (group_lines j n x) (lines_of j (n + length x.pictures) xs) (lines_of j more.0 ys)))

-- what was written of some groups is a prefix of what was written of more
pub cut-more : (j : Job) (xs ys : List Group) → (more : Lists) × (cut_lists j (xs ++ ys) ≡ joined (cut_lists j xs) more)
cut-more j xs ys =
    let lines = lines-append j 0 xs ys in
    let head = head_bytes j.format (settings_of j) in
    let movie = flat_map frame_bytes (all_frames j xs) in (
      record { movie = flat_map frame_bytes (all_frames j ys); proof = records_bytes j ys; text = lines_of j lines.0 ys },
      same-lists
          (ap (λ l. ftyp_bytes ++ l) (ap (flat_map frame_bytes) (flat_map-append (frames_of j) xs ys) ∙ flat_map-append frame_bytes (all_frames j xs) (all_frames j ys))
          ∙ sym (append_assoc ftyp_bytes movie (flat_map frame_bytes (all_frames j ys))))
          (ap (λ l. head ++ l) (flat_map-append (λ g. record_bytes j.format (record_in j g)) xs ys) ∙ sym (append_assoc head (records_bytes j xs) (records_bytes j ys)))
          lines.1,
    )

records-are : (j : Job) (coded : List Group) → flat_map (record_bytes j.format) (map (record_in j) coded) ≡ records_bytes j coded
records-are j coded = flat_map-map (record_bytes j.format) (record_in j) coded

-- and of what is written of all
whole-more : (j : Job) (coded : List Group) → (more : Lists) × (joined (cut_lists j coded) more ≡ whole_lists j coded)
unfolding proof_bytes
whole-more j coded =
    let head = head_bytes j.format (settings_of j) in
    let end = end_bytes (length (map (record_in j) coded)) in (
      record { movie = moov_bytes j.head (extents (map length (all_frames j coded))); proof = end; text = frames_line (length (all_frames j coded)) },
      same-lists
          (append_assoc ftyp_bytes (flat_map frame_bytes (all_frames j coded)) (moov_bytes j.head (extents (map length (all_frames j coded)))))
          (append_assoc head (records_bytes j coded) end ∙ ap (λ l. head ++ (l ++ end)) (sym (records-are j coded)))
          refl,
    )

small-more : (j : Job) (coded : List Group) (ps : List Picture) → (more : Lists) × (joined (cut_lists j coded) more ≡ small_lists j coded ps)
unfolding proof_bytes
small-more j coded ps =
    let head = head_bytes j.format (settings_of j) in
    let records = map (record_in j) coded in
    let r = none_record j ps in
    let last = record_bytes j.format r in
    let end = end_bytes (length (records ++ r ∷ [])) in
    let bytes : flat_map (record_bytes j.format) (records ++ r ∷ []) ≡ records_bytes j coded ++ last =
    flat_map-append (record_bytes j.format) records (r ∷ []) ∙ ap (λ l. l ++ (last ++ [])) (records-are j coded) ∙ ap (λ l. records_bytes j coded ++ l) (append-nil last) in (
      record { movie = []; proof = last ++ end; text = [] },
      same-lists (append-nil _)
          (append_assoc head (records_bytes j coded) (last ++ end) ∙ ap (λ l. head ++ l) (sym (append_assoc (records_bytes j coded) last end))
          ∙ ap (λ l. head ++ (l ++ end)) (sym bytes))
          (append-nil _),
    )

-- ---- the groups after

module _ (none-below : NoneFitsBelowLeast) (best-exists : BestExists) (multiplier-exists : MultiplierExists) (kept-exist : KeptExist)
    (j : Job) (ps : Pictures) (tables : (k : ℕ) → k < group_count j.group ps → IsTable (table_in j (group_at j.group ps.pictures k))) where
  -- a choice fits, or none does
  fits-or-none : (t : Table) → IsTable t → HasNoFit t ⊎ ((c : List Entry) × IsChoice t.slices c × Fits t c)
  fits-or-none t ok = ⊎_elim (λ lt. inl ((none-below t ok).1 lt)) (λ le.
      let l = least_choice t.slices ok.each in
      inr (l.0, l.1, omega (arith, l.2, le))) (cases_lt t.budget (least_bytes t))

  -- all groups were written
  ended-all : (coded : List Group) → AreFirst j ps coded → length coded ≡ group_count j.group ps → (fault : Option (Fault PictureKind)) → ps.fault ≡ fault → GoesOn j ps coded
  ended-all coded first e None f = (ends.Done, whole_lists j coded, record { coded = coded; first = first; ends = (e, f, refl) }, whole-more j coded)
  ended-all coded first e (Some x) f =
      (ends.BadPictures x.kind x.place, cut_lists j coded, record { coded = coded; first = first; ends = (e, f, refl) }, (nothing, joined-nothing (cut_lists j coded)))

  -- no choice fits for the next group
  ended-small : (coded : List Group) → AreFirst j ps coded → length coded < group_count j.group ps → HasNoFit (table_in j (group_behind j ps coded)) → GoesOn j ps coded
  ended-small coded first lt nofit =
      let next = group_behind j ps coded in (
        ends.TooSmall (j.group * length coded) (least_bytes (table_in j next)),
        small_lists j coded next,
        record { coded = coded; first = first; ends = (lt, nofit, refl, refl, refl) },
        small-more j coded next,
      )

  -- one group more
  more-groups : (coded : List Group) → AreFirst j ps coded → length coded < group_count j.group ps → (g : Group) → IsCoded j g → g.pictures ≡ group_behind j ps coded
      → AreFirst j ps (coded ++ g ∷ [])
  more-groups coded first lt g of e =
      let n : length (coded ++ g ∷ []) ≡ length coded + 1 = length-append coded (g ∷ []) in
      record {
        few = omega (arith, n, lt);
        pictures = map-append (λ h. h.pictures) coded (g ∷ []) ∙ ap (λ l. l ++ g.pictures ∷ []) first.pictures
            ∙ ap (λ x. map (group_at j.group ps.pictures) (range_with_len 0 (length coded)) ++ x ∷ []) e
            ∙ sym (map-range_with_len_more (group_at j.group ps.pictures) 0 (length coded) (length coded) (omega arith))
            ∙ ap (λ k. map (group_at j.group ps.pictures) (range_with_len 0 k)) (sym n);
        each = All-push (IsCoded j) coded g first.each of;
      }

  -- the best choice of the next group
  next-group : (coded : List Group) → length coded < group_count j.group ps → (c : List Entry) → IsChoice (table_in j (group_behind j ps coded)).slices c → Fits (table_in j (group_behind j ps coded)) c
      → (g : Group) × IsCoded j g × (g.pictures ≡ group_behind j ps coded)
  next-group coded lt c choice fits =
      let t = table_in j (group_behind j ps coded) in
      let ok = tables (length coded) lt in
      let b = best-exists t c ok choice fits in
      let m = multiplier-exists t c ok choice fits in
      let k = kept-exist t m.0 (error_of b.0) in
      (record { pictures = group_behind j ps coded; choice = b.0; multiplier = m.0; layers = k.0 }, record { best = b.1; layers = record { multiplier = m.1; kept = k.1 } }, refl)

  -- a result after one group more is a result after these
  from-more : (coded : List Group) (g : Group) → GoesOn j ps (coded ++ g ∷ []) → GoesOn j ps coded
  from-more coded g (end, lists, encodes, (more, e)) =
      let c = cut-more j coded (g ∷ []) in
      (end, lists, encodes, (joined c.0 more, sym (joined-assoc (cut_lists j coded) c.0 more) ∙ ap (λ l. joined l more) (sym c.1) ∙ e))

  decided : (n : ℕ) (coded : List Group) → AreFirst j ps coded → length coded + suc n ≡ group_count j.group ps
      → ((more : List Group) → AreFirst j ps more → length more + n ≡ group_count j.group ps → GoesOn j ps more)
      → HasNoFit (table_in j (group_behind j ps coded)) ⊎ ((c : List Entry) × IsChoice (table_in j (group_behind j ps coded)).slices c × Fits (table_in j (group_behind j ps coded)) c)
      → GoesOn j ps coded
  decided n coded first e others (inl nofit) = ended-small coded first (omega (arith, e)) nofit
  decided n coded first e others (inr (c, choice, fits)) =
      let lt : length coded < group_count j.group ps = omega (arith, e) in
      let g = next-group coded lt c choice fits in
      from-more coded g.0 (others (coded ++ g.0 ∷ []) (more-groups coded first lt g.0 g.1 g.2) (omega (arith, e, length-append coded (g.0 ∷ []))))

  pub goes-on : (n : ℕ) (coded : List Group) → AreFirst j ps coded → length coded + n ≡ group_count j.group ps → GoesOn j ps coded
  goes-on zero coded first e = ended-all coded first (omega (arith, e)) ps.fault refl
  goes-on (suc n) coded first e =
      decided n coded first e (λ more. goes-on n more) (fits-or-none (table_in j (group_behind j ps coded)) (tables (length coded) (let lt : length coded < group_count j.group ps = omega (arith, e) in lt)))
