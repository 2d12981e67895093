-- The lengths of coded frames and of their slices.
use Rattle.std.proofs.Common.{◌≡◌, ℕ, zero, suc, ◌+◌, ◌-◌, ◌*◌, List, [], ◌∷◌, length, map, take, drop, refl, sym, ap, ◌∙◌, subst, arith, length-take-le}
use Rattle.std.specs.List.{Contains, sum, range_with_len}
use Rattle.std.proofs.lemmas.List.{length-map, length-drop, drop-drop, take-append-drop, map-append, nil_from_length}
use Rattle.std.proofs.lemmas.List.Sums.{sum_by-append, sum_by-cons}
use Rattle.std.proofs.lemmas.Slice.Zip.{AllZip-long}
use Rattle.pw_planes.specs.declared.kinds.AlphaKind.{AlphaKind}
use Rattle.pw_planes.specs.declared.kinds.Interlace.{Interlace}
use Rattle.pr_geom.specs.Layout.{slices_of}
use Rattle.pr_geom.specs.Slices.{pictures_of}
use Rattle.pr_quant.specs.declared.weights.Weights.{Weights}
use Rattle.pr_frame.specs.declared.coded.CodedSlice.{CodedSlice}
use Rattle.pr_frame.specs.declared.coded.CodedPicture.{CodedPicture}
use Rattle.pr_frame.specs.Written.{slice_length, picture_length}
use Rattle.rate_table.specs.declared.entry.Entry.{Entry}
use Rattle.rate_table.specs.Table.{IsChoice, size_of, indices}
use Rattle.rate_table.proofs.Lists.{contains_map}
use Rattle.rate_build.specs.declared.slices.SliceCoefficients.{SliceCoefficients}
use Rattle.rate_build.specs.Coding.{coded_slice, coded_slices, weights_in}
use Rattle.rate_build.specs.Tables.{entry_of, entries_of}
use Rattle.rate_build.specs.Laws.{FrameHasTableSize}
use Rattle.rate_build.proofs.Whole.{slices_number}

-- ---- slices

-- an entry has the size of the slice that is coded at its index
entry_size : (mode : Interlace) (alpha : AlphaKind) (w : Weights) (lo hi : ℕ) (s : SliceCoefficients) (e : Entry) → Contains (entries_of mode alpha w lo hi s) e → slice_length mode alpha (coded_slice w e.index s) ≡ e.size
unfolding entries_of
entry_size mode alpha w lo hi s e h =
    let found = contains_map (entry_of mode alpha w s) (range_with_len lo (hi + 1 - lo)) e h in
    subst (λ (x : Entry). slice_length mode alpha (coded_slice w x.index s) ≡ x.size) found.2 refl

pub chosen_sizes : (mode : Interlace) (alpha : AlphaKind) (w : Weights) (lo hi : ℕ) (slices : List SliceCoefficients) (choice : List Entry) → IsChoice (map (entries_of mode alpha w lo hi) slices) choice
    → sum (map (slice_length mode alpha) (coded_slices w slices (indices choice))) ≡ size_of choice
chosen_sizes mode alpha w lo hi [] [] h = refl
chosen_sizes mode alpha w lo hi [] (e ∷ choice) h = absurd h
chosen_sizes mode alpha w lo hi (s ∷ slices) [] h = absurd h
chosen_sizes mode alpha w lo hi (s ∷ slices) (e ∷ choice) h =
    let one = entry_size mode alpha w lo hi s e h.0 in
    let more = chosen_sizes mode alpha w lo hi slices choice h.1 in
    omega (
      arith,
      one,
      more,
      sum_by-cons (λ (n : ℕ). n) (slice_length mode alpha (coded_slice w e.index s)) (map (slice_length mode alpha) (coded_slices w slices (indices choice))),
      sum_by-cons (λ (x : Entry). x.size) e choice,
    )

pub coded_number : (w : Weights) (slices : List SliceCoefficients) (choice : List ℕ) → length choice ≡ length slices → length (coded_slices w slices choice) ≡ length slices
coded_number w [] choice e = refl
coded_number w (s ∷ slices) [] e = absurd (omega (arith, e))
coded_number w (s ∷ slices) (i ∷ choice) e = omega (arith, coded_number w slices choice (omega (arith, e)))

-- ---- pictures

module _ (mode : Interlace) (alpha : AlphaKind) (log2 n : ℕ) (all : List CodedSlice) where
  -- the picture of an index, n slices each
  abbrev pub part : ℕ → CodedPicture
  part k = record { log2 = log2; slices = take n (drop (n * k) all) }

  abbrev pub sizes : List CodedSlice → ℕ
  sizes slices = sum (map (slice_length mode alpha) slices)

  sizes_parts : (slices : List CodedSlice) → sizes (take n slices) + sizes (drop n slices) ≡ sizes slices
  sizes_parts slices =
      let f = slice_length mode alpha in
      omega (arith, sum_by-append (λ (k : ℕ). k) (map f (take n slices)) (map f (drop n slices)), ap sum (map-append f (take n slices) (drop n slices)), ap (λ (l : List CodedSlice). sum (map f l)) (take-append-drop n slices))

  pub pictures_length : (a p : ℕ) → length (drop (n * a) all) ≡ p * n → sum (map (picture_length mode alpha) (map part (range_with_len a p))) ≡ p * (8 + 2 * n) + sizes (drop (n * a) all)
  pictures_length a zero e =
      let nil = nil_from_length (drop (n * a) all) (omega (arith, e)) in
      omega (arith, ap sizes nil)
  pictures_length a (suc p) e =
      let rest = drop (n * a) all in
      let whole : length (take n rest) ≡ n = length-take-le n rest (omega (arith, e)) in
      let same : drop (n * (a + 1)) all ≡ drop n rest = (let k : n * (a + 1) ≡ n * a + n = omega arith in ap (λ k. drop k all) k) ∙ sym (drop-drop n (n * a) all) in
      let left : length (drop (n * (a + 1)) all) ≡ p * n = omega (arith, e, ap length same, length-drop n rest) in
      let more = pictures_length (a + 1) p left in
      let first : picture_length mode alpha (part a) ≡ 8 + 2 * n + sizes (take n rest) = omega (arith, whole) in
      omega (
        arith,
        more,
        first,
        ap sizes same,
        sizes_parts rest,
        sum_by-cons (λ (k : ℕ). k) (picture_length mode alpha (part a)) (map (picture_length mode alpha) (map part (range_with_len (a + 1) p))),
      )

pub frame_size : FrameHasTableSize
frame_size c h lo hi budget choice are is chosen =
    let w = weights_in h in
    let n = length (slices_of c.layout) in
    let p = pictures_of c.layout.interlace in
    let all = coded_slices w c.slices (indices choice) in
    let picked : IsChoice (map (entries_of h.interlace h.alpha w lo hi) c.slices) choice =
    subst (λ mode. IsChoice (map (entries_of mode h.alpha w lo hi) c.slices) choice) (sym is.interlace)
    (subst (λ alpha. IsChoice (map (entries_of c.layout.interlace alpha w lo hi) c.slices) choice) (sym is.alpha) chosen) in
    let number : length (indices choice) ≡ length c.slices =
    length-map choice (λ (x : Entry). x.index) ∙ AllZip-long Contains (map (entries_of h.interlace h.alpha w lo hi) c.slices) choice picked ∙ length-map c.slices (entries_of h.interlace h.alpha w lo hi) in
    let long : length all ≡ p * n = coded_number w c.slices (indices choice) number ∙ slices_number c are in
    let none : n * 0 ≡ 0 = omega arith in
    let whole : drop (n * 0) all ≡ all = ap (λ k. drop k all) none in
    let sum_is = pictures_length h.interlace h.alpha c.layout.log2 n all 0 p (ap length whole ∙ long) in
    let sizes_are = chosen_sizes h.interlace h.alpha w lo hi c.slices choice picked in
    omega (arith, sum_is, sizes_are, ap (sizes h.interlace h.alpha c.layout.log2 n all) whole)
