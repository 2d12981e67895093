-- The tables, the pictures and the length of a frame of chosen slices.
use Rattle.std.proofs.Common.{◌≡◌, ℕ, ◌+◌, ◌-◌, ◌*◌, ◌^◌, ◌<◌, List, length, map, take, drop, get_or, sum, sym, ap, ◌∙◌, subst, arith}
use Rattle.std.specs.List.{All, Contains}
use Rattle.std.proofs.lemmas.List.{length-map}
use Rattle.std.proofs.lemmas.List.FromFn.{get_or-map-range_with_len, length-map-range_with_len}
use Rattle.std.proofs.lemmas.Slice.Zip.{AllZip-long}
use Rattle.pw_planes.specs.declared.kinds.AlphaKind.{AlphaKind}
use Rattle.pw_planes.specs.declared.kinds.Interlace.{Interlace}
use Rattle.pr_quant.specs.declared.weights.Weights.{Weights}
use Rattle.pr_geom.specs.Slices.{pictures_of}
use Rattle.pr_head.specs.declared.frame.FrameHeader.{FrameHeader}
use Rattle.pr_frame.specs.declared.coded.CodedPicture.{CodedPicture}
use Rattle.pr_frame.specs.Written.{slice_length, picture_length, frame_length_of}
use Rattle.pr_frame.proofs.PutSteps.{one-length}
use Rattle.rate_table.specs.declared.entry.Entry.{Entry}
use Rattle.rate_table.specs.Table.{IsChoice, size_of}
use Rattle.rate_build.specs.declared.slices.SliceCoefficients.{SliceCoefficients}
use Rattle.rate_build.specs.Coefficients.{FrameCoefficients, AreOfLayout}
use Rattle.rate_build.specs.Coding.{coded_slices, coded_picture, coded_frame, weights_in, IsHeaderOf, IsIndex}
use Rattle.rate_build.specs.Tables.{entries_of, fixed_bytes}
use Rattle.rate_build.specs.Chosen.{AreTablesOf, IsPart, IsFrom, AreChosen, sizes_in}
use Rattle.rate_build.proofs.Lengths.{frame_size, chosen_sizes}
use Rattle.rate_build.proofs.Straight.{all_from, chosen_lengths}

-- ---- the pictures of a frame

pub pictures_number : (c : FrameCoefficients) (h : FrameHeader) (choice : List ℕ) → length (coded_frame c h choice).pictures ≡ pictures_of c.layout.interlace
pictures_number c h choice = length-map-range_with_len (coded_picture c (coded_slices (weights_in h) c.slices choice)) 0 (pictures_of c.layout.interlace)

pub picture_within : (c : FrameCoefficients) (h : FrameHeader) (choice : List ℕ) (k : ℕ) → k < pictures_of c.layout.interlace → k < length (coded_frame c h choice).pictures
picture_within c h choice k lt = omega (arith, lt, pictures_number c h choice)

pub picture_at : (c : FrameCoefficients) (h : FrameHeader) (choice : List ℕ) (k : ℕ) → k < pictures_of c.layout.interlace → (d : CodedPicture)
    → coded_picture c (coded_slices (weights_in h) c.slices choice) k ≡ get_or (coded_frame c h choice).pictures k d
picture_at c h choice k lt d = sym (get_or-map-range_with_len (coded_picture c (coded_slices (weights_in h) c.slices choice)) 0 (pictures_of c.layout.interlace) k k d lt (omega arith))

-- ---- a frame of chosen slices

module _ (c : FrameCoefficients) (h : FrameHeader) (tables : List (List Entry)) (choice : List ℕ) (are : AreOfLayout c) (is : IsHeaderOf c h)
    (told : AreTablesOf c (weights_in h) tables) (part : IsPart tables choice) where
  picked : IsChoice (map (entries_of c.layout.interlace c.alpha (weights_in h) told.lo told.hi) c.slices) part.entries
  picked = subst (λ t. IsChoice t part.entries) told.tables part.is_choice

  picked_here : IsChoice (map (entries_of h.interlace h.alpha (weights_in h) told.lo told.hi) c.slices) part.entries
  picked_here =
      subst (λ mode. IsChoice (map (entries_of mode h.alpha (weights_in h) told.lo told.hi) c.slices) part.entries) (sym is.interlace)
      (subst (λ alpha. IsChoice (map (entries_of c.layout.interlace alpha (weights_in h) told.lo told.hi) c.slices) part.entries) (sym is.alpha) picked)

  pub number : length choice ≡ length c.slices
  number =
      let f = entries_of h.interlace h.alpha (weights_in h) told.lo told.hi in
      ap length (sym part.has_indices) ∙ length-map part.entries (λ (x : Entry). x.index) ∙ AllZip-long Contains (map f c.slices) part.entries picked_here ∙ length-map c.slices f

  from_all : All (IsFrom told.lo told.hi) choice
  from_all = subst (All (IsFrom told.lo told.hi)) part.has_indices (all_from h.interlace h.alpha (weights_in h) told.lo told.hi c.slices part.entries picked_here)

  pub index_all : All IsIndex choice
  index_all k d l =
      let from = from_all k d l in
      record { least = omega (arith, told.least, from.least); most = omega (arith, told.most, from.most) }

  pub chosen : AreChosen h.interlace h.alpha (weights_in h) c.slices tables choice
  chosen =
      record {
        lo = told.lo;
        hi = told.hi;
        tables_are = told.tables ∙ sym (λ j. map (entries_of (is.interlace j) (is.alpha j) (weights_in h) told.lo told.hi) c.slices);
        number = number;
        each = from_all;
      }

  -- the sizes together
  pub sum_is : sum (sizes_in tables choice) ≡ size_of part.entries
  sum_is =
      let lengths = chosen_lengths h.interlace h.alpha (weights_in h) c.slices tables choice chosen in
      let sizes = chosen_sizes h.interlace h.alpha (weights_in h) told.lo told.hi c.slices part.entries picked_here in
      ap sum lengths ∙ ap (λ i. sum (map (slice_length h.interlace h.alpha) (coded_slices (weights_in h) c.slices i))) (sym part.has_indices) ∙ sizes

  pub length_is : frame_length_of (coded_frame c h choice) ≡ fixed_bytes c.layout + sum (sizes_in tables choice)
  length_is =
      let e = frame_size c h told.lo told.hi 0 part.entries are is picked in
      ap (λ i. frame_length_of (coded_frame c h i)) (sym part.has_indices) ∙ e ∙ ap (λ n. fixed_bytes c.layout + n) (sym sum_is)

  module _ (k : ℕ) (lt : k < pictures_of c.layout.interlace) where
    abbrev picture : CodedPicture
    picture = coded_picture c (coded_slices (weights_in h) c.slices choice) k

    pub picture_short : fixed_bytes c.layout < 2 ^ 31 → picture_length h.interlace h.alpha picture < 2 ^ 32
    picture_short fixed =
        omega (
          arith,
          fixed,
          part.small,
          sum_is,
          length_is,
          one-length (picture_length h.interlace h.alpha) (coded_frame c h choice).pictures k picture (picture_within c h choice k lt) (picture_at c h choice k lt picture),
        )

-- ---- those of a picture, as the code takes them: a given number from an index on

pub part_same : {A : Type 0} (xs ys : List A) (count place n k : ℕ) → xs ≡ ys → count ≡ n → place ≡ k → take (count * place + count - count * place) (drop (count * place) xs) ≡ take n (drop (n * k) ys)
part_same xs ys count place n k same count_is place_is =
    let long : count * place + count - count * place ≡ n = omega (arith, count_is) in
    let from : count * place ≡ n * k = λ j. count_is j * place_is j in
    λ j. take (long j) (drop (from j) (same j))

pub chosen_same : (mode : Interlace) (alpha : AlphaKind) (w : Weights) (s t : List SliceCoefficients) (a b : List (List Entry)) (x y : List ℕ) → s ≡ t → a ≡ b → x ≡ y → AreChosen mode alpha w t b y → AreChosen mode alpha w s a x
chosen_same mode alpha w s t a b x y e f g are =
    subst (λ s. AreChosen mode alpha w s a x) (sym e) (subst (λ a. AreChosen mode alpha w t a x) (sym f) (subst (AreChosen mode alpha w t b) (sym g) are))
