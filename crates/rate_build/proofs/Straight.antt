-- Slices with their tables and an index of each: sizes, and parts of them.
use Rattle.std.proofs.Common.{◌≡◌, ℕ, zero, suc, ◌+◌, ◌-◌, ◌*◌, ◌<◌, List, [], ◌∷◌, ◌++◌, length, map, take, drop, get_or, sum, min, refl, sym, ap, ◌∙◌, subst, arith}
use Rattle.std.specs.List.{All, AllZip, Contains, flat_map, range_with_len}
use Rattle.std.proofs.lemmas.List.{length-map, take-map, drop-map, length-take, length-drop, get_or_default}
use Rattle.std.proofs.lemmas.List.Elements.{All-nil, All-cons, All-head, All-tail, All-take, All-drop, All-contains}
use Rattle.std.proofs.lemmas.List.FromFn.{get_or-map-range_with_len, length-map-range_with_len}
use Rattle.std.proofs.lemmas.List.Sums.{sum_by-append, sum_by-cons}
use Rattle.std.proofs.lemmas.Grind.{take_at_read}
use Rattle.pw_planes.specs.declared.kinds.AlphaKind.{AlphaKind}
use Rattle.pw_planes.specs.declared.kinds.Interlace.{Interlace}
use Rattle.pr_quant.specs.declared.weights.Weights.{Weights}
use Rattle.pr_frame.specs.declared.coded.CodedSlice.{CodedSlice}
use Rattle.pr_head.specs.Picture.{picture_header_bytes}
use Rattle.pr_head.specs.Laws.{sizes_bytes}
use Rattle.pr_frame.specs.declared.coded.CodedPicture.{CodedPicture}
use Rattle.pr_frame.specs.Written.{slice_bytes, slice_length, picture_bytes, picture_length}
use Rattle.pr_frame.proofs.PutSteps.{picture-whole}
use Rattle.rate_table.specs.declared.entry.Entry.{Entry}
use Rattle.rate_table.specs.Table.{IsChoice, indices}
use Rattle.rate_table.proofs.Lists.{contains_map}
use Rattle.rate_build.specs.declared.slices.SliceCoefficients.{SliceCoefficients}
use Rattle.rate_build.specs.Coding.{coded_slice, coded_slices}
use Rattle.rate_build.specs.Tables.{entry_of, entries_of, slice_size}
use Rattle.rate_build.specs.Chosen.{IsFrom, AreChosen, first_index, no_entry, Reaches, size_in, sizes_in}
use Rattle.rate_build.proofs.Lengths.{coded_number}
use Rattle.rate_build.proofs.Writable.{InRange, range_bounds}

-- ---- one slice

module _ (mode : Interlace) (alpha : AlphaKind) (w : Weights) (s : SliceCoefficients) where
  first_of : (lo n : ℕ) → 0 < n → first_index (map (entry_of mode alpha w s) (range_with_len lo n)) ≡ lo
  first_of lo zero h = absurd (omega (arith, h))
  first_of lo (suc n) h = refl

  module _ (lo hi index : ℕ) (from : IsFrom lo hi index) where
    some : 0 < hi + 1 - lo
    some = omega (arith, from.least, from.most)

    first : first_index (entries_of mode alpha w lo hi s) ≡ lo
    unfolding entries_of
    first = first_of lo (hi + 1 - lo) some

    reaches : Reaches (entries_of mode alpha w lo hi s) index
    unfolding entries_of
    reaches =
        let f = first_of lo (hi + 1 - lo) some in
        record {
          from = omega (arith, f, from.least);
          to = omega (arith, f, from.least, from.most, length-map-range_with_len (entry_of mode alpha w s) lo (hi + 1 - lo));
        }

    size_is : size_in (entries_of mode alpha w lo hi s) index ≡ slice_size mode alpha w s index
    unfolding entries_of
    size_is =
        let f = entry_of mode alpha w s in
        let n = hi + 1 - lo in
        let at : get_or (map f (range_with_len lo n)) (index - lo) no_entry ≡ f index =
        get_or-map-range_with_len f lo n (index - lo) index no_entry (omega (arith, from.least, from.most)) (omega (arith, from.least)) in
        ap (λ k. (get_or (map f (range_with_len lo n)) (index - k) no_entry).size) (first_of lo n some) ∙ ap (λ (e : Entry). e.size) at

-- ---- slices in order

module _ (mode : Interlace) (alpha : AlphaKind) (w : Weights) (lo hi : ℕ) where
  reach_all : (slices : List SliceCoefficients) (choice : List ℕ) → length choice ≡ length slices → All (IsFrom lo hi) choice → AllZip Reaches (map (entries_of mode alpha w lo hi) slices) choice
  reach_all [] [] e each = tt
  reach_all [] (i ∷ choice) e each = absurd (omega (arith, e))
  reach_all (s ∷ slices) [] e each = absurd (omega (arith, e))
  reach_all (s ∷ slices) (i ∷ choice) e each =
      (reaches mode alpha w s lo hi i (All-head (IsFrom lo hi) i choice each), reach_all slices choice (omega (arith, e)) (All-tail (IsFrom lo hi) i choice each))

  sizes_all : (slices : List SliceCoefficients) (choice : List ℕ) → length choice ≡ length slices → All (IsFrom lo hi) choice
      → sizes_in (map (entries_of mode alpha w lo hi) slices) choice ≡ map (slice_length mode alpha) (coded_slices w slices choice)
  sizes_all [] [] e each = refl
  sizes_all [] (i ∷ choice) e each = absurd (omega (arith, e))
  sizes_all (s ∷ slices) [] e each = absurd (omega (arith, e))
  sizes_all (s ∷ slices) (i ∷ choice) e each =
      let one = size_is mode alpha w s lo hi i (All-head (IsFrom lo hi) i choice each) in
      let more = sizes_all slices choice (omega (arith, e)) (All-tail (IsFrom lo hi) i choice each) in
      λ j. one j ∷ more j

same_take : {A B : Type 0} (n : ℕ) (xs : List A) (ys : List B) → length xs ≡ length ys → length (take n xs) ≡ length (take n ys)
same_take n xs ys e = length-take n xs ∙ ap (min n) e ∙ sym (length-take n ys)

module _ (mode : Interlace) (alpha : AlphaKind) (w : Weights) (slices : List SliceCoefficients) (tables : List (List Entry)) (choice : List ℕ) (are : AreChosen mode alpha w slices tables choice) where
  pub chosen_reach : AllZip Reaches tables choice
  chosen_reach = subst (λ t. AllZip Reaches t choice) (sym are.tables_are) (reach_all mode alpha w are.lo are.hi slices choice are.number are.each)

  pub chosen_lengths : sizes_in tables choice ≡ map (slice_length mode alpha) (coded_slices w slices choice)
  chosen_lengths = ap (λ t. sizes_in t choice) are.tables_are ∙ sizes_all mode alpha w are.lo are.hi slices choice are.number are.each

  pub tables_number : length tables ≡ length slices
  tables_number = ap length are.tables_are ∙ length-map slices (entries_of mode alpha w are.lo are.hi)

  -- those of a picture: n from index m on
  pub chosen_range : (m n : ℕ) → AreChosen mode alpha w (take n (drop m slices)) (take n (drop m tables)) (take n (drop m choice))
  chosen_range m n =
      let f = entries_of mode alpha w are.lo are.hi in
      record {
        lo = are.lo;
        hi = are.hi;
        tables_are = ap (λ t. take n (drop m t)) are.tables_are ∙ ap (take n) (drop-map f m slices) ∙ take-map f n (drop m slices);
        number = same_take n (drop m choice) (drop m slices) (length-drop m choice ∙ ap (λ k. k - m) are.number ∙ sym (length-drop m slices));
        each = All-take (IsFrom are.lo are.hi) n (drop m choice) (All-drop (IsFrom are.lo are.hi) m choice are.each);
      }

  abbrev picture : ℕ → CodedPicture
  picture log2 = record { log2 = log2; slices = coded_slices w slices choice }

  pub picture_size : (log2 size : ℕ) → size ≡ sum (sizes_in tables choice) → 8 + 2 * length slices + size ≡ picture_length mode alpha (picture log2)
  picture_size log2 size e = omega (arith, e, ap sum chosen_lengths, coded_number w slices choice are.number)

  pub picture_whole : (log2 size count : ℕ) → size ≡ picture_length mode alpha (picture log2) → count ≡ length slices
      → picture_header_bytes size count log2 ++ sizes_bytes (sizes_in tables choice) ++ flat_map (slice_bytes mode alpha) (coded_slices w slices choice) ≡ picture_bytes mode alpha (picture log2)
  picture_whole log2 size count e f =
      ap (λ l. picture_header_bytes size count log2 ++ sizes_bytes l ++ flat_map (slice_bytes mode alpha) (coded_slices w slices choice)) chosen_lengths
      ∙ picture-whole mode alpha (picture log2) size count (coded_slices w slices choice) e (f ∙ sym (coded_number w slices choice are.number)) refl

-- ---- at one iteration of a loop

pub coded_at : (w : Weights) (slices : List SliceCoefficients) (choice : List ℕ) (i : ℕ) (d : SliceCoefficients) (e : CodedSlice) → length choice ≡ length slices → i < length slices
    → get_or (coded_slices w slices choice) i e ≡ coded_slice w (get_or choice i 0) (get_or slices i d)
coded_at w [] choice i d e number lt = absurd (omega (arith, lt))
coded_at w (s ∷ slices) [] i d e number lt = absurd (omega (arith, number))
coded_at w (s ∷ slices) (x ∷ choice) zero d e number lt = refl
coded_at w (s ∷ slices) (x ∷ choice) (suc i) d e number lt = coded_at w slices choice i d e (omega (arith, number)) (omega (arith, lt))

pub sizes_at : (tables : List (List Entry)) (choice : List ℕ) (i : ℕ) (d : List Entry) → AllZip Reaches tables choice → i < length tables
    → (get_or (sizes_in tables choice) i 0 ≡ size_in (get_or tables i d) (get_or choice i 0)) × Reaches (get_or tables i d) (get_or choice i 0)
sizes_at [] choice i d each lt = absurd (omega (arith, lt))
sizes_at (t ∷ tables) [] i d each lt = absurd each
sizes_at (t ∷ tables) (x ∷ choice) zero d each lt = (refl, each.0)
sizes_at (t ∷ tables) (x ∷ choice) (suc i) d each lt = sizes_at tables choice i d each.1 (omega (arith, lt))

pub sizes_number : (tables : List (List Entry)) (choice : List ℕ) → AllZip Reaches tables choice → length (sizes_in tables choice) ≡ length tables
sizes_number [] [] each = refl
sizes_number [] (x ∷ choice) each = absurd each
sizes_number (t ∷ tables) [] each = absurd each
sizes_number (t ∷ tables) (x ∷ choice) each = omega (arith, sizes_number tables choice each.1)

pub size_within : (tables : List (List Entry)) (choice : List ℕ) (i : ℕ) → AllZip Reaches tables choice → i < length tables → i < length (sizes_in tables choice)
size_within tables choice i each lt = omega (arith, lt, sizes_number tables choice each)

pub size_item : (tables : List (List Entry)) (choice : List ℕ) (i : ℕ) (d t : List Entry) → AllZip Reaches tables choice → i < length tables → t ≡ get_or tables i d
    → size_in t (get_or choice i 0) ≡ get_or (sizes_in tables choice) i (size_in t (get_or choice i 0))
size_item tables choice i d t each lt is =
    ap (λ t. size_in t (get_or choice i 0)) is ∙ sym (sizes_at tables choice i d each lt).0 ∙ get_or_default (sizes_in tables choice) i 0 (size_in t (get_or choice i 0)) (size_within tables choice i each lt)

pub reach_item : (tables : List (List Entry)) (choice : List ℕ) (i : ℕ) (d t : List Entry) → AllZip Reaches tables choice → i < length tables → t ≡ get_or tables i d → Reaches t (get_or choice i 0)
reach_item tables choice i d t each lt is = subst (λ t. Reaches t (get_or choice i 0)) (sym is) (sizes_at tables choice i d each lt).1

-- one size more
pub sum_more : (sizes : List ℕ) (i x : ℕ) → i < length sizes → x ≡ get_or sizes i x → sum (take (i + 1) sizes) ≡ sum (take i sizes) + x
sum_more sizes i x lt is =
    let more = (take_at_read sizes i x lt).1 in
    let last : sum (get_or sizes i x ∷ []) ≡ x = sum_by-cons (λ (n : ℕ). n) (get_or sizes i x) [] ∙ omega (arith, is) in
    ap sum more ∙ sum_by-append (λ (n : ℕ). n) (take i sizes) (get_or sizes i x ∷ []) ∙ ap (λ k. sum (take i sizes) + k) last

-- ---- the indices of a choice

entry_from : (mode : Interlace) (alpha : AlphaKind) (w : Weights) (lo hi : ℕ) (s : SliceCoefficients) (e : Entry) → Contains (entries_of mode alpha w lo hi s) e → IsFrom lo hi e.index
unfolding entries_of
entry_from mode alpha w lo hi s e h =
    let n = hi + 1 - lo in
    let found = contains_map (entry_of mode alpha w s) (range_with_len lo n) e h in
    let bounds = All-contains (InRange lo n) (range_with_len lo n) found.0 (range_bounds lo n) found.1 in
    let same : found.0 ≡ e.index = ap (λ (x : Entry). x.index) found.2 in
    record { least = omega (arith, same, bounds.0); most = omega (arith, same, bounds.0, bounds.1) }

pub all_from : (mode : Interlace) (alpha : AlphaKind) (w : Weights) (lo hi : ℕ) (slices : List SliceCoefficients) (choice : List Entry) → IsChoice (map (entries_of mode alpha w lo hi) slices) choice → All (IsFrom lo hi) (indices choice)
all_from mode alpha w lo hi [] [] h = All-nil (IsFrom lo hi)
all_from mode alpha w lo hi [] (e ∷ choice) h = absurd h
all_from mode alpha w lo hi (s ∷ slices) [] h = absurd h
all_from mode alpha w lo hi (s ∷ slices) (e ∷ choice) h =
    All-cons (IsFrom lo hi) e.index (indices choice) (entry_from mode alpha w lo hi s e h.0) (all_from mode alpha w lo hi slices choice h.1)
