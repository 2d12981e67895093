-- All choices by their numbers, and their sums.
use Rattle.std.proofs.Common.{◌≡◌, ℕ, suc, ◌-◌, ◌+◌, ◌*◌, ◌/◌, ◌%◌, ◌≤◌, ◌<◌, ◌^◌, List, [], ◌∷◌, map, length, drop, get_or, refl, sym, ap, ◌∙◌, subst, inl, inr, arith}
use Rattle.std.specs.List.{All, flat_map}
use Rattle.std.proofs.lemmas.Bool.{cases_lt}
use Rattle.std.proofs.lemmas.List.{drop_more, length-map, map-append, get_or-map, get_or_append_left, get_or-append_right}
use Rattle.std.proofs.lemmas.List.Elements.{All-head, All-tail, All-cons, All-nil, All-append}
use Rattle.std.proofs.lemmas.List.Sums.{sum_by-cons}
use Rattle.std.proofs.Math.Nat.{mul_assoc, mul-pos, add-div_right, add-mod_right, div-eq_of_lt, mod-eq_of_lt, le-mul_of_pos_right, mul-div_cancel_left}
use Rattle.std.proofs.lemmas.Nat.{div_below}
use Rattle.rate_table.specs.declared.entry.Entry.{Entry}
use Rattle.rate_table.specs.declared.table.TheConstants.{MAX_TABLE_SLICES}
use Rattle.rate_table.specs.Table.{IsEntry, IsSliceTable, size_of, error_of, indices}
use Rattle.rate_table.specs.Choices.{all_choices, width}
use Rattle.rate_table.proofs.Enumerated.{count_is_width}
use Rattle.rate_table.specs.declared.small.Sums.{Sums}
use Rattle.rate_table.specs.Small.{sums_of, all_sums, plus, choice_at}

-- ---- the number of choices

-- the rest of a list of slices after one of them
pub rest_of_slices : (slices : List (List Entry)) (i : ℕ) → i < length slices → All IsSliceTable (drop i slices) → All IsSliceTable (drop (i + 1) slices)
rest_of_slices slices i lt each = All-tail IsSliceTable (get_or slices i []) (drop (i + 1) slices) (subst (λ l. All IsSliceTable l) (drop_more slices i [] lt) each)

pub width-pos : (slices : List (List Entry)) → All IsSliceTable slices → 0 < width slices
width-pos [] h = omega arith
width-pos (s ∷ slices) h = mul-pos (All-head IsSliceTable s slices h).some (width-pos slices (All-tail IsSliceTable s slices h))

-- what is left of the product after one slice more
pub width-more : (slices : List (List Entry)) (i product total : ℕ) (s : List Entry) → i < length slices → s ≡ get_or slices i []
    → product * width (drop i slices) ≡ total → (product * length s) * width (drop (i + 1) slices) ≡ total
width-more slices i product total s lt e so_far =
    let one : product * width (drop i slices) ≡ (product * length s) * width (drop (i + 1) slices) =
    rw (drop_more slices i [] lt, ← e) (sym (mul_assoc product (length s) (width (drop (i + 1) slices)))) in
    sym one ∙ so_far

-- the product so far is no more than the whole product
pub width-ge : (slices : List (List Entry)) (i product total : ℕ) (s : List Entry) → i < length slices → s ≡ get_or slices i [] → All IsSliceTable (drop i slices)
    → product * width (drop i slices) ≡ total → product * length s ≤ total
width-ge slices i product total s lt e each so_far =
    let more = width-more slices i product total s lt e so_far in
    let pos : 0 < width (drop (i + 1) slices) = width-pos (drop (i + 1) slices) (rest_of_slices slices i lt each) in
    let le : product * length s ≤ (product * length s) * width (drop (i + 1) slices) = le-mul_of_pos_right (product * length s) pos in
    omega (arith, le, more)

-- the width without its first slice
pub width-div : (slices : List (List Entry)) (i : ℕ) (s : List Entry) → i < length slices → s ≡ get_or slices i [] → 0 < length s → width (drop i slices) / length s ≡ width (drop (i + 1) slices)
width-div slices i s lt e pos = rw (drop_more slices i [] lt, ← e) (mul-div_cancel_left (width (drop (i + 1) slices)) pos)

-- ---- their sums

map-plus : (x : Entry) (choices : List (List Entry)) → map sums_of (map (λ c. x ∷ c) choices) ≡ map (plus x) (map sums_of choices)
map-plus x [] = refl
map-plus x (c ∷ cs) =
    let size : size_of (x ∷ c) ≡ x.size + size_of c = sum_by-cons (λ (y : Entry). y.size) x c in
    let error : error_of (x ∷ c) ≡ x.error + error_of c = sum_by-cons (λ (y : Entry). y.error) x c in
    let one : sums_of (x ∷ c) ≡ plus x (sums_of c) = λ i. record { size = size i; error = error i } in
    rw (one, map-plus x cs) refl

sums-block : (s : List Entry) (choices : List (List Entry)) → map sums_of (flat_map (λ x. map (λ c. x ∷ c) choices) s) ≡ flat_map (λ x. map (plus x) (map sums_of choices)) s
sums-block [] choices = refl
sums-block (x ∷ s) choices = map-append sums_of (map (λ c. x ∷ c) choices) (flat_map (λ x. map (λ c. x ∷ c) choices) s) ∙ rw (map-plus x choices, sums-block s choices) refl

pub all_sums-cons : (s : List Entry) (slices : List (List Entry)) → all_sums (s ∷ slices) ≡ flat_map (λ x. map (plus x) (all_sums slices)) s
all_sums-cons s slices = sums-block s (all_choices slices)

pub length-all_sums : (slices : List (List Entry)) → length (all_sums slices) ≡ width slices
length-all_sums slices = length-map (all_choices slices) sums_of ∙ count_is_width slices

-- the sums of n entries within the limits
abbrev pub AreBelow : ℕ → Sums → Type 0
AreBelow n s = (s.size ≤ 65536 * n) × (s.error ≤ 8796093022208 * n)

below-map : (n : ℕ) (x : Entry) (all : List Sums) → IsEntry x → All (AreBelow n) all → All (AreBelow (suc n)) (map (plus x) all)
below-map n x [] limits h = All-nil (AreBelow (suc n))
below-map n x (s ∷ all) limits h =
    let below = All-head (AreBelow n) s all h in
    All-cons (AreBelow (suc n)) (plus x s) (map (plus x) all) (omega (arith, below.0, limits.size), omega (arith, below.1, limits.error)) (below-map n x all limits (All-tail (AreBelow n) s all h))

below-block : (n : ℕ) (slice : List Entry) (all : List Sums) → All IsEntry slice → All (AreBelow n) all → All (AreBelow (suc n)) (flat_map (λ x. map (plus x) all) slice)
below-block n [] all limits h = All-nil (AreBelow (suc n))
below-block n (x ∷ slice) all limits h =
    All-append (AreBelow (suc n)) (map (plus x) all) (flat_map (λ x. map (plus x) all) slice) (below-map n x all (All-head IsEntry x slice limits) h) (below-block n slice all (All-tail IsEntry x slice limits) h)

sums-below : (slices : List (List Entry)) → All IsSliceTable slices → All (AreBelow (length slices)) (all_sums slices)
sums-below [] h = All-cons (AreBelow 0) (record { size = 0; error = 0 }) [] (omega arith, omega arith) (All-nil (AreBelow 0))
sums-below (s ∷ slices) h = rw (all_sums-cons s slices) (below-block (length slices) s (all_sums slices) (All-head IsSliceTable s slices h).limits (sums-below slices (All-tail IsSliceTable s slices h)))

pub sums-small : (slices : List (List Entry)) → All IsSliceTable slices → length slices ≤ MAX_TABLE_SLICES → All (λ s. (s.size ≤ 2 ^ 40) × (s.error ≤ 2 ^ 62)) (all_sums slices)
sums-small slices h few = λ k d lt. let below = sums-below slices h k d lt in (omega (arith, below.0, few), omega (arith, below.1, few))

-- ---- the choice with a number

-- the sums at a position are those of the choice with that number
pub sums_at : (slices : List (List Entry)) (all : List Sums) (i : ℕ) → all ≡ all_sums slices → i < length all → get_or all i (record { size = 0; error = 0 }) ≡ sums_of (choice_at slices i)
sums_at slices all i e lt =
    let fits : i < length (all_choices slices) = omega (arith, ap length e, length-map (all_choices slices) sums_of, lt) in
    ap (λ (l : List Sums). get_or l i (record { size = 0; error = 0 })) e ∙ get_or-map sums_of (all_choices slices) i [] (record { size = 0; error = 0 }) fits

block-at : (slice : List Entry) (choices : List (List Entry)) (n : ℕ) (d : Entry) (c : List Entry) → 0 < length choices → n < length slice * length choices
    → get_or (flat_map (λ x. map (λ c. x ∷ c) choices) slice) n c ≡ get_or slice (n / length choices) d ∷ get_or choices (n % length choices) c
block-at [] choices n d c pos lt = absurd (omega arith)
block-at (x ∷ slice) choices n d c pos lt =
    let front = map (λ c. x ∷ c) choices in
    let rest = flat_map (λ x. map (λ c. x ∷ c) choices) slice in
    let len : length front ≡ length choices = length-map choices (λ c. x ∷ c) in
    elim (cases_lt n (length choices)) [
      | inl below ↦
          let quotient : n / length choices ≡ 0 = div-eq_of_lt below in
          let remainder : n % length choices ≡ n = mod-eq_of_lt below in
          get_or_append_left front rest c n (omega arith) ∙ get_or-map (λ c. x ∷ c) choices n c c below ∙ rw (quotient, remainder) refl
      | inr le ↦
          let m = n - length choices in
          let n-is : n ≡ m + length choices = omega arith in
          let quotient : n / length choices ≡ suc (m / length choices) = ap (λ k. k / length choices) n-is ∙ add-div_right m pos ∙ grind arith in
          let remainder : n % length choices ≡ m % length choices = ap (λ k. k % length choices) n-is ∙ add-mod_right m (length choices) in
          let fits : m < length slice * length choices = grind (arith, n-is, lt) in
          get_or-append_right front rest (length choices) n c len le ∙ block-at slice choices m d c pos fits ∙ rw (quotient, remainder) refl
    ]

choice_at-cons : (s : List Entry) (slices : List (List Entry)) (n : ℕ) (d : Entry) → All IsSliceTable slices → n < length s * width slices
    → choice_at (s ∷ slices) n ≡ get_or s (n / width slices) d ∷ choice_at slices (n % width slices)
choice_at-cons s slices n d h lt =
    let len = count_is_width slices in
    let pos : 0 < length (all_choices slices) = rw len (width-pos slices h) in
    let fits : n < length s * length (all_choices slices) = rw len lt in
    rw (← len) (block-at s (all_choices slices) n d [] pos fits)

pub number-below : (slices : List (List Entry)) (i rest : ℕ) (s : List Entry) → i < length slices → s ≡ get_or slices i [] → All IsSliceTable (drop i slices)
    → rest < width (drop i slices) → rest / width (drop (i + 1) slices) < length s
number-below slices i rest s lt e each below =
    let here : rest < length s * width (drop (i + 1) slices) = subst (λ (l : List (List Entry)). rest < width l) (drop_more slices i [] lt ∙ ap (λ (x : List Entry). x ∷ drop (i + 1) slices) (sym e)) below in
    div_below rest (width (drop (i + 1) slices)) (length s) (width-pos (drop (i + 1) slices) (rest_of_slices slices i lt each)) here

pub choice_at-more : (slices : List (List Entry)) (i rest : ℕ) (s : List Entry) (d : Entry) → i < length slices → s ≡ get_or slices i [] → All IsSliceTable (drop i slices)
    → rest < width (drop i slices) → indices (choice_at (drop i slices) rest) ≡ (get_or s (rest / width (drop (i + 1) slices)) d).index ∷ indices (choice_at (drop (i + 1) slices) (rest % width (drop (i + 1) slices)))
choice_at-more slices i rest s d lt e each below =
    let front : drop i slices ≡ s ∷ drop (i + 1) slices = drop_more slices i [] lt ∙ ap (λ (x : List Entry). x ∷ drop (i + 1) slices) (sym e) in
    let here : rest < length s * width (drop (i + 1) slices) = subst (λ (l : List (List Entry)). rest < width l) front below in
    ap (λ (l : List (List Entry)). indices (choice_at l rest)) front ∙ ap (λ (c : List Entry). indices c) (choice_at-cons s (drop (i + 1) slices) rest d (rest_of_slices slices i lt each) here)

-- sums that were read at a position are those of the choice with that number
pub sums_read : (slices : List (List Entry)) (all : List Sums) (i : ℕ) (s : Sums) → all ≡ all_sums slices → i < length all → s ≡ get_or all i s → s ≡ sums_of (choice_at slices i)
sums_read slices all i s e lt read =
    let fits : i < length (all_choices slices) = omega (arith, ap length e, length-map (all_choices slices) sums_of, lt) in
    read ∙ ap (λ (l : List Sums). get_or l i s) e ∙ get_or-map sums_of (all_choices slices) i [] s fits
