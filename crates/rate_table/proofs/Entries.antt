-- Entries of a slice by their indices, and by their sizes.
use Rattle.std.proofs.Common.{◌≡◌, ℕ, zero, suc, ◌<◌, ◌≤◌, List, [], ◌∷◌, length, get_or, refl, sym, ap, ◌∙◌, arith, ⊎_elim}
use Rattle.std.specs.List.{Contains, All, sum_by}
use Rattle.std.proofs.lemmas.List.Sums.{sum_by-cons}
use Rattle.std.proofs.lemmas.List.Elements.{All-head, All-tail}
use Rattle.std.proofs.lemmas.Bool.{cases_lt}
use Rattle.rate_table.specs.declared.entry.Entry.{Entry}
use Rattle.rate_table.specs.Table.{IndicesRise, IsSliceTable, IsChoice, size_of, indices, least, least_sizes}
use Rattle.rate_table.proofs.Lists.{contains_cases, contains_head, contains_tail, contains_none}

-- ---- indices

pub index_after : (x : Entry) (xs : List Entry) (y : Entry) → IndicesRise (x ∷ xs) → Contains xs y → x.index < y.index
index_after x [] y h c = absurd (contains_none y c)
index_after x (z ∷ xs) y h c =
    ⊎_elim (λ e. let e' = ap (λ (w : Entry). w.index) e in omega arith) (λ i. omega (arith, index_after z xs y h.1 i)) (contains_cases z xs y c)

pub rest_rises : (x : Entry) (xs : List Entry) → IndicesRise (x ∷ xs) → IndicesRise xs
rest_rises x [] h = tt
rest_rises x (y ∷ xs) h = h.1

-- entries with the same index are equal
pub index_same : (xs : List Entry) (x y : Entry) → IndicesRise xs → Contains xs x → Contains xs y → x.index ≡ y.index → x ≡ y
index_same [] x y r c d e = absurd (contains_none x c)
index_same (z ∷ xs) x y r c d e =
    ⊎_elim
    (λ a. ⊎_elim (λ b. sym a ∙ b) (λ j. let a' = ap (λ (w : Entry). w.index) a in absurd (omega (arith, index_after z xs y r j))) (contains_cases z xs y d))
    (λ i. ⊎_elim (λ b. let b' = ap (λ (w : Entry). w.index) b in absurd (omega (arith, index_after z xs x r i))) (λ j. index_same xs x y (rest_rises z xs r) i j e) (contains_cases z xs y d))
    (contains_cases z xs x c)

-- choices with the same indices are equal
pub choice_same : (slices : List (List Entry)) → All IsSliceTable slices → (c d : List Entry) → IsChoice slices c → IsChoice slices d → indices c ≡ indices d → c ≡ d
choice_same [] a [] [] h i e = refl
choice_same [] a [] (y ∷ d) h i e = absurd i
choice_same [] a (x ∷ c) d h i e = absurd h
choice_same (s ∷ ss) a [] d h i e = absurd h
choice_same (s ∷ ss) a (x ∷ c) [] h i e = absurd i
choice_same (s ∷ ss) a (x ∷ c) (y ∷ d) h i e =
    let slice = All-head IsSliceTable s ss a in
    let first : x.index ≡ y.index = cc in
    let more : indices c ≡ indices d = cc in
    let same = index_same s x y slice.rises h.0 i.0 first in
    let rest = choice_same ss (All-tail IsSliceTable s ss a) c d h.1 i.1 more in
    λ j. same j ∷ rest j

-- ---- least sizes

-- some entry has the least value
pub least_attained : (f : Entry → ℕ) (x : Entry) (xs : List Entry) → (y : Entry) × Contains (x ∷ xs) y × (f y ≡ least f (x ∷ xs))
least_attained f x [] = (x, contains_head x [], refl)
least_attained f x (z ∷ xs) =
    let r = least_attained f z xs in
    ⊎_elim (λ l. (r.0, contains_tail x (z ∷ xs) r.0 r.1, omega (arith, r.2))) (λ l. (x, contains_head x (z ∷ xs), omega (arith, r.2))) (cases_lt (f r.0) (f x))

-- some choice has the least sizes
pub least_choice : (slices : List (List Entry)) → All IsSliceTable slices → (c : List Entry) × IsChoice slices c × (size_of c ≡ least_sizes slices)
least_choice [] a = ([], tt, refl)
least_choice ([] ∷ ss) a = let h = All-head IsSliceTable [] ss a in absurd (omega (arith, h.some))
least_choice ((x ∷ s) ∷ ss) a =
    let r = least_attained (λ x. x.size) x s in
    let c = least_choice ss (All-tail IsSliceTable (x ∷ s) ss a) in
    (r.0 ∷ c.0, (r.1, c.1), omega (arith, sum_by-cons (λ (x : Entry). x.size) r.0 c.0, sum_by-cons (least (λ x. x.size)) (x ∷ s) ss, r.2, c.2))

-- no entry is below the least
pub least_at : (f : Entry → ℕ) (xs : List Entry) (k : ℕ) (x : Entry) → k < length xs → get_or xs k x ≡ x → least f xs ≤ f x
least_at f [] k x h e = omega arith
least_at f (y ∷ []) zero x h e = let e' = ap f e in omega arith
least_at f (y ∷ []) (suc k) x h e = omega arith
least_at f (y ∷ z ∷ xs) zero x h e = let e' = ap f e in omega arith
least_at f (y ∷ z ∷ xs) (suc k) x h e = let ih = least_at f (z ∷ xs) k x (omega arith) e in omega arith

-- the sum of the least values is at most that of a choice
pub least_below : (f : Entry → ℕ) (slices : List (List Entry)) (c : List Entry) → IsChoice slices c → sum_by (least f) slices ≤ sum_by f c
least_below f [] [] h = omega arith
least_below f [] (x ∷ c) h = absurd h
least_below f (s ∷ ss) [] h = absurd h
least_below f (s ∷ ss) (x ∷ c) h =
    omega (arith, sum_by-cons (least f) s ss, sum_by-cons f x c, least_at f s h.0.0 x h.0.1 h.0.2, least_below f ss c h.1)
