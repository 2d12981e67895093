-- Choices and least sizes as a loop over the slices builds them.
use Rattle.std.proofs.Common.{◌≡◌, ℕ, zero, suc, ◌+◌, ◌<◌, ◌≤◌, min, List, [], ◌∷◌, ◌++◌, length, get_or, take, refl, sym, ap, ◌∙◌, arith, add-one}
use Rattle.std.specs.List.{Contains}
use Rattle.std.proofs.lemmas.List.{map-append, take_more}
use Rattle.std.proofs.lemmas.List.Sums.{sum_by_push}
use Rattle.rate_table.specs.declared.entry.Entry.{Entry}
use Rattle.rate_table.specs.Table.{IsChoice, HasSums, HasNoChoice, indices, least}

-- an index list of another length has no choice
pub no_choice-length : (slices : List (List Entry)) (chosen : List ℕ) → (length slices ≡ length chosen → ⊥) → HasNoChoice slices chosen
no_choice-length [] chosen other [] h e = other (ap length e)
no_choice-length [] chosen other (x ∷ c) h e = h
no_choice-length (s ∷ slices) chosen other [] h e = h
no_choice-length (s ∷ slices) [] other (x ∷ c) h e = cc
no_choice-length (s ∷ slices) (i ∷ chosen) other (x ∷ c) h e =
    let more : indices c ≡ chosen = cc in
    no_choice-length slices chosen (λ same. other (ap suc same)) c h.1 more

-- an index list with an index that has no entry has no choice
pub no_choice-entry : (slices : List (List Entry)) (chosen : List ℕ) (k : ℕ) → k < length slices → ((e : Entry) → Contains (get_or slices k []) e → e.index ≡ get_or chosen k 0 → ⊥) → HasNoChoice slices chosen
no_choice-entry [] chosen k lt none c h e = omega arith
no_choice-entry (s ∷ slices) chosen k lt none [] h e = h
no_choice-entry (s ∷ slices) [] k lt none (x ∷ c) h e = cc
no_choice-entry (s ∷ slices) (i ∷ chosen) zero lt none (x ∷ c) h e =
    let first : x.index ≡ i = cc in none x h.0 first
no_choice-entry (s ∷ slices) (i ∷ chosen) (suc k) lt none (x ∷ c) h e =
    let more : indices c ≡ chosen = cc in
    no_choice-entry slices chosen k (omega arith) none c h.1 more

-- a choice of the first slices, and an entry of the next
choice-push : (slices : List (List Entry)) (c : List Entry) (k : ℕ) (e : Entry) → k < length slices → IsChoice (take k slices) c → Contains (get_or slices k []) e → IsChoice (take (suc k) slices) (c ++ e ∷ [])
choice-push [] c k e lt h i = absurd (omega arith)
choice-push (s ∷ slices) [] zero e lt h i = (i, tt)
choice-push (s ∷ slices) (x ∷ c) zero e lt h i = absurd h
choice-push (s ∷ slices) [] (suc k) e lt h i = absurd h
choice-push (s ∷ slices) (x ∷ c) (suc k) e lt h i = (h.0, choice-push slices c k e (omega arith) h.1 i)

-- sums of the first slices, and an entry of the next
pub sums-more : (slices : List (List Entry)) (chosen : List ℕ) (k size error : ℕ) (e : Entry) → k < length slices → k < length chosen → Contains (get_or slices k []) e → e.index ≡ get_or chosen k 0 → HasSums (take k slices) (take k chosen) size error → HasSums (take (k + 1) slices) (take (k + 1) chosen) (size + e.size) (error + e.error)
sums-more slices chosen k size error e lt few i same (c, h, ids, s, r) =
    let h' : IsChoice (take (k + 1) slices) (c ++ e ∷ []) = rw add-one (choice-push slices c k e lt h i) in
    let ids' : indices (c ++ e ∷ []) ≡ take (k + 1) chosen = map-append (λ x. x.index) c (e ∷ []) ∙ rw (ids, same) refl ∙ sym (take_more chosen k 0 few) in
    (c ++ e ∷ [], h', ids', omega (arith, sum_by_push (λ (x : Entry). x.size) c e), omega (arith, sum_by_push (λ (x : Entry). x.error) c e))

-- the least of a value and those of further entries
abbrev pub least_from : (Entry → ℕ) → ℕ → List Entry → ℕ
least_from f m [] = m
least_from f m (x ∷ xs) = least_from f (min m (f x)) xs

least_from-min : (f : Entry → ℕ) (m : ℕ) (x : Entry) (xs : List Entry) → least_from f m (x ∷ xs) ≡ min m (least f (x ∷ xs))
least_from-min f m x [] = refl
least_from-min f m x (y ∷ xs) = omega (arith, least_from-min f (min m (f x)) y xs)

-- starting with the value of the first entry, it is the least of all
pub least_from-first : (f : Entry → ℕ) (x : Entry) (xs : List Entry) → 1 ≤ length xs → least_from f (f (get_or xs 0 x)) xs ≡ least f xs
least_from-first f d [] h = absurd (omega arith)
least_from-first f d (x ∷ []) h = omega arith
least_from-first f d (x ∷ y ∷ xs) h = omega (arith, least_from-min f (f x) x (y ∷ xs))
