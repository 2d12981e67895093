-- Prefix sums, one item further.
use Rattle.std.proofs.Common.{◌≡◌, ℕ, zero, suc, ◌+◌, ◌<◌, List, [], ◌∷◌, ◌++◌, refl, ◌∙◌, arith, get_or, below_more, length-append}
use Rattle.std.proofs.lemmas.List.{get_or_append_left, get_or_push}
use Rattle.qt_tables.specs.Sums.{AreSums}

-- the sum before the first item
pub sums-first : (before : ℕ → ℕ) → 0 ≡ before 0 → AreSums 0 before (0 ∷ [])
sums-first before e = record { count = refl; each = first }
  where
    first : (k : ℕ) → k < 1 → get_or (0 ∷ []) k 0 ≡ before k
    first zero h = e
    first (suc k) h = absurd (omega arith)

-- one more sum
pub sums-more : (n : ℕ) (before : ℕ → ℕ) (sums : List ℕ) (total : ℕ) → AreSums n before sums → total ≡ before (n + 1) → AreSums (n + 1) before (sums ++ total ∷ [])
sums-more n before sums total are e = record {
  count = omega (arith, length-append sums (total ∷ []), are.count);
  each = below_more _ _
      (λ k h. get_or_append_left sums (total ∷ []) 0 k (omega (arith, are.count)) ∙ are.each k h)
      (get_or_push sums total 0 (n + 1) are.count ∙ e);
}
