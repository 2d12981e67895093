-- Least Lagrangian costs of slices, and costs of choices.
use Rattle.std.proofs.Common.{◌≡◌, ℕ, ◌+◌, ◌*◌, ◌≤◌, List, [], ◌∷◌, ap, arith}
use Rattle.std.specs.List.{Contains, sum_by}
use Rattle.std.proofs.lemmas.List.Sums.{sum_by-cons}
use Rattle.rate_table.specs.declared.entry.Entry.{Entry}
use Rattle.rate_table.specs.Table.{IsChoice, size_of, error_of, least}
use Rattle.rate_table.specs.Pairs.{rest}
use Rattle.rate_table.proofs.Entries.{least_at, least_below}

-- no entry is below the least
pub least_at_most : (f : Entry → ℕ) (xs : List Entry) (x : Entry) → Contains xs x → least f xs ≤ f x
least_at_most f xs x h = least_at f xs h.0 x h.1 h.2

-- the cost of a choice
pub cost_split : (m : ℕ) (c : List Entry) → sum_by (λ x. x.error + m * x.size) c ≡ error_of c + m * size_of c
cost_split m [] = omega arith
cost_split m (x ∷ c) =
    let f : Entry → ℕ = λ x. x.error + m * x.size in
    let a : size_of (x ∷ c) ≡ x.size + size_of c = sum_by-cons (λ x. x.size) x c in
    let b = ap (λ n. m * n) a in
    omega (arith, sum_by-cons f x c, sum_by-cons (λ x. x.error) x c, b, cost_split m c)

-- the sum of the least costs is at most the cost of a choice
pub rest_below : (m : ℕ) (slices : List (List Entry)) (c : List Entry) → IsChoice slices c → rest m slices ≤ error_of c + m * size_of c
rest_below m slices c h =
    omega (arith, least_below (λ x. x.error + m * x.size) slices c h, cost_split m c)
