-- Pairs of size and error: dominance, joins, and the tests that prune a pair. Our own definitions.
use Rattle.std.specs.Prelude.{ℕ, ◌+◌, ◌*◌, ◌<◌, ◌≤◌, List, [], ◌∷◌}
use Rattle.std.specs.List.{sum_by}
use Rattle.rate_table.specs.declared.entry.Entry.{Entry}
use Rattle.rate_table.specs.declared.entry.Pair.{Pair}
use Rattle.rate_table.specs.Table.{Table, least, least_sizes}

-- a dominates b: neither of its numbers is greater
abbrev pub Dominates : Pair → Pair → Type 0
Dominates a b = (a.size ≤ b.size) × (a.error ≤ b.error)

-- the pair of a partial choice extended by an entry of the next slice
abbrev pub joined : Pair → Entry → Pair
joined p x = record { size = p.size + x.size; error = p.error + x.error }

-- sizes rise and errors fall
abbrev pub RisesAndFalls : List Pair → Type 0
RisesAndFalls [] = Unit {0}
RisesAndFalls (p ∷ []) = Unit {0}
RisesAndFalls (p ∷ q ∷ ps) = (p.size < q.size) × (q.error < p.error) × RisesAndFalls (q ∷ ps)

-- the Lagrangian cost of an entry: its error plus the multiplier times its size
abbrev pub cost : ℕ → Entry → ℕ
cost m x = x.error + m * x.size

-- the sum of the least Lagrangian costs of these slices
abbrev pub rest : ℕ → List (List Entry) → ℕ
rest m slices = sum_by (least (λ x. x.error + m * x.size)) slices

-- With the slices `later` still to come, the pair can be completed within the budget.
abbrev pub CanFit : Table → List (List Entry) → Pair → Type 0
CanFit t later p = t.fixed + (p.size + least_sizes later) ≤ t.budget

-- With the slices `later` still to come, the Lagrangian bound of the pair by the multiplier m does not exceed the
-- error u. The budget's bytes are added on the other side, so nothing is subtracted.
abbrev pub StaysWithin : Table → ℕ → ℕ → List (List Entry) → Pair → Type 0
StaysWithin t m u later p = p.error + rest m later + m * (t.fixed + p.size) ≤ u + m * t.budget
