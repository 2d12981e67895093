-- Pairs of size and error under a cap on the error: dominance, joins, and the tests that prune a pair. Our own
-- definitions.
use Rattle.std.specs.Prelude.{ℕ, ◌+◌, ◌*◌, ◌<◌, ◌≤◌, List, [], ◌∷◌}
use Rattle.std.specs.List.{sum_by}
use Rattle.rate_table.specs.declared.entry.Entry.{Entry}
use Rattle.rate_table.specs.Table.{least}
use Rattle.rate_table.specs.Pairs.{rest}
use Rattle.rate_least.specs.declared.outcome.WidePair.{WidePair}

-- a dominates b: neither of its numbers is greater
abbrev pub Dominates : WidePair → WidePair → Type 0
Dominates a b = (a.size ≤ b.size) × (a.error ≤ b.error)

-- the pair of a partial choice extended by an entry of the next slice
abbrev pub joined : WidePair → Entry → WidePair
joined p x = record { size = p.size + x.size; error = p.error + x.error }

-- sizes rise and errors fall
abbrev pub RisesAndFalls : List WidePair → Type 0
RisesAndFalls [] = Unit {0}
RisesAndFalls (p ∷ []) = Unit {0}
RisesAndFalls (p ∷ q ∷ ps) = (p.size < q.size) × (q.error < p.error) × RisesAndFalls (q ∷ ps)

-- the sum of the least errors of these slices
abbrev pub least_error : List (List Entry) → ℕ
least_error slices = sum_by (least (λ x. x.error)) slices

-- With the slices `later` still to come, the pair can be completed to a choice of error at most the cap.
abbrev pub MeetsCap : ℕ → List (List Entry) → WidePair → Type 0
MeetsCap cap later p = p.error + least_error later ≤ cap

-- With the slices `later` still to come, the Lagrangian bound of the pair by the multiplier m does not exceed that
-- of size u under the cap.
abbrev pub StaysWithin : ℕ → ℕ → ℕ → List (List Entry) → WidePair → Type 0
StaysWithin cap m size later p = p.error + rest m later + m * p.size ≤ cap + m * size
