-- The steps from layer to layer as they are checked: a pair is compared with the numbers of a bound.
use Rattle.std.specs.Prelude.{◌≡◌, ℕ, ◌+◌, ◌*◌, ◌<◌, ◌≤◌, ◌^◌, ◌⊎◌, List, slice_index_or}
use Rattle.std.specs.List.{All, Contains}
use Rattle.rate_table.specs.declared.entry.Entry.{Entry}
use Rattle.rate_table.specs.declared.entry.Pair.{Pair}
use Rattle.rate_table.specs.Table.{Table, least_sizes}
use Rattle.rate_table.specs.Pairs.{Dominates, joined, rest}
use Rattle.rate_check.specs.declared.bound.Bound.{Bound}

-- the Lagrangian cost of a pair: its error plus the multiplier times its size
abbrev pub weight : ℕ → Pair → ℕ
weight m p = p.error + m * p.size

-- the numbers for a table, a multiplier and an error, with the slices `later` still to come
pub record IsBoundOf (t : Table) (m u : ℕ) (later : List (List Entry)) (b : Bound) : Type 0 where
  pub taken : b.taken ≡ t.fixed + least_sizes later
  pub budget : b.budget ≡ t.budget
  pub floor : b.floor ≡ rest m later + m * t.fixed
  pub most : b.most ≡ u + m * t.budget
  pub multiplier : b.multiplier ≡ m

-- numbers far below the limits of their types
pub record IsSmall (b : Bound) : Type 0 where
  pub taken : b.taken < 2 ^ 40
  pub budget : b.budget < 2 ^ 31
  pub floor : b.floor < 2 ^ 99

-- A pair is dominated by one of the next layer, or cannot fit, or is pruned by the bound.
abbrev pub Covers : Bound → List Pair → Pair → Type 0
Covers b next p = ((q : Pair) × Contains next q × Dominates q p) ⊎ (b.taken + p.size ≤ b.budget → ⊥) ⊎ (weight b.multiplier p + b.floor ≤ b.most → ⊥)

-- Each pair of a layer, joined with an entry, is covered.
abbrev pub CoversEntry : Bound → List Pair → List Pair → Entry → Type 0
CoversEntry b layer next x = All (λ p. Covers b next (joined p x)) layer

-- The first n pairs of a layer have at most this size.
abbrev pub ReachesTo : List Pair → ℕ → ℕ → Type 0
ReachesTo pairs n size = (k : ℕ) → k < n → (slice_index_or pairs k (record { size = 0; error = 0 })).size ≤ size

-- No pair costs less.
abbrev pub IsBelowWeights : ℕ → List Pair → ℕ → Type 0
IsBelowWeights m layer least = All (λ p. least ≤ weight m p) layer
