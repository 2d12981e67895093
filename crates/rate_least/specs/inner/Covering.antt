-- The steps from layer to layer as they are checked: a pair is compared with the numbers of a bound.
use Rattle.std.specs.Prelude.{◌≡◌, ℕ, ◌+◌, ◌*◌, ◌<◌, ◌≤◌, ◌^◌, ◌⊎◌, List, slice_index_or}
use Rattle.std.specs.List.{All, Contains}
use Rattle.rate_table.specs.declared.entry.Entry.{Entry}
use Rattle.rate_table.specs.Pairs.{rest}
use Rattle.rate_least.specs.declared.outcome.WidePair.{WidePair}
use Rattle.rate_least.specs.Pairs.{Dominates, joined, least_error}
use Rattle.rate_least.specs.declared.bound.Bound.{Bound}

-- the Lagrangian cost of a pair: its error plus the multiplier times its size
abbrev pub weight : ℕ → WidePair → ℕ
weight m p = p.error + m * p.size

-- the numbers for a cap, a multiplier and a size, with the slices `later` still to come
pub record IsBoundOf (cap m size : ℕ) (later : List (List Entry)) (b : Bound) : Type 0 where
  pub errors : b.errors ≡ least_error later
  pub limit : b.cap ≡ cap
  pub floor : b.floor ≡ rest m later
  pub most : b.most ≡ cap + m * size
  pub multiplier : b.multiplier ≡ m

-- numbers far below the limits of their types
pub record IsSmall (b : Bound) : Type 0 where
  pub errors : b.errors < 2 ^ 64
  pub floor : b.floor < 2 ^ 98

-- A pair is dominated by one of the next layer, or cannot meet the cap, or is pruned by the bound.
abbrev pub Covers : Bound → List WidePair → WidePair → Type 0
Covers b next p = ((q : WidePair) × Contains next q × Dominates q p) ⊎ (p.error + b.errors ≤ b.cap → ⊥) ⊎ (weight b.multiplier p + b.floor ≤ b.most → ⊥)

-- Each pair of a layer, joined with an entry, is covered.
abbrev pub CoversEntry : Bound → List WidePair → List WidePair → Entry → Type 0
CoversEntry b layer next x = All (λ p. Covers b next (joined p x)) layer

-- The first n pairs of a layer have at most this size.
abbrev pub ReachesTo : List WidePair → ℕ → ℕ → Type 0
ReachesTo pairs n size = (k : ℕ) → k < n → (slice_index_or pairs k (record { size = 0; error = 0 })).size ≤ size

-- No pair costs less.
abbrev pub IsBelowWeights : ℕ → List WidePair → ℕ → Type 0
IsBelowWeights m layer least = All (λ p. least ≤ weight m p) layer
