-- The invariants of a merge.
use Rattle.std.specs.Prelude.{◌≡◌, ℕ, ◌+◌, ◌*◌, ◌≤◌, List, ◌⊎◌, Option, Some, None}
use Rattle.std.specs.List.{Contains}
use Rattle.rate_table.specs.declared.entry.Entry.{Entry}
use Rattle.rate_table.specs.declared.entry.Pair.{Pair}
use Rattle.rate_layers.specs.declared.bound.Bound.{Bound}
use Rattle.rate_table.specs.Pairs.{joined}
use Rattle.rate_layers.specs.Layers.{IsFront}
use Rattle.rate_layers.specs.inner.Bound.{HasRoom, IsWithin}

-- p comes after q: it has more size, or the same size and no less error
abbrev pub IsBehind : Pair → Pair → Type 0
IsBehind p q = (q.size ≤ p.size) × (p.size ≤ q.size → q.error ≤ p.error)

pub record AreBehind (p : Pair) (layer : List Pair) : Type 0 where
  pub each : (q : Pair) → Contains layer q → IsBehind p q

-- the frontier with one pair more, which comes after it
pub record Offered (p : Pair) (old new : List Pair) : Type 0 where
  pub front : IsFront (λ q. Contains old q ⊎ (p ≡ q)) new

-- The pair passes the bound: it may be in the next frontier.
pub record Passes (b : Bound) (p : Pair) : Type 0 where
  pub room : HasRoom b p
  pub within : IsWithin b p

-- a pair of the layer joined with this one entry, if it passes
abbrev pub JoinsOne : Bound → List Pair → Entry → Pair → Type 0
JoinsOne b layer x p = (q : Pair) × Contains layer q × (p ≡ joined q x) × Passes b p

-- the frontier of two
pub record Merged (b : Bound) (old layer : List Pair) (x : Entry) (new : List Pair) : Type 0 where
  pub front : IsFront (λ p. Contains old p ⊎ JoinsOne b layer x p) new

-- a pair joined with an entry, if it passes
abbrev pub JoinsIf : Bound → Pair → Entry → Option Pair → Type 0
JoinsIf b p x None = Passes b (joined p x) → ⊥
JoinsIf b p x (Some q) = (q ≡ joined p x) × Passes b q

-- the invariant of a merge of two: the parts that are done, those that remain, and the output
pub record Merging (b : Bound) (x : Entry) (done left layer_done layer_left out : List Pair) : Type 0 where
  pub front : IsFront (λ p. Contains done p ⊎ JoinsOne b layer_done x p) out
  pub behind : (r : Pair) → Contains left r → AreBehind r out
  pub layer_behind : (r : Pair) → Contains layer_left r → AreBehind (joined r x) out

-- a subset that dominates every entry of the slice
pub record Thinned (slice few : List Entry) : Type 0 where
  pub only : (x : Entry) → Contains few x → Contains slice x
  pub covers : (x : Entry) → Contains slice x → (y : Entry) × Contains few y × (y.size ≤ x.size) × (y.error ≤ x.error)

-- Each pair of the layer costs at least `floor`.
pub record IsFloor (m : ℕ) (layer : List Pair) (floor : ℕ) : Type 0 where
  pub least : (p : Pair) → Contains layer p → floor ≤ p.error + m * p.size

-- a subset with every entry of the slice that some pair of the layer stays within the bound with
pub record Passing (b : Bound) (layer : List Pair) (slice few : List Entry) : Type 0 where
  pub only : (x : Entry) → Contains few x → Contains slice x
  pub all : (x : Entry) (p : Pair) → Contains slice x → Contains layer p → IsWithin b (joined p x) → Contains few x
