-- The invariants of a merge.
use Rattle.std.specs.Prelude.{◌≡◌, ◌+◌, ◌≤◌, List, ◌⊎◌, Option, Some, None}
use Rattle.std.specs.List.{Contains}
use Rattle.rate_table.specs.declared.entry.Entry.{Entry}
use Rattle.rate_least.specs.declared.outcome.WidePair.{WidePair}
use Rattle.rate_least.specs.declared.bound.Bound.{Bound}
use Rattle.rate_least.specs.Pairs.{joined}
use Rattle.rate_least.specs.Layers.{IsFront, Joins}
use Rattle.rate_least.specs.inner.Covering.{weight}

-- p comes after q: it has more size, or the same size and no less error
abbrev pub IsBehind : WidePair → WidePair → Type 0
IsBehind p q = (q.size ≤ p.size) × (p.size ≤ q.size → q.error ≤ p.error)

pub record AreBehind (p : WidePair) (layer : List WidePair) : Type 0 where
  pub each : (q : WidePair) → Contains layer q → IsBehind p q

-- the frontier with one pair more, which comes after it
pub record Offered (p : WidePair) (old new : List WidePair) : Type 0 where
  pub front : IsFront (λ q. Contains old q ⊎ (p ≡ q)) new

-- The pair passes the bound: it may be in the next frontier.
abbrev pub Passes : Bound → WidePair → Type 0
Passes b p = (p.error + b.errors ≤ b.cap) × (weight b.multiplier p + b.floor ≤ b.most)

-- a pair of the layer joined with this one entry, if it passes
abbrev pub JoinsOne : Bound → List WidePair → Entry → WidePair → Type 0
JoinsOne b layer x p = (q : WidePair) × Contains layer q × (p ≡ joined q x) × Passes b p

-- the frontier of two
pub record Merged (b : Bound) (old layer : List WidePair) (x : Entry) (new : List WidePair) : Type 0 where
  pub front : IsFront (λ p. Contains old p ⊎ JoinsOne b layer x p) new

-- a pair joined with an entry, if it passes
abbrev pub JoinsIf : Bound → WidePair → Entry → Option WidePair → Type 0
JoinsIf b p x None = Passes b (joined p x) → ⊥
JoinsIf b p x (Some q) = (q ≡ joined p x) × Passes b q

-- the invariant of a merge of two: the parts that are done, those that remain, and the output
pub record Merging (b : Bound) (x : Entry) (done left layer_done layer_left out : List WidePair) : Type 0 where
  pub front : IsFront (λ p. Contains done p ⊎ JoinsOne b layer_done x p) out
  pub behind : (r : WidePair) → Contains left r → AreBehind r out
  pub layer_behind : (r : WidePair) → Contains layer_left r → AreBehind (joined r x) out

-- the merge of a layer and the next slice
abbrev pub IsNext : Bound → List WidePair → List Entry → List WidePair → Type 0
IsNext b layer slice next = IsFront (λ p. Joins layer slice p × Passes b p) next

-- A pair stays within the bound.
abbrev pub IsWithin : Bound → WidePair → Type 0
IsWithin b p = weight b.multiplier p + b.floor ≤ b.most

-- a subset with every entry of the slice that some pair of the layer stays within the bound with
pub record Passing (b : Bound) (layer : List WidePair) (slice few : List Entry) : Type 0 where
  pub only : (x : Entry) → Contains few x → Contains slice x
  pub all : (x : Entry) (p : WidePair) → Contains slice x → Contains layer p → IsWithin b (joined p x) → Contains few x
