-- Pareto frontiers under a cap, and the Lagrangian multiplier that bounds them. Our own definitions.
use Rattle.std.specs.Prelude.{◌≡◌, ℕ, suc, ◌≤◌, ◌^◌, ◌↔◌, List, [], length, slice_index_or, take, drop}
use Rattle.std.specs.List.{AllZip, Contains}
use Rattle.rate_table.specs.declared.entry.Entry.{Entry}
use Rattle.rate_table.specs.Table.{error_of}
use Rattle.rate_table.specs.Pairs.{cost}
use Rattle.rate_least.specs.declared.outcome.WidePair.{WidePair}
use Rattle.rate_least.specs.Pairs.{MeetsCap, StaysWithin}
use Rattle.rate_least.specs.Layers.{Rises, Reaches, IsLayer}

-- ---- capped frontiers

-- all undominated pairs of the first k slices that can still meet the cap
abbrev pub IsCapped : List (List Entry) → ℕ → ℕ → List WidePair → Type 0
IsCapped slices cap k layer = IsLayer (λ p. Reaches (take k slices) p × MeetsCap cap (drop k slices) p) layer

-- the pairs of the capped frontier, in its order, that the bound of multiplier m and size u does not prune
pub record IsHeld (slices : List (List Entry)) (cap m size k : ℕ) (held : List WidePair) : Type 0 where
  pub layer : List WidePair
  pub capped : IsCapped slices cap k layer
  pub rises : Rises held
  pub has : (p : WidePair) → Contains held p ↔ (Contains layer p × StaysWithin cap m size (drop k slices) p)

-- the held frontiers, one more than slices
abbrev pub AreHeld : List (List Entry) → ℕ → ℕ → ℕ → List (List WidePair) → Type 0
AreHeld slices cap m size layers = (length layers ≡ suc (length slices)) × ((k : ℕ) → k ≤ length slices → IsHeld slices cap m size k (slice_index_or layers k []))

-- ---- the multiplier

-- the Lagrangian minimiser of a slice: the entry of least cost, then of least error, then of least index
pub record IsBent (m : ℕ) (slice : List Entry) (x : Entry) : Type 0 where
  pub in_slice : Contains slice x
  pub cheapest : (y : Entry) → Contains slice y → cost m x ≤ cost m y
  pub best : (y : Entry) → Contains slice y → cost m y ≡ cost m x → x.error ≤ y.error
  pub first : (y : Entry) → Contains slice y → cost m y ≡ cost m x → y.error ≡ x.error → x.index ≤ y.index

-- the Lagrangian minimisers of all slices
abbrev pub IsBend : ℕ → List (List Entry) → List Entry → Type 0
IsBend m slices choice = AllZip (IsBent m) slices choice

-- The Lagrangian minimisers for this multiplier meet the cap.
abbrev pub BendMeets : List (List Entry) → ℕ → ℕ → Type 0
BendMeets slices cap m = (choice : List Entry) × IsBend m slices choice × (error_of choice ≤ cap)

-- the greatest multiplier up to 2^43 whose minimisers meet the cap
pub record IsGreatestMultiplier (slices : List (List Entry)) (cap m : ℕ) : Type 0 where
  pub meets : BendMeets slices cap m
  pub limit : m ≤ 2 ^ 43
  pub greatest : (n : ℕ) → n ≤ 2 ^ 43 → BendMeets slices cap n → n ≤ m
