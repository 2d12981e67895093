-- The Lagrangian multiplier of a table: the least cost of a byte by which the cheapest entries fit.
use Rattle.std.specs.Prelude.{◌≡◌, ℕ, ◌≤◌, List}
use Rattle.std.specs.List.{AllZip, Contains}
use Rattle.rate_table.specs.declared.entry.Entry.{Entry}
use Rattle.rate_table.specs.Table.{Table, Fits}
use Rattle.rate_table.specs.Pairs.{cost}

-- the Lagrangian minimiser of a slice: the entry of least cost, then of least size, then of least index
pub record IsPick (m : ℕ) (slice : List Entry) (x : Entry) : Type 0 where
  pub in_slice : Contains slice x
  pub cheapest : (y : Entry) → Contains slice y → cost m x ≤ cost m y
  pub smallest : (y : Entry) → Contains slice y → cost m y ≡ cost m x → x.size ≤ y.size
  pub first : (y : Entry) → Contains slice y → cost m y ≡ cost m x → y.size ≡ x.size → x.index ≤ y.index

-- the Lagrangian minimisers of all slices
abbrev pub ArePicks : ℕ → List (List Entry) → List Entry → Type 0
ArePicks m slices choice = AllZip (IsPick m) slices choice

-- The Lagrangian minimisers for this multiplier fit.
abbrev pub PicksFit : Table → ℕ → Type 0
PicksFit t m = (choice : List Entry) × ArePicks m t.slices choice × Fits t choice

-- the least multiplier whose minimisers fit
pub record IsMultiplier (t : Table) (m : ℕ) : Type 0 where
  pub fits : PicksFit t m
  pub least : (n : ℕ) → PicksFit t n → m ≤ n

-- a is preferred to b, or is b
pub record Wins (m : ℕ) (a b : Entry) : Type 0 where
  pub cheaper : cost m a ≤ cost m b
  pub smaller : cost m b ≡ cost m a → a.size ≤ b.size
  pub earlier : cost m b ≡ cost m a → b.size ≡ a.size → a.index ≤ b.index
