-- A bound as the merge uses it: with some slices still to come, a pair's size and its cost must each stay below a
-- number.
use Rattle.std.specs.Prelude.{◌≡◌, ℕ, ◌+◌, ◌-◌, ◌*◌, ◌<◌, ◌≤◌, ◌^◌, List}
use Rattle.rate_table.specs.declared.entry.Entry.{Entry}
use Rattle.rate_table.specs.declared.entry.Pair.{Pair}
use Rattle.rate_table.specs.Table.{Table, least_sizes}
use Rattle.rate_table.specs.Pairs.{rest}
use Rattle.rate_layers.specs.declared.bound.Bound.{Bound}
use Rattle.rate_layers.specs.Layers.{Joins, IsFront}

-- The numbers for a table, a multiplier and an error. A number is 0 if no pair can stay below it.
pub record IsBoundOf (t : Table) (m u : ℕ) (later : List (List Entry)) (b : Bound) : Type 0 where
  pub multiplier : b.multiplier ≡ m
  pub end : b.end ≡ (t.budget + 1) - (t.fixed + least_sizes later)
  pub ceiling : b.ceiling ≡ (u + m * t.budget + 1) - (rest m later + m * t.fixed)

abbrev pub HasRoom : Bound → Pair → Type 0
HasRoom b p = p.size < b.end

abbrev pub IsWithin : Bound → Pair → Type 0
IsWithin b p = p.error + b.multiplier * p.size < b.ceiling

-- Sizes below the end fit into 32 bits.
abbrev pub IsSmall : Bound → Type 0
IsSmall b = b.end ≤ 2 ^ 31

-- the next frontier
abbrev pub IsNext : Bound → List Pair → List Entry → List Pair → Type 0
IsNext b layer slice next = IsFront (λ p. Joins layer slice p × (HasRoom b p × IsWithin b p)) next
