-- The first choice, in lexicographic order of its indices, that has a pair or leads from one pair to another.
use Rattle.std.specs.Prelude.{◌≡◌, ◌+◌, List}
use Rattle.rate_table.specs.declared.entry.Entry.{Entry}
use Rattle.rate_least.specs.declared.outcome.WidePair.{WidePair}
use Rattle.rate_table.specs.Table.{IsChoice, ComesFirst, size_of, error_of, indices}
use Rattle.rate_least.specs.Layers.{wide_of}

-- the first choice of these slices with this pair, in lexicographic order of its indices
pub record IsFirst (slices : List (List Entry)) (p : WidePair) (choice : List Entry) : Type 0 where
  pub chosen : IsChoice slices choice
  pub pair : wide_of choice ≡ p
  pub first : (other : List Entry) → IsChoice slices other → wide_of other ≡ p → ComesFirst (indices choice) (indices other)

-- a pair extended by entries of later slices
abbrev pub extended : WidePair → List Entry → WidePair
extended p choice = record { size = p.size + size_of choice; error = p.error + error_of choice }

-- the first choice of these later slices that leads from p to the goal, in lexicographic order of its indices
pub record IsFirstFrom (later : List (List Entry)) (p goal : WidePair) (choice : List Entry) : Type 0 where
  pub chosen : IsChoice later choice
  pub leads : extended p choice ≡ goal
  pub first : (other : List Entry) → IsChoice later other → extended p other ≡ goal → ComesFirst (indices choice) (indices other)

-- Some choice of these later slices leads from p to the goal.
abbrev pub Leads : List (List Entry) → WidePair → WidePair → Type 0
Leads later p goal = (choice : List Entry) × IsChoice later choice × (extended p choice ≡ goal)
