-- The result of `best_small` and of its parts. Our own definitions.
use Rattle.std.specs.Prelude.{◌≡◌, ℕ, ◌+◌, List, [], map, get_or}
use Rattle.rate_table.specs.declared.entry.Entry.{Entry}
use Rattle.rate_table.specs.Table.{Table, IsBestWith, HasNoFit, size_of, error_of, least_bytes}
use Rattle.rate_table.specs.Choices.{all_choices}
use Rattle.rate_table.specs.declared.small.SmallOutcome.{SmallOutcome}
use Rattle.rate_table.specs.declared.small.SmallOutcome.TheVariants as outcomes
use Rattle.rate_table.specs.declared.small.Sums.{Sums}

-- the best choice of the table with its sums, or its least number of bytes if no choice fits
abbrev pub IsOutcome : Table → SmallOutcome → Type 0
IsOutcome t (outcomes.Fits choice size error) = IsBestWith t choice.items size error
IsOutcome t (outcomes.None least) = HasNoFit t × (least ≡ least_bytes t)

-- ---- the parts

-- the sums of a choice
abbrev pub sums_of : List Entry → Sums
sums_of choice = record { size = size_of choice; error = error_of choice }

-- the sums of all choices of these slices
abbrev pub all_sums : List (List Entry) → List Sums
all_sums slices = map sums_of (all_choices slices)

-- sums with an entry added
abbrev pub plus : Entry → Sums → Sums
plus e s = record { size = e.size + s.size; error = e.error + s.error }

-- the choice with this number
abbrev pub choice_at : List (List Entry) → ℕ → List Entry
choice_at slices n = get_or (all_choices slices) n []
