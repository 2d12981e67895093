-- Laws of the best choice, independent of any program.
use Rattle.std.specs.Prelude.{◌≡◌, ℕ, ◌<◌, ◌↔◌, List, length}
use Rattle.std.specs.List.{Contains}
use Rattle.rate_table.specs.declared.entry.Entry.{Entry}
use Rattle.rate_table.specs.Table.{Table, IsTable, IsChoice, Fits, HasNoFit, IsBest, indices, least_bytes}
use Rattle.rate_table.specs.Choices.{all_choices, width}
use Rattle.rate_table.specs.Records.{Printed, IsGoodFit, TellsLeast, SaysNone}

-- If a choice fits, there is a best one.
abbrev pub BestExists : Type 0
BestExists = (t : Table) (choice : List Entry) → IsTable t → IsChoice t.slices choice → Fits t choice → (best : List Entry) × IsBest t best

-- The best choice is unique.
abbrev pub BestIsOne : Type 0
BestIsOne = (t : Table) (first second : List Entry) → IsTable t → IsBest t first → IsBest t second → first ≡ second

-- No choice fits if and only if the fixed bytes plus the least sizes exceed the budget.
abbrev pub NoneFitsBelowLeast : Type 0
NoneFitsBelowLeast = (t : Table) → IsTable t → HasNoFit t ↔ (t.budget < least_bytes t)

-- The list of all choices has exactly the choices.
abbrev pub AllChoicesAreChoices : Type 0
AllChoicesAreChoices = (slices : List (List Entry)) (choice : List Entry) → Contains (all_choices slices) choice ↔ IsChoice slices choice

-- Its length is the product of the numbers of entries.
abbrev pub AllChoicesCount : Type 0
AllChoicesCount = (slices : List (List Entry)) → length (all_choices slices) ≡ width slices

-- The indices of a choice determine it.
abbrev pub IndicesTellChoice : Type 0
IndicesTellChoice = (t : Table) (first second : List Entry) → IsTable t → IsChoice t.slices first → IsChoice t.slices second → indices first ≡ indices second → first ≡ second

-- The choice of a good record fits and has the printed sums, and no fitting choice has less error. This holds for
-- every record, whoever made it and whatever its multiplier.
abbrev pub GoodIsLeast : Type 0
GoodIsLeast = (t : Table) (r : Printed) → IsGoodFit t r → TellsLeast t r

-- If a good record says that none fits, none does.
abbrev pub GoodNoneFits : Type 0
GoodNoneFits = (t : Table) (printed : ℕ) → SaysNone t printed → HasNoFit t
