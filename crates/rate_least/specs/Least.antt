-- Choices under a cap on the error. The budget and the fixed bytes of a table don't matter. Our own definitions.
use Rattle.std.specs.Prelude.{ℕ, ◌≤◌, List}
use Rattle.rate_table.specs.declared.entry.Entry.{Entry}
use Rattle.rate_table.specs.Table.{IsChoice, error_of}

-- Each choice has more error than the cap.
abbrev pub HasNoneUnder : List (List Entry) → ℕ → Type 0
HasNoneUnder slices cap = (choice : List Entry) → IsChoice slices choice → error_of choice ≤ cap → ⊥
