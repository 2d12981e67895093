-- The list of all choices of a table, and the best of them.
use Rattle.std.specs.Prelude.{ℕ, ◌+◌, ◌*◌, Bool, ◌&&◌, ◌||◌, ◌==◌, nat_le, nat_lt, if◌then◌else◌, List, [], ◌∷◌, length, map, Option, None, Some}
use Rattle.std.specs.List.{flat_map}
use Rattle.rate_table.specs.declared.entry.Entry.{Entry}
use Rattle.rate_table.specs.Table.{Table, size_of, error_of}

-- all choices of these slices, in the order of their index lists
abbrev pub all_choices : List (List Entry) → List (List Entry)
all_choices [] = [] ∷ []
all_choices (slice ∷ slices) = flat_map (λ x. map (λ choice. x ∷ choice) (all_choices slices)) slice

-- the product of the numbers of entries, which is the number of choices
abbrev pub width : List (List Entry) → ℕ
width [] = 1
width (slice ∷ slices) = length slice * width slices

-- whether the fixed bytes and the choice are within the budget
abbrev pub fits : Table → List Entry → Bool
fits t choice = nat_le (t.fixed + size_of choice) t.budget

-- whether a choice has less error than another, or the same error and less size
abbrev pub beats : List Entry → List Entry → Bool
beats choice other = nat_lt (error_of choice) (error_of other) || (error_of choice == error_of other && nat_lt (size_of choice) (size_of other))

-- the better of the best so far and the next choice, which replaces it only if it fits and beats it
abbrev pub better : Table → Option (List Entry) → List Entry → Option (List Entry)
better t None choice = if fits t choice then Some choice else None
better t (Some best) choice = if fits t choice && beats choice best then Some choice else Some best

-- the best of the best so far and these choices; the first of equals
abbrev pub best_of : Table → Option (List Entry) → List (List Entry) → Option (List Entry)
best_of t held [] = held
best_of t held (choice ∷ choices) = best_of t (better t held choice) choices
