-- A table with multiplied errors. Our own definitions.
use Rattle.std.specs.Prelude.{ℕ, ◌-◌, ◌*◌, ◌^◌, List, map, min}
use Rattle.rate_table.specs.declared.entry.Entry.{Entry}

-- the entry with its error multiplied by `times`, capped at the greatest error of an entry
abbrev pub counted : ℕ → Entry → Entry
counted times x = record { index = x.index; size = x.size; error = min (x.error * times) (2 ^ 43 - 1) }

abbrev pub counted_slices : ℕ → List (List Entry) → List (List Entry)
counted_slices times slices = map (map (counted times)) slices
