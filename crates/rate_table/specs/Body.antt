-- The bytes of a table's body, our own format, for the writer.
use Rattle.std.specs.Prelude.{◌≡◌, ℕ, ◌+◌, List, [], ◌∷◌, ◌++◌, length, Ok}
use Rattle.std.specs.Int.{w16, w32, w64, to_be_bytes}
use Rattle.std.specs.List.{flat_map}
use Rattle.rate_table.specs.declared.entry.Entry.{Entry}
use Rattle.rate_table.specs.Table.{Table, IsTable}
use Rattle.rate_table.specs.Reading.{body_at}

-- the index of the last entry
abbrev pub last_index : List Entry → ℕ
last_index [] = 0
last_index (x ∷ []) = x.index
last_index (x ∷ y ∷ xs) = last_index (y ∷ xs)

-- the bytes of an entry: index, size, error
abbrev pub entry_bytes : Entry → List ℕ
entry_bytes e = e.index ∷ (to_be_bytes w16 e.size ++ to_be_bytes w64 e.error)

-- the bytes of a slice: the number of its entries, and the entries
abbrev pub slice_bytes : List Entry → List ℕ
slice_bytes slice = length slice ∷ flat_map entry_bytes slice

-- the bytes of a table's body: budget, fixed bytes, number of slices, and the slices
unfoldable pub body_bytes : Table → List ℕ
body_bytes t = to_be_bytes w32 t.budget ++ (to_be_bytes w32 t.fixed ++ (to_be_bytes w32 (length t.slices) ++ flat_map slice_bytes t.slices))

-- The body that is written for a table is read as that table, whatever follows it.
abbrev pub BodyIsReadAgain : Type 0
BodyIsReadAgain = (t : Table) (place : ℕ) (behind : List ℕ) → IsTable t
    → body_at (record { place = place; bytes = body_bytes t ++ behind }) ≡ Ok (t, record { place = place + length (body_bytes t); bytes = behind })
