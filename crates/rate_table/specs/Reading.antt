-- The table file, our own format: the table that bytes stand for, or their first error and its offset.
use Rattle.std.specs.Prelude.{ℕ, zero, suc, ◌^◌, Bool, true, false, not, List, [], ◌∷◌, length, Option, None, Some, Result, Ok, Err, nat_lt, nat_le, ◌==◌}
use Rattle.std.specs.Int.{w8, w16, w32, w64}
use Rattle.pw_outside.specs.Reading.{Fault, Rest, Read, ◌>>=◌, refuse, number_at}
use Rattle.rate_table.specs.Table.{Table}
use Rattle.rate_table.specs.declared.table.TheConstants.{MAX_TABLE_SLICES}
use Rattle.rate_table.specs.declared.entry.Entry.{Entry}
use Rattle.rate_table.specs.declared.fault.ProofKind.{ProofKind}
use Rattle.rate_table.specs.declared.fault.ProofKind.TheVariants.{TableMagic, TableEmpty, TableLimit, TableOrder, TableShort, TableTrailing}
use Rattle.rate_table.specs.declared.fault.TableFault.{TableFault}
use Rattle.rate_table.specs.declared.fault.TableFault.TheVariants as faults

-- an entry with an index above `low`: index, size, error
unfoldable pub entry_at : ℕ → Rest → Read ProofKind Entry
entry_at low s = do
  index ← number_at TableShort w8 s
  _ ← refuse (index.0 == 0) TableLimit s.place
  _ ← refuse (nat_lt 224 index.0) TableLimit s.place
  _ ← refuse (nat_le index.0 low) TableOrder s.place
  size ← number_at TableShort w16 index.1
  error ← number_at TableShort w64 size.1
  _ ← refuse (nat_le (2 ^ 43) error.0) TableLimit size.1.place
  Ok (record { index = index.0; size = size.0; error = error.0 }, error.1)

-- n entries with rising indices, the first above `low`
unfoldable pub entries_at : ℕ → ℕ → Rest → Read ProofKind (List Entry)
entries_at zero low s = Ok ([], s)
entries_at (suc n) low s = do
  first ← entry_at low s
  others ← entries_at n first.0.index first.1
  Ok (first.0 ∷ others.0, others.1)

-- a slice: the number of its entries, and the entries
unfoldable pub slice_at : Rest → Read ProofKind (List Entry)
slice_at s = do
  count ← number_at TableShort w8 s
  _ ← refuse (count.0 == 0) TableEmpty s.place
  _ ← refuse (nat_lt 224 count.0) TableLimit s.place
  entries_at count.0 0 count.1

-- n slices
unfoldable pub slices_at : ℕ → Rest → Read ProofKind (List (List Entry))
slices_at zero s = Ok ([], s)
slices_at (suc n) s = do
  first ← slice_at s
  others ← slices_at n first.1
  Ok (first.0 ∷ others.0, others.1)

-- the body of a table: budget, fixed bytes, number of slices, and the slices
unfoldable pub body_at : Rest → Read ProofKind Table
body_at s = do
  budget ← number_at TableShort w32 s
  _ ← refuse (budget.0 == 0) TableLimit s.place
  _ ← refuse (nat_le (2 ^ 31) budget.0) TableLimit s.place
  fixed ← number_at TableShort w32 budget.1
  _ ← refuse (nat_le (2 ^ 31) fixed.0) TableLimit budget.1.place
  count ← number_at TableShort w32 fixed.1
  _ ← refuse (count.0 == 0) TableEmpty fixed.1.place
  _ ← refuse (nat_lt MAX_TABLE_SLICES count.0) TableLimit fixed.1.place
  slices ← slices_at count.0 count.1
  Ok (record { budget = budget.0; fixed = fixed.0; slices = slices.0 }, slices.1)

-- a table file up to the end of its body: the letters `PWTB`, the version 1, and the body
unfoldable pub table_at : Rest → Read ProofKind Table
table_at s = do
  magic ← number_at TableShort w32 s
  _ ← refuse (not (magic.0 == 0x50575442)) TableMagic s.place
  version ← number_at TableShort w8 magic.1
  _ ← refuse (not (version.0 == 1)) TableMagic magic.1.place
  body_at version.1

-- the table of a whole file, or the first error; the file ends after the body
unfoldable pub tabled : List ℕ → Result Table (Fault ProofKind)
tabled bytes = do
  table ← table_at (record { place = 0; bytes = bytes })
  _ ← refuse (not (length table.1.bytes == 0)) TableTrailing table.1.place
  Ok table.0

-- the error of the bytes that an error value reports
abbrev pub told_fault : TableFault → Option (Fault ProofKind)
told_fault (faults.Bad kind place) = Some (record { kind = kind; place = place })
told_fault faults.Failed = None
told_fault faults.NoMemory = None

-- whether the source failed
abbrev pub is_failed : {X : Type 0} → Result X TableFault → Bool
is_failed (Err faults.Failed) = true
is_failed _ = false

-- whether memory ran out
abbrev pub is_out_of_memory : {X : Type 0} → Result X TableFault → Bool
is_out_of_memory (Err faults.NoMemory) = true
is_out_of_memory _ = false
