-- A table and the indices of a choice within a proof file, our own formats: what bytes stand for, or their first error
-- and its offset.
use Rattle.std.specs.Prelude.{ℕ, zero, suc, List, [], ◌∷◌, Result, Ok, Err}
use Rattle.std.specs.Int.{w8}
use Rattle.pw_outside.specs.Reading.{Fault, Rest, Read, ◌>>=◌, number_at}
use Rattle.rate_table.specs.declared.fault.ProofKind.{ProofKind}
use Rattle.rate_table.specs.declared.fault.ProofKind.TheVariants.{TableShort, ProofShort}
use Rattle.rate_table.specs.declared.fault.TableFault.{TableFault}
use Rattle.rate_table.specs.declared.fault.TableFault.TheVariants as faults
use Rattle.rate_table.specs.Table.{Table}
use Rattle.rate_table.specs.Reading.{body_at}

-- `TableShort` becomes `ProofShort`
abbrev pub as_proof : ProofKind → ProofKind
as_proof TableShort = ProofShort
as_proof kind = kind

abbrev pub in_proof : {A : Type 0} → Result A (Fault ProofKind) → Result A (Fault ProofKind)
in_proof (Ok x) = Ok x
in_proof (Err f) = Err (record { kind = as_proof f.kind; place = f.place })

-- the same for an error value
abbrev pub renamed : TableFault → TableFault
renamed (faults.Bad kind place) = faults.Bad (as_proof kind) place
renamed faults.Failed = faults.Failed
renamed faults.NoMemory = faults.NoMemory

-- the body of a table, whose errors are those of the proof
abbrev pub table_at : Rest → Read ProofKind Table
table_at s = in_proof (body_at s)

-- n indices of one byte each
unfoldable pub indices_at : ℕ → Rest → Read ProofKind (List ℕ)
indices_at zero s = Ok ([], s)
indices_at (suc n) s = do
  first ← number_at ProofShort w8 s
  others ← indices_at n first.1
  Ok (first.0 ∷ others.0, others.1)
