-- Outcomes of runs that look at files. Our own definitions.
use Rattle.std.specs.Prelude.{◌≡◌, ℕ, Bool, true, false, List, [], Result, Err}
use Rattle.pw_outside.specs.Writing.{SinkState, Puts, PutsFront}
use Rattle.rate_table.specs.declared.fault.TableFault.{TableFault}
use Rattle.rate_table.specs.declared.fault.TableFault.TheVariants as faults
use Rattle.run_look.specs.declared.end.LookEnd.{LookEnd}
use Rattle.run_look.specs.declared.end.LookEnd.TheVariants as ends

abbrev pub is_done : LookEnd → Bool
is_done ends.Done = true
is_done _ = false

abbrev pub is_read_fault : LookEnd → Bool
is_read_fault ends.ReadFault = true
is_read_fault _ = false

abbrev pub is_write_fault : LookEnd → Bool
is_write_fault ends.WriteFault = true
is_write_fault _ = false

-- the outcome with the fields of a fault of a proof
abbrev pub fault_end : TableFault → LookEnd
fault_end (faults.Bad kind place) = ends.BadProof kind place
fault_end faults.Failed = ends.ReadFault
fault_end faults.NoMemory = ends.NoMemory

-- whether a part of a run stopped because what it reads failed
abbrev pub is_stopped_by_source : {X : Type 0} → Result X LookEnd → Bool
is_stopped_by_source (Err ends.ReadFault) = true
is_stopped_by_source _ = false

-- The result is this one, unless a port failed or memory ran out.
abbrev pub AnswersUnlessOutside : LookEnd → LookEnd → Type 0
AnswersUnlessOutside ends.NoMemory end = Unit {0}
AnswersUnlessOutside ends.ReadFault end = Unit {0}
AnswersUnlessOutside ends.WriteFault end = Unit {0}
AnswersUnlessOutside answer end = answer ≡ end

-- The result is such an outcome, unless a port failed or memory ran out.
abbrev pub AnswersEnd : LookEnd → (LookEnd → Type 0) → Type 0
AnswersEnd ends.NoMemory Is = Unit {0}
AnswersEnd ends.ReadFault Is = Unit {0}
AnswersEnd ends.WriteFault Is = Unit {0}
AnswersEnd answer Is = Is answer

-- The error of a part of a run that only reads: it isn't Done, and no sink failed.
abbrev pub IsReadersEnd : LookEnd → Type 0
IsReadersEnd ends.Done = ⊥
IsReadersEnd ends.WriteFault = ⊥
IsReadersEnd _ = Unit {0}

-- After Done this line was appended, after a fault of writing a prefix of it, and after any other result nothing.
abbrev pub PrintsLine : LookEnd → List ℕ → SinkState → SinkState → Type 0
PrintsLine ends.Done line before after = Puts before after line
PrintsLine ends.WriteFault line before after = PutsFront before after line
PrintsLine _ line before after = Puts before after []
