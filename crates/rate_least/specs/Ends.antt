-- Outcomes of the runs for smallest choices. Our own definitions.
use Rattle.std.specs.Prelude.{◌≡◌, ℕ, Bool, true, false, List, []}
use Rattle.pw_outside.specs.Writing.{SinkState, Puts, PutsFront}
use Rattle.rate_table.specs.declared.fault.TableFault.{TableFault}
use Rattle.rate_table.specs.declared.fault.TableFault.TheVariants as faults
use Rattle.rate_layers.specs.declared.fault.BestFault.{BestFault}
use Rattle.rate_layers.specs.declared.fault.BestFault.TheVariants as best_faults
use Rattle.rate_least.specs.declared.end.LeastEnd.{LeastEnd}
use Rattle.rate_least.specs.declared.end.LeastEnd.TheVariants as ends

abbrev pub is_done : LeastEnd → Bool
is_done ends.Done = true
is_done _ = false

abbrev pub is_read_fault : LeastEnd → Bool
is_read_fault ends.ReadFault = true
is_read_fault _ = false

abbrev pub is_write_fault : LeastEnd → Bool
is_write_fault ends.WriteFault = true
is_write_fault _ = false

-- the outcome for an error of a table file or a certificate
abbrev pub fault_end : TableFault → LeastEnd
fault_end (faults.Bad kind place) = ends.BadProof kind place
fault_end faults.Failed = ends.ReadFault
fault_end faults.NoMemory = ends.NoMemory

-- the outcome for an error of the search
abbrev pub best_end : BestFault → LeastEnd
best_end best_faults.LayersFull = ends.LayersFull
best_end best_faults.NoMemory = ends.NoMemory

-- The outcome is this one, unless a port failed or memory ran out.
abbrev pub AnswersUnlessOutside : LeastEnd → LeastEnd → Type 0
AnswersUnlessOutside ends.NoMemory end = Unit {0}
AnswersUnlessOutside ends.ReadFault end = Unit {0}
AnswersUnlessOutside ends.WriteFault end = Unit {0}
AnswersUnlessOutside answer end = answer ≡ end

-- the outcome of a part of a run that only prints
abbrev pub IsPrintersEnd : LeastEnd → Type 0
IsPrintersEnd ends.Done = Unit {0}
IsPrintersEnd ends.WriteFault = Unit {0}
IsPrintersEnd _ = ⊥

-- After Done, these bytes were appended; after WriteFault, a prefix of them; otherwise nothing.
abbrev pub PrintsLines : LeastEnd → List ℕ → SinkState → SinkState → Type 0
PrintsLines ends.Done lines before after = Puts before after lines
PrintsLines ends.WriteFault lines before after = PutsFront before after lines
PrintsLines _ lines before after = Puts before after []
