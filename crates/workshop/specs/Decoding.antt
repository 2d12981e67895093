-- Status and output of `decode`. Our own definitions.
use Rattle.std.specs.Prelude.{◌≡◌, ℕ, ◌⊎◌, List, Result, Ok, Err}
use Rattle.pw_outside.specs.Reading.{Fault}
use Rattle.qt_tables.specs.declared.fault.MovieKind.{MovieKind}
use Rattle.qt_tables.specs.Samples.{samples}
use Rattle.qt_movie.specs.Movie.{Movie}
use Rattle.pr_frame.specs.declared.showing.Shown.{Shown}
use Rattle.run_decode.specs.declared.end.DecodeEnd.{DecodeEnd}
use Rattle.run_decode.specs.declared.end.DecodeEnd.TheVariants as ends
use Rattle.run_decode.specs.Decoding.{Decodes, job_in}
use Rattle.run_decode.specs.Laws.{WritesFrontsOf}
use Rattle.run_decode.specs.Running.{World, RanOn}
use Rattle.workshop.specs.declared.words.DecodeWords.{DecodeWords}
use Rattle.workshop.specs.declared.status.Status.{Status}
use Rattle.workshop.specs.declared.status.Status.TheVariants as s

-- the status of a run's outcome
abbrev pub status_of : DecodeEnd → Status
status_of ends.Done = s.Done
status_of ends.NoMemory = s.NoMemory
status_of ends.ReadFault = s.ReadFault
status_of ends.WriteFault = s.WriteFault
status_of (ends.BadMovie kind place) = s.BadMovie kind place
status_of (ends.BadFrame sample kind place) = s.BadFrame sample kind place

-- The status, the output and the reports to the monitors are those of a run over this file.
abbrev pub AnswersDecode : DecodeWords → List ℕ → Result Movie (Fault MovieKind) → Status → World → World → Type 0
AnswersDecode w file input status before after = (end : DecodeEnd) × (status ≡ status_of end) × RanOn w.form w.depth file input end before after

-- The same; and after every status both sinks have prefixes of the result of decoding, or nothing if the file is no
-- such movie.
abbrev pub RunsDecode : DecodeWords → List ℕ → Result Movie (Fault MovieKind) → Status → World → World → Type 0
RunsDecode w file input status before after = AnswersDecode w file input status before after × WritesFrontsOf w.form w.depth file input before after

-- A movie whose samples all lie in the file and stand for frames like the first is decoded, unless memory runs out.
abbrev pub CompletesDecode : DecodeWords → List ℕ → Result Movie (Fault MovieKind) → Status → Type 0
CompletesDecode w file (Err f) status = Unit {0}
CompletesDecode w file (Ok m) status = (shown : List Shown) → Decodes (job_in w.form w.depth m) file (samples m.tables) shown ends.Done
    → (status ≡ s.Done) ⊎ (status ≡ s.NoMemory)
