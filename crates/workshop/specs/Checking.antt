-- Status and output of `check`. Our own definitions.
use Rattle.std.specs.Prelude.{◌≡◌, ℕ, [], ◌⊎◌}
use Rattle.pw_outside.specs.Writing.{SinkState, Puts, PutsFront}
use Rattle.run_look.specs.declared.end.LookEnd.{LookEnd}
use Rattle.run_look.specs.declared.end.LookEnd.TheVariants as ends
use Rattle.run_look.specs.Checking.{check_text}
use Rattle.workshop.specs.Listing.{status_of}
use Rattle.workshop.specs.declared.status.Status.{Status}
use Rattle.workshop.specs.declared.status.Status.TheVariants as s

-- how checking may end, and with how many records: by the bytes of a proof alone, or with those of a movie and of pictures
abbrev pub Ending : Type 1
Ending = LookEnd → ℕ → Type 0

-- The status is that of such an end.
abbrev pub EndsCheck : Ending → Status → Type 0
EndsCheck Is status = (end : LookEnd) × (records : ℕ) × Is end records × (status ≡ status_of end)

-- the status: how checking ends, unless a port failed or memory ran out
abbrev pub AnswersCheck : Ending → Status → Type 0
AnswersCheck Is s.NoMemory = Unit {0}
AnswersCheck Is s.ReadFault = Unit {0}
AnswersCheck Is s.WriteFault = Unit {0}
AnswersCheck Is status = EndsCheck Is status

-- After Done the line with the number of records was appended, after a write fault a prefix of it, after every
-- other status nothing.
abbrev pub PrintsChecked : Ending → Status → SinkState → SinkState → Type 0
PrintsChecked Is s.Done before after = (records : ℕ) × Is ends.Done records × Puts before after (check_text records)
PrintsChecked Is s.WriteFault before after = (records : ℕ) × Is ends.Done records × PutsFront before after (check_text records)
PrintsChecked Is _ before after = Puts before after []

-- the status and the text
abbrev pub RunsCheck : Ending → Status → SinkState → SinkState → Type 0
RunsCheck Is status before after = AnswersCheck Is status × PrintsChecked Is status before after

-- If checking may be done, the status is Done or NoMemory.
abbrev pub CompletesCheck : Status → Ending → Type 0
CompletesCheck status Is = (records : ℕ) → Is ends.Done records → (status ≡ s.Done) ⊎ (status ≡ s.NoMemory)
