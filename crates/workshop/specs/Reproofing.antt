-- Status and output of `reproof`. Our own definitions.
use Rattle.std.specs.Prelude.{◌≡◌, ℕ, List, ◌⊎◌}
use Rattle.pw_outside.specs.Writing.{SinkState, Puts, PutsFront}
use Rattle.run_look.specs.declared.end.LookEnd.TheVariants as ends
use Rattle.run_look.specs.Reproofing.{reproofed}
use Rattle.workshop.specs.Listing.{status_of}
use Rattle.workshop.specs.Status.{AnswersUnlessOutside}
use Rattle.workshop.specs.declared.status.Status.{Status}
use Rattle.workshop.specs.declared.status.Status.TheVariants as s

-- the status for a proof: how rewriting it ends, unless a port failed or memory ran out
abbrev pub AnswersReproof : List ℕ → Status → Type 0
AnswersReproof bytes status = AnswersUnlessOutside status (status_of (reproofed bytes).end)

-- If the run ended by its input the sink took all of these bytes; if a port failed or memory ran out a prefix of
-- them.
abbrev pub WritesUntil : Status → List ℕ → SinkState → SinkState → Type 0
WritesUntil s.NoMemory bytes before after = PutsFront before after bytes
WritesUntil s.ReadFault bytes before after = PutsFront before after bytes
WritesUntil s.WriteFault bytes before after = PutsFront before after bytes
WritesUntil _ bytes before after = Puts before after bytes

-- The status for a proof, and all that is written: a proof in format 2, and the line with the number of records.
pub record RunsReproof (bytes : List ℕ) (status : Status) (cert cert' text text' : SinkState) : Type 0 where
  pub answer : AnswersReproof bytes status
  pub proof : WritesUntil status (reproofed bytes).cert cert cert'
  pub line : WritesUntil status (reproofed bytes).text text text'

-- The status is Done or NoMemory for a proof without an error, whose Pareto frontiers all rise in size and fall in
-- error.
abbrev pub CompletesReproof : Status → List ℕ → Type 0
CompletesReproof status bytes = (reproofed bytes).end ≡ ends.Done → (status ≡ s.Done) ⊎ (status ≡ s.NoMemory)
