-- Status and output of `addsound` and `sound`. Our own definitions.
use Rattle.std.specs.Prelude.{◌≡◌, ℕ, List, ◌⊎◌}
use Rattle.pw_outside.specs.Reading.{AreBytes}
use Rattle.pw_outside.specs.Writing.{SinkState, Puts, PutsFront}
use Rattle.pcm_track.specs.declared.end.SoundEnd.{SoundEnd}
use Rattle.pcm_track.specs.declared.end.SoundEnd.TheVariants as ends
use Rattle.pcm_track.specs.Ends.{Outcome}
use Rattle.sound_round.specs.Laws.{IsReadAgain}
use Rattle.workshop.specs.Status.{AnswersUnlessOutside}
use Rattle.workshop.specs.declared.status.Status.{Status}
use Rattle.workshop.specs.declared.status.Status.TheVariants as s

-- the status of a run's outcome
abbrev pub status_of : SoundEnd → Status
status_of ends.Done = s.Done
status_of ends.NoMemory = s.NoMemory
status_of ends.ReadFault = s.ReadFault
status_of ends.WriteFault = s.WriteFault
status_of (ends.BadMovie kind place) = s.BadMovie kind place
status_of (ends.BadSound kind place) = s.BadSound kind place

-- the status: how the run ends by its input, unless a port failed or memory ran out
abbrev pub AnswersSound : SoundEnd → Status → Type 0
AnswersSound known status = AnswersUnlessOutside status (status_of known)

-- After Done the sink took all of these bytes, after every other status a prefix of them.
abbrev pub WritesUntilDone : Status → List ℕ → SinkState → SinkState → Type 0
WritesUntilDone s.Done bytes before after = Puts before after bytes
WritesUntilDone _ bytes before after = PutsFront before after bytes

-- The status, and what was written of the result: the file to `out`, the line to `text`.
pub record RunsSound (known : Outcome) (status : Status) (out out' text text' : SinkState) : Type 0 where
  pub answer : AnswersSound known.end status
  pub file : WritesUntilDone status known.out out out'
  pub line : WritesUntilDone status known.text text text'

-- After Done the sink took bytes from which the pictures of the file and the sound of the WAV are read again.
abbrev pub ReadsAgain : Status → (file wav : List ℕ) → SinkState → SinkState → Type 0
ReadsAgain s.Done file wav before after = AreBytes file → (out : List ℕ) × Puts before after out × IsReadAgain file wav out
ReadsAgain _ file wav before after = Unit {0}

-- The status is how the run ends by its input, unless memory runs out.
abbrev pub CompletesSound : SoundEnd → Status → Type 0
CompletesSound known status = (status ≡ status_of known) ⊎ (status ≡ s.NoMemory)
