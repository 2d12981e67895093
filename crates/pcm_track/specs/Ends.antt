-- Outcomes of runs that add sound to a movie, or extract it. Our own definitions.
use Rattle.std.specs.Prelude.{◌≡◌, ◌≤◌, ◌⊎◌, ℕ, Bool, true, false, List, Result, Ok, Err}
use Rattle.std.specs.Bool.{OnTrue, OnFalse}
use Rattle.pw_outside.specs.Ports.{Rose}
use Rattle.pw_outside.specs.Writing.{SinkState, Puts, PutsFront}
use Rattle.pcm_track.specs.declared.end.SoundEnd.{SoundEnd}
use Rattle.pcm_track.specs.declared.end.SoundEnd.TheVariants as ends

abbrev pub is_done : SoundEnd → Bool
is_done ends.Done = true
is_done _ = false

abbrev pub is_read_fault : SoundEnd → Bool
is_read_fault ends.ReadFault = true
is_read_fault _ = false

abbrev pub is_write_fault : SoundEnd → Bool
is_write_fault ends.WriteFault = true
is_write_fault _ = false

-- The result is this one, unless a port failed or memory ran out.
abbrev pub AnswersUnlessOutside : SoundEnd → SoundEnd → Type 0
AnswersUnlessOutside ends.NoMemory end = Unit {0}
AnswersUnlessOutside ends.ReadFault end = Unit {0}
AnswersUnlessOutside ends.WriteFault end = Unit {0}
AnswersUnlessOutside answer end = answer ≡ end

-- The result is this one, or memory ran out.
abbrev pub Completes : SoundEnd → SoundEnd → Type 0
Completes end answer = (answer ≡ end) ⊎ (answer ≡ ends.NoMemory)

-- how a part of a run ended
abbrev pub end_of : {X : Type 0} → Result X SoundEnd → SoundEnd
end_of (Ok x) = ends.Done
end_of (Err end) = end

-- the outcome of a run if no port fails and memory lasts, and what it writes if it is done
pub record Outcome : Type 0 where
  pub end : SoundEnd
  pub out : List ℕ
  pub text : List ℕ

-- At Done all of these bytes were appended, and after any other result a prefix of them.
abbrev pub PutsUntil : SoundEnd → List ℕ → SinkState → SinkState → Type 0
PutsUntil ends.Done bytes before after = Puts before after bytes
PutsUntil _ bytes before after = PutsFront before after bytes
