-- The bytes that sinks took.
use Rattle.std.proofs.Common.{◌≡◌, ℕ, ◌≤◌, false, List, [], take, subst}
use Rattle.pw_outside.specs.Ports.{last}
use Rattle.pw_outside.specs.Writing.{SinkState, Puts, PutsFront, Extends}
use Rattle.pw_outside.proofs.Puts.{front_none, puts_front}
use Rattle.pcm_track.specs.declared.end.SoundEnd.TheVariants as ends
use Rattle.pcm_track.specs.declared.end.SoundEnd.{SoundEnd}
use Rattle.pcm_track.specs.Ends.{PutsUntil, is_done, AnswersUnlessOutside}

pub none_until : (a : SinkState) (bytes : List ℕ) → a.taken ≤ last → PutsUntil ends.NoMemory bytes a a
none_until a bytes h = front_none a bytes h

-- ---- the end of a run after its parts

-- the whole output, where only a prefix is asked for
pub puts_until : (end : SoundEnd) (a b : SinkState) (bytes : List ℕ) → Puts a b bytes → PutsUntil end bytes a b
puts_until ends.Done a b bytes p = p
puts_until ends.NoMemory a b bytes p = puts_front p
puts_until ends.ReadFault a b bytes p = puts_front p
puts_until ends.WriteFault a b bytes p = puts_front p
puts_until (ends.BadMovie kind place) a b bytes p = puts_front p
puts_until (ends.BadSound kind place) a b bytes p = puts_front p

-- a prefix was appended, and the run isn't done
pub front_until : (end : SoundEnd) (a b : SinkState) (bytes : List ℕ) → is_done end ≡ false → PutsFront a b bytes → PutsUntil end bytes a b
front_until ends.Done a b bytes h p = absurd cc
front_until ends.NoMemory a b bytes h p = p
front_until ends.ReadFault a b bytes h p = p
front_until ends.WriteFault a b bytes h p = p
front_until (ends.BadMovie kind place) a b bytes h p = p
front_until (ends.BadSound kind place) a b bytes h p = p

-- the output of a run that is done extends what was held
pub until_extends : (end : SoundEnd) (a b : SinkState) (bytes : List ℕ) → PutsUntil end bytes a b → Extends a b
until_extends ends.Done a b bytes p = (bytes, p)
until_extends ends.NoMemory a b bytes p = (take p.out bytes, p.front)
until_extends ends.ReadFault a b bytes p = (take p.out bytes, p.front)
until_extends ends.WriteFault a b bytes p = (take p.out bytes, p.front)
until_extends (ends.BadMovie kind place) a b bytes p = (take p.out bytes, p.front)
until_extends (ends.BadSound kind place) a b bytes p = (take p.out bytes, p.front)

-- the end of a run that was done up to its line
pub line_end : (end total : SoundEnd) → ends.Done ≡ total → AnswersUnlessOutside end ends.Done → AnswersUnlessOutside end total
line_end end total e h = subst (AnswersUnlessOutside end) e h
