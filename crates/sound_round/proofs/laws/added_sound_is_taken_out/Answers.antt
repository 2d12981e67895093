use Rattle.sound_round.proofs.SoundTaken.{sound-taken}
use Rattle.sound_round.proofs.laws.added_sound_is_taken_out.Goals as goal

pub returns : goal.returns
returns c = sound-taken
