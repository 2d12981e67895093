use Rattle.sound_round.proofs.Both.{both-read}
use Rattle.sound_round.proofs.laws.added_is_read_again.Goals as goal

pub returns : goal.returns
returns c = both-read c.added_pictures_are_read.ensures c.added_sound_is_taken_out.ensures
