use Rattle.sound_round.proofs.Pictures.{added-read}
use Rattle.sound_round.proofs.laws.added_pictures_are_read.Goals as goal

pub returns : goal.returns
returns c = added-read c.lone_samples_are_told.ensures c.written_traks_are_read.ensures
