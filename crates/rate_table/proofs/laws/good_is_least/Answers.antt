use Rattle.rate_table.proofs.Sound.{sound_law}
use Rattle.rate_table.proofs.laws.good_is_least.Goals as goal

pub returns : goal.returns
returns c = sound_law
