use Rattle.rate_table.proofs.Sound.{sound_none_law}
use Rattle.rate_table.proofs.laws.good_none_fits.Goals as goal

pub returns : goal.returns
returns c = sound_none_law
