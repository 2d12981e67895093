use Rattle.pic_raw.proofs.Again.{pictures-again}
use Rattle.pic_raw.proofs.laws.pictures_are_read.Goals as goal

pub returns : goal.returns
returns c = pictures-again
