use Rattle.pic_y4m.proofs.Again.{pictures-again}
use Rattle.pic_y4m.proofs.laws.pictures_are_read.Goals as goal

pub returns : goal.returns
returns c = pictures-again
