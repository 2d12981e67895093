use Rattle.pic_y4m.proofs.Again.{picture-again}
use Rattle.pic_y4m.proofs.laws.written_is_read.Goals as goal

pub returns : goal.returns
returns c = picture-again
