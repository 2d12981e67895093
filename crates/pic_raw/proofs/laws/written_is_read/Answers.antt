use Rattle.pic_raw.proofs.Again.{picture-again}
use Rattle.pic_raw.proofs.laws.written_is_read.Goals as goal

pub returns : goal.returns
returns c = picture-again
