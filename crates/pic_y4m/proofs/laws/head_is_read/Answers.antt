use Rattle.pic_y4m.proofs.HeadAgain.{head-again}
use Rattle.pic_y4m.proofs.laws.head_is_read.Goals as goal

pub returns : goal.returns
returns c = head-again
