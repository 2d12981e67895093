use Rattle.pic_raw.proofs.Readers.{next-first}
use Rattle.pic_raw.proofs.laws.next_is_first.Goals as goal

pub returns : goal.returns
returns c = next-first
