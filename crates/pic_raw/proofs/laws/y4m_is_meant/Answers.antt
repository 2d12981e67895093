use Rattle.pic_raw.proofs.Readers.{y4m-meant}
use Rattle.pic_raw.proofs.laws.y4m_is_meant.Goals as goal

pub returns : goal.returns
returns c = y4m-meant
