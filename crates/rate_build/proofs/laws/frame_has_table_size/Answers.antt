use Rattle.rate_build.proofs.Lengths.{frame_size}
use Rattle.rate_build.proofs.laws.frame_has_table_size.Goals as goal

pub returns : goal.returns
returns c = frame_size
