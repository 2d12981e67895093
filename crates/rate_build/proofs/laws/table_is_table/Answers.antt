use Rattle.rate_build.proofs.Limits.{table_within}
use Rattle.rate_build.proofs.laws.table_is_table.Goals as goal

pub returns : goal.returns
returns c = table_within
