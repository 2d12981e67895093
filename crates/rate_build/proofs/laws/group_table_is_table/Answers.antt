use Rattle.rate_build.proofs.Grouped.{group_within}
use Rattle.rate_build.proofs.laws.group_table_is_table.Goals as goal

pub returns : goal.returns
returns c = group_within
