use Rattle.rate_table.proofs.Enumerated.{count_is_width}
use Rattle.rate_table.proofs.laws.all_choices_count.Goals as goal

pub returns : goal.returns
returns c = count_is_width
