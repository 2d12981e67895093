use Rattle.rate_table.proofs.Entries.{choice_same}
use Rattle.rate_table.proofs.laws.indices_tell_choice.Goals as goal

pub returns : goal.returns
returns c = λ t first second ok. choice_same t.slices ok.each first second
