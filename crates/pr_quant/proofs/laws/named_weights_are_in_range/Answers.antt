use Rattle.pr_quant.proofs.WeightLemmas.{named_in_range}
use Rattle.pr_quant.proofs.laws.named_weights_are_in_range.Goals as goal

pub returns : goal.returns
returns c = named_in_range
