use Rattle.pr_quant.proofs.ErrorLemmas.{slice_error_small}
use Rattle.pr_quant.proofs.laws.slice_error_is_small.Goals as goal

pub returns : goal.returns
returns c = slice_error_small
