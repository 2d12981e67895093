use Rattle.pr_alpha.proofs.StepLemmas.{one_reading, values_or_fault, not_both}
use Rattle.pr_alpha.proofs.laws.one_list_or_fault.Goals as goal

pub returns-clause-one : goal.returns-clause-one
returns-clause-one c = one_reading

pub returns-clause-some : goal.returns-clause-some
returns-clause-some c = values_or_fault

pub returns-clause-not_both : goal.returns-clause-not_both
returns-clause-not_both c = not_both
