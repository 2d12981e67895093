use Rattle.pr_coeff.specs.Component.{places}
use Rattle.pr_coeff.proofs.WholeLemmas.{scan_of, one_reading, blocks_or_fault, not_both}
use Rattle.pr_coeff.proofs.laws.one_list_or_fault.Goals as goal

pub returns-clause-one : goal.returns-clause-one
returns-clause-one c = λ scan l a b. one_reading (places scan) l a b (scan_of scan)

pub returns-clause-some : goal.returns-clause-some
returns-clause-some c = λ scan l count. blocks_or_fault (places scan) l count (scan_of scan)

pub returns-clause-not_both : goal.returns-clause-not_both
returns-clause-not_both c = λ scan l a fault. not_both (places scan) l a fault (scan_of scan)
