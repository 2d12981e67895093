use Rattle.pr_coeff.proofs.TripleLemmas.{one_list}
use Rattle.pr_coeff.proofs.laws.one_list_of_triples.Goals as goal

pub returns : goal.returns
returns c = one_list
