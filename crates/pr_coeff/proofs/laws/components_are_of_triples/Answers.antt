use Rattle.pr_coeff.proofs.TripleLemmas.{stands_are_triples, component_is_of_triples}
use Rattle.pr_coeff.proofs.laws.components_are_of_triples.Goals as goal

pub returns-clause-stands : goal.returns-clause-stands
returns-clause-stands c = stands_are_triples

pub returns-clause-written : goal.returns-clause-written
returns-clause-written c = component_is_of_triples
