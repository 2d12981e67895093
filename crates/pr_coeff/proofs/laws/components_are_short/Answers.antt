use Rattle.std.proofs.Common.{arith}
use Rattle.pr_coeff.specs.Component.{places}
use Rattle.pr_coeff.proofs.WholeLemmas.{scan_of}
use Rattle.pr_coeff.proofs.CostLemmas.{component_cost}
use Rattle.pr_coeff.proofs.laws.components_are_short.Goals as goal

pub returns : goal.returns
returns c = λ scan blocks some few small.
    let cost = component_cost 13 (places scan) blocks (scan_of scan) (omega arith) few (λ i q. omega (arith, small i q)) in
    omega (arith, cost)
