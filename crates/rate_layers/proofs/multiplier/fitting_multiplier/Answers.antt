use Rattle.std.proofs.Common.{ap, subst, arith}
use Rattle.rate_table.proofs.Best.{below_then_none_fits}
use Rattle.rate_table.specs.Table.{Table, IsTable}
use Rattle.rate_layers.proofs.Picks.{some_fit}
use Rattle.rate_layers.proofs.multiplier.fitting_multiplier.Goals as goal

pub least_multiplier-requires : goal.least_multiplier-requires
least_multiplier-requires c =
    let budget = ap (λ (t : Table). t.budget) c.table.view_is in
    record { fits = some_fit c.args.table.now (subst IsTable c.table.view_is c.table.invariant) (omega (arith, budget, c.from.ensures, c.least.ensures, c.if-from-least.false)) }

pub returns-then-from-least-clause-none : goal.returns-then-from-least-clause-none
returns-then-from-least-clause-none c =
    let budget = ap (λ (t : Table). t.budget) c.table.view_is in
    below_then_none_fits c.args.table.now (omega (arith, budget, c.from.ensures, c.least.ensures, c.if-from-least.true))
