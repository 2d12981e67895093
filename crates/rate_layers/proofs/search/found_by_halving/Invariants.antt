use Rattle.std.proofs.Common.{◌≤◌}
use Rattle.rate_layers.proofs.search.found_by_halving.Given as goal

abbrev pub invariant-halving : goal.invariant-halving
invariant-halving l = l.low ≤ l.full
