use Rattle.std.proofs.Common.{◌≤◌}
use Rattle.rate_least.proofs.search.find.Given as goal

-- the lower bound is at most the minimisers' size
abbrev pub invariant-loop-part : goal.invariant-loop-part
invariant-loop-part l = l.low ≤ l.most
