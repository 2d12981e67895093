use Rattle.std.proofs.Common.{◌≤◌}
use Rattle.rate_layers.proofs.search.find_by_stages.Given as goal

-- the lower bound is at most `most`
abbrev pub invariant-loop-part : goal.invariant-loop-part
invariant-loop-part l = l.low ≤ l.most
