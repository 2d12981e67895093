use Rattle.std.proofs.Common.{map}
use Rattle.rate_least.proofs.Found.{Walking}
use Rattle.rate_least.proofs.live.walk.Given as goal

-- the walk so far
abbrev pub invariant-loop-k : goal.invariant-loop-k
invariant-loop-k l = Walking l.fn.table.slices l.fn.goal (map (λ v. v.items) l.layers) (map (λ v. v.items) l.marks) l.k l.p l.choice.items
