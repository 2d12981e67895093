use Rattle.std.proofs.Common.{◌≡◌, ◌++◌, take}
use Rattle.rate_least.specs.Leasting.{spaced}
use Rattle.rate_least.proofs.leasting.put_indices.Given as goal

abbrev pub invariant-loop-index : goal.invariant-loop-index
invariant-loop-index l = l.text.items ≡ l.initial.text.items ++ spaced (take l.index-index l.choice)
