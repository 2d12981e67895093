use Rattle.std.proofs.Common.{rules, ◌+◌, ◌/◌, ◌%◌}
use Rattle.std.proofs.lemmas.List.FromFn.{fill_by_all}
use Rattle.pr_quant.proofs.weights.steep.Goals as goal

pub returns : goal.returns
returns c = fill_by_all (λ p. 4 + p / 8 + p % 8) c.loop-place.weights 64 0 c.loop-place.invariant.0 (search rules)
