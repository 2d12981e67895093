use Rattle.std.proofs.Common.{ℕ, ◌<◌, List, get_or, map}
use Rattle.rate_least.specs.declared.outcome.WidePair.{WidePair}
use Rattle.rate_least.specs.Pairs.{RisesAndFalls}
use Rattle.rate_least.proofs.layers.are_in_order.Given as goal

abbrev pub invariant-loop-layer : goal.invariant-loop-layer
invariant-loop-layer l = (k : ℕ) (d : List WidePair) → k < l.layer-index → RisesAndFalls (get_or (map (λ v. v.items) l.layers) k d)
