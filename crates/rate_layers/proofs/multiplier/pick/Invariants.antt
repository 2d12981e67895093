use Rattle.std.proofs.Common.{◌≡◌, take}
use Rattle.std.specs.List.{Contains, All}
use Rattle.rate_table.specs.Pairs.{cost}
use Rattle.rate_layers.specs.Multiplier.{Wins}
use Rattle.rate_layers.proofs.multiplier.pick.Given as goal

-- the best so far is an entry, and is preferred to each so far
abbrev pub invariant-loop-x : goal.invariant-loop-x
invariant-loop-x l = record {
  within : Contains l.entries l.best;
  wins : All (λ y. Wins l.multiplier l.best y) (take l.x-index l.entries);
  least : l.least ≡ cost l.multiplier l.best;
}
