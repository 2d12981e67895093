use Rattle.rate_layers.proofs.Picks.{picks_down}
use Rattle.rate_layers.proofs.laws.picks_fall.Goals as goal

pub returns : goal.returns
returns c = λ slices m n c d l a b. picks_down m n slices c d l a b
