use Rattle.std.proofs.Common.{refl}
use Rattle.rate_least.proofs.Concluded.{begins}
use Rattle.rate_least.proofs.search.first_of.Goals as goal

pub returns-then-layer-gt0-clause-some : goal.returns-then-layer-gt0-clause-some
returns-then-layer-gt0-clause-some c = begins c.args.layer.now _ _ c.if-layer-gt0.true refl
