use Rattle.std.proofs.Common.{arith}
use Rattle.std.specs.Prelude.{None}
use Rattle.rescue_run.proofs.Turning.{none_gathered, stopped_here}
use Rattle.rescue_run.proofs.gather.gather.Goals as goal

pub returns-in-Err-clause-gathers : goal.returns-in-Err-clause-gathers
returns-in-Err-clause-gathers g c = λ told. stopped_here _ 0 None _ _ (omega arith) (none_gathered _ _ (g.met.K.ByteSink.counts c.args.out.now).1)
