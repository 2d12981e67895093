use Rattle.std.proofs.Common.{inr}
use Rattle.rescue_run.proofs.Lines.{settled_front}
use Rattle.rescue_run.proofs.finish.print.Goals as goal

pub returns-in-Err-clause-finish : goal.returns-in-Err-clause-finish
returns-in-Err-clause-finish g c = inr (c.settle.ensures.out, settled_front _ _ _ _ c.in-Ok.ensures.bytes c.settle.ensures.text)
