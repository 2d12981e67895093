use Rattle.std.proofs.Common.{subst, []}
use Rattle.pw_outside.proofs.Puts.{puts_none}
use Rattle.rescue_run.specs.Rescuing.{world, rescue_text}
use Rattle.rescue_run.specs.inner.Steps.{FinishIs}
use Rattle.rescue_run.proofs.Ending.{finish_then}
use Rattle.rescue_run.proofs.finish.finish.Goals as goal

pub returns-in-Ok-clause-finish : goal.returns-in-Ok-clause-finish
returns-in-Ok-clause-finish g c =
    let x = world g.K.ByteSink.held g.K.ByteSink.taken c.args.out.now c.args.text.now in
    let m = world g.K.ByteSink.held g.K.ByteSink.taken c.finish.new.sink c.args.text.now in
    let y = world g.K.ByteSink.held g.K.ByteSink.taken c.print.new.out c.print.new.text in
    let text = subst (λ l. FinishIs c.print.result [] (rescue_text l) m y) c.deref.ensures.value c.print.ensures.finish in
    finish_then c.print.result x m y _ (rescue_text c.args.gathered.extents.items) c.in-Ok.ensures.bytes (puts_none _ (g.met.K.ByteSink.counts c.args.text.now).1) text
