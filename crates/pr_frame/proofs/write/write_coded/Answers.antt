use Rattle.std.proofs.Common.{subst}
use Rattle.pw_outside.specs.Writing.{sink_state, Puts, PutsFront}
use Rattle.std.proofs.lemmas.Result.{on_ok_weaker, on_err_weaker}
use Rattle.pr_frame.proofs.PutSteps.{slice-of}
use Rattle.pr_frame.proofs.write.write_coded.Goals as goal

pub returns-clause-ok : goal.returns-clause-ok
returns-clause-ok g c =
    let same = slice-of c.args.mode c.args.alpha c.args.slice.now _ _ _ _ c.as_slice-y.ensures c.as_slice-cb.ensures c.as_slice-cr.ensures c.as_slice-values.ensures in
    on_ok_weaker c.write_slice.result (subst (Puts (sink_state (g.K.ByteSink.held c.args.sink.now) (g.K.ByteSink.taken c.args.sink.now)) (sink_state (g.K.ByteSink.held c.write_slice.new.sink) (g.K.ByteSink.taken c.write_slice.new.sink))) same) c.write_slice.ensures.ok

pub returns-clause-err : goal.returns-clause-err
returns-clause-err g c =
    let same = slice-of c.args.mode c.args.alpha c.args.slice.now _ _ _ _ c.as_slice-y.ensures c.as_slice-cb.ensures c.as_slice-cr.ensures c.as_slice-values.ensures in
    on_err_weaker c.write_slice.result (subst (PutsFront (sink_state (g.K.ByteSink.held c.args.sink.now) (g.K.ByteSink.taken c.args.sink.now)) (sink_state (g.K.ByteSink.held c.write_slice.new.sink) (g.K.ByteSink.taken c.write_slice.new.sink))) same) c.write_slice.ensures.err
