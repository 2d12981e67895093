use Rattle.std.proofs.Common.{arith, subst}
use Rattle.std.proofs.lemmas.Result.{err_from_is_err_and}
use Rattle.pw_outside.specs.Writing.{sink_state, PutsFront}
use Rattle.rate_table.specs.Body.{slice_bytes}
use Rattle.rate_table.proofs.Parts.{parts-end}
use Rattle.rate_table.proofs.writing.write_slices.Goals as goal

pub returns-in_err-write_slice-clause-front : goal.returns-in_err-write_slice-clause-front
returns-in_err-write_slice-clause-front g c =
    let p = err_from_is_err_and c.from_residual.result c.from_residual.ensures.1 in
    rw (p.1) (parts-end slice_bytes c.args.slices.now c.loop-slice.slice-index c.slice-item.result (omega arith) c.loop-slice.invariant.all
    (subst (λ s. PutsFront (sink_state (g.K.ByteSink.held c.loop-slice.sink) (g.K.ByteSink.taken c.loop-slice.sink)) (sink_state (g.K.ByteSink.held c.write_slice.new.sink) (g.K.ByteSink.taken c.write_slice.new.sink)) (slice_bytes s)) c.slice-item.is c.in_err-write_slice.ensures.front))
