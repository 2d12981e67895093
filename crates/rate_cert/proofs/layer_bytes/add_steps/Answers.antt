use Rattle.std.proofs.Common.{refl, ◌+◌, drop, ◌∙◌, arith}
use Rattle.pw_outside.specs.Writing.{sink_state}
use Rattle.pw_outside.proofs.Results.{any_err}
use Rattle.rate_cert.specs.Layers.{steps_bytes}
use Rattle.rate_cert.proofs.Gathering.{partly_start, partly_more, partly_end, partly_all, next, steps_left, order_left, steps_done}
use Rattle.rate_cert.proofs.layer_bytes.add_steps.Goals as goal

pub loop-pair-init : goal.loop-pair-init
loop-pair-init g c = record {
  partly = partly_start (sink_state (g.K.ByteSink.held c.args.sink.now) (g.K.ByteSink.taken c.args.sink.now)) c.args.gathered.now.items (steps_bytes c.args.first c.args.pairs.now) (g.met.K.ByteSink.counts c.args.sink.now).1;
  order = c.requires;
  settled = omega arith;
  cause = refl;
}

pub returns-in_err-add-clause-err : goal.returns-in_err-add-clause-err
returns-in_err-add-clause-err g c =
    let n = c.loop-pair.pair-index in
    let xs = c.args.pairs.now in
    let b = c.loop-pair.before in
    let lt = c.loop-pair-test.true in
    let text = c.as_slice.result.now in
    any_err c.from_residual.result (partly_end text (steps_bytes (next b xs n lt) (drop (n + 1) xs)) (steps_left b xs n lt text (c.as_slice.ensures.value ∙ c.bytes_of_step.ensures)) c.loop-pair.invariant.partly c.in_err-add.ensures.err)

pub loop-pair-preserved : goal.loop-pair-preserved
loop-pair-preserved g c =
    let n = c.loop-pair.pair-index in
    let xs = c.args.pairs.now in
    let b = c.loop-pair.before in
    let lt = c.loop-pair-test.true in
    let text = c.as_slice.result.now in
    record {
      partly = partly_more text (steps_bytes (next b xs n lt) (drop (n + 1) xs)) (steps_left b xs n lt text (c.as_slice.ensures.value ∙ c.bytes_of_step.ensures)) c.loop-pair.invariant.partly c.in_ok-add.ensures.ok;
      order = (order_left b xs n lt c.loop-pair.invariant.order).2;
      settled = omega (arith, c.loop-pair.invariant.settled, c.in_ok-add.ensures.settled);
      cause = c.in_ok-add.ensures.cause.kept ∙ c.loop-pair.invariant.cause;
    }

pub returns-clause-ok : goal.returns-clause-ok
returns-clause-ok g c = partly_all (steps_done c.loop-pair.before c.args.pairs.now c.loop-pair.pair-index c.loop-pair-test.false) c.loop-pair.invariant.partly
