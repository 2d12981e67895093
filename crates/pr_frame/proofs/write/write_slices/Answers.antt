use Rattle.std.proofs.Common.{refl, ◌∙◌, arith}
use Rattle.pw_outside.specs.Writing.{sink_state}
use Rattle.pw_outside.proofs.Puts.{puts_none}
use Rattle.pr_frame.specs.Written.{slice_bytes}
use Rattle.pw_outside.proofs.Results.{any_err}
use Rattle.pr_frame.proofs.PutSteps.{list-more, list-front, list-all}
use Rattle.pr_frame.proofs.write.write_slices.Goals as goal

pub loop-slice-init : goal.loop-slice-init
loop-slice-init g c = record {
  puts = puts_none (sink_state (g.K.ByteSink.held c.args.sink.now) (g.K.ByteSink.taken c.args.sink.now)) (g.met.K.ByteSink.counts c.args.sink.now).1;
  settled = omega arith;
  cause = refl;
}

pub returns-in_err-write_coded-clause-err : goal.returns-in_err-write_coded-clause-err
returns-in_err-write_coded-clause-err g c =
    let xs = c.args.slices.now in
    let n = c.loop-slice.slice-index in
    let x = c.slice-item.result in
    any_err c.from_residual.result (list-front (slice_bytes c.args.mode c.args.alpha) xs n x c.loop-slice-test.true c.slice-item.is c.loop-slice.invariant.puts c.in_err-write_coded.ensures.err)

pub loop-slice-preserved : goal.loop-slice-preserved
loop-slice-preserved g c =
    let i = c.loop-slice.invariant in
    let xs = c.args.slices.now in
    let n = c.loop-slice.slice-index in
    let x = c.slice-item.result in
    record {
      puts = list-more (slice_bytes c.args.mode c.args.alpha) xs n x c.loop-slice-test.true c.slice-item.is i.puts c.in_ok-write_coded.ensures.ok;
      settled = omega (arith, i.settled, c.in_ok-write_coded.ensures.settled);
      cause = c.in_ok-write_coded.ensures.cause.kept ∙ i.cause;
    }

pub returns-clause-ok : goal.returns-clause-ok
returns-clause-ok g c = list-all (slice_bytes c.args.mode c.args.alpha) c.args.slices.now c.loop-slice.slice-index c.loop-slice-test.false c.loop-slice.invariant.puts
