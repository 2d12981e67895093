use Rattle.std.proofs.Common.{refl, ◌∙◌, arith}
use Rattle.pw_outside.specs.Writing.{sink_state}
use Rattle.pw_outside.proofs.Puts.{puts_none}
use Rattle.pr_frame.specs.Written.{slice_length}
use Rattle.pw_outside.proofs.Results.{any_err}
use Rattle.pr_frame.proofs.PutSteps.{table-more, table-front, table-all}
use Rattle.pr_frame.proofs.write.write_table.Goals as goal

pub loop-slice-init : goal.loop-slice-init
loop-slice-init g c = record {
  puts = puts_none (sink_state (g.K.ByteSink.held c.args.sink.now) (g.K.ByteSink.taken c.args.sink.now)) (g.met.K.ByteSink.counts c.args.sink.now).1;
  settled = omega arith;
  cause = refl;
}

pub returns-in_err-write_size-clause-err : goal.returns-in_err-write_size-clause-err
returns-in_err-write_size-clause-err g c =
    let xs = c.args.slices.now in
    let n = c.loop-slice.slice-index in
    let x = c.slice-item.result in
    any_err c.from_residual.result (table-front (slice_length c.args.mode c.args.alpha) xs n x c.loop-slice-test.true c.slice-item.is c.loop-slice.invariant.puts c.in_err-write_size.ensures.err)

pub loop-slice-preserved : goal.loop-slice-preserved
loop-slice-preserved g c =
    let i = c.loop-slice.invariant in
    let xs = c.args.slices.now in
    let n = c.loop-slice.slice-index in
    let x = c.slice-item.result in
    record {
      puts = table-more (slice_length c.args.mode c.args.alpha) xs n x c.loop-slice-test.true c.slice-item.is i.puts c.in_ok-write_size.ensures.ok;
      settled = omega (arith, i.settled, c.in_ok-write_size.ensures.settled);
      cause = c.in_ok-write_size.ensures.cause.kept ∙ i.cause;
    }

pub returns-clause-ok : goal.returns-clause-ok
returns-clause-ok g c = table-all (slice_length c.args.mode c.args.alpha) c.args.slices.now c.loop-slice.slice-index c.loop-slice-test.false c.loop-slice.invariant.puts
