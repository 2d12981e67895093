use Rattle.std.proofs.Common.{refl, get_or, sym, ap, ◌∙◌, arith}
use Rattle.pw_outside.specs.Writing.{sink_state}
use Rattle.pw_outside.proofs.Puts.{puts_none}
use Rattle.pr_frame.specs.Written.{slice_bytes}
use Rattle.pw_outside.proofs.Results.{any_err}
use Rattle.pr_frame.proofs.PutSteps.{list-more, list-front, list-all}
use Rattle.rate_build.specs.Coding.{coded_slice, coded_slices, weights_in}
use Rattle.rate_build.proofs.Lengths.{coded_number}
use Rattle.rate_build.proofs.Straight.{coded_at}
use Rattle.rate_build.proofs.writing.write_all.Goals as goal

pub loop-i-init : goal.loop-i-init
loop-i-init g c = record {
  puts = puts_none (sink_state (g.K.ByteSink.held c.args.sink.now) (g.K.ByteSink.taken c.args.sink.now)) (g.met.K.ByteSink.counts c.args.sink.now).1;
  settled = omega arith;
  cause = refl;
}

pub returns-in_err-write_one-clause-err : goal.returns-in_err-write_one-clause-err
returns-in_err-write_one-clause-err g c =
    let h = c.args.header.now in
    let w = weights_in h in
    let slices = c.args.slices.now in
    let choice = c.args.choice.now in
    let n = c.loop-i.i in
    let x = coded_slice w (get_or choice n 0) c.index-slices-i.result in
    let is = ap (coded_slice w (get_or choice n 0)) c.index-slices-i.is ∙ sym (coded_at w slices choice n c.index-slices-i.result x c.requires.number c.loop-i-test.true) in
    any_err c.from_residual.result
    (list-front (slice_bytes h.interlace h.alpha) (coded_slices w slices choice) n x (omega (arith, c.loop-i-test.true, coded_number w slices choice c.requires.number)) is c.loop-i.invariant.puts c.in_err-write_one.ensures.err)

pub loop-i-preserved : goal.loop-i-preserved
loop-i-preserved g c =
    let h = c.args.header.now in
    let w = weights_in h in
    let slices = c.args.slices.now in
    let choice = c.args.choice.now in
    let i = c.loop-i.invariant in
    let n = c.loop-i.i in
    let x = coded_slice w (get_or choice n 0) c.index-slices-i.result in
    let is = ap (coded_slice w (get_or choice n 0)) c.index-slices-i.is ∙ sym (coded_at w slices choice n c.index-slices-i.result x c.requires.number c.loop-i-test.true) in
    record {
      puts = list-more (slice_bytes h.interlace h.alpha) (coded_slices w slices choice) n x (omega (arith, c.loop-i-test.true, coded_number w slices choice c.requires.number)) is i.puts c.in_ok-write_one.ensures.ok;
      settled = omega (arith, i.settled, c.in_ok-write_one.ensures.settled);
      cause = c.in_ok-write_one.ensures.cause.kept ∙ i.cause;
    }

pub returns-clause-ok : goal.returns-clause-ok
returns-clause-ok g c =
    let h = c.args.header.now in
    let w = weights_in h in
    list-all (slice_bytes h.interlace h.alpha) (coded_slices w c.args.slices.now c.args.choice.now) c.loop-i.i
    (omega (arith, c.loop-i-test.false, coded_number w c.args.slices.now c.args.choice.now c.requires.number)) c.loop-i.invariant.puts
