use Rattle.std.proofs.Common.{refl, ◌∙◌, arith}
use Rattle.pw_outside.specs.Writing.{sink_state}
use Rattle.pw_outside.proofs.Puts.{puts_none}
use Rattle.pr_frame.specs.Written.{picture_bytes, picture_length}
use Rattle.pw_outside.proofs.Results.{any_err}
use Rattle.pr_frame.proofs.PutSteps.{list-more, list-front, list-all, one-length}
use Rattle.pr_frame.proofs.write.write_pictures.Goals as goal

pub loop-picture-init : goal.loop-picture-init
loop-picture-init g c = record {
  puts = puts_none (sink_state (g.K.ByteSink.held c.args.sink.now) (g.K.ByteSink.taken c.args.sink.now)) (g.met.K.ByteSink.counts c.args.sink.now).1;
  settled = omega arith;
  cause = refl;
}

pub returns-in_err-write_picture-clause-err : goal.returns-in_err-write_picture-clause-err
returns-in_err-write_picture-clause-err g c =
    let xs = c.args.pictures.now in
    let n = c.loop-picture.picture-index in
    let x = c.picture-item.result in
    any_err c.from_residual.result (list-front (picture_bytes c.args.mode c.args.alpha) xs n x c.loop-picture-test.true c.picture-item.is c.loop-picture.invariant.puts c.in_err-write_picture.ensures.err)

pub loop-picture-preserved : goal.loop-picture-preserved
loop-picture-preserved g c =
    let i = c.loop-picture.invariant in
    let xs = c.args.pictures.now in
    let n = c.loop-picture.picture-index in
    let x = c.picture-item.result in
    record {
      puts = list-more (picture_bytes c.args.mode c.args.alpha) xs n x c.loop-picture-test.true c.picture-item.is i.puts c.in_ok-write_picture.ensures.ok;
      settled = omega (arith, i.settled, c.in_ok-write_picture.ensures.settled);
      cause = c.in_ok-write_picture.ensures.cause.kept ∙ i.cause;
    }

pub returns-clause-ok : goal.returns-clause-ok
returns-clause-ok g c = list-all (picture_bytes c.args.mode c.args.alpha) c.args.pictures.now c.loop-picture.picture-index c.loop-picture-test.false c.loop-picture.invariant.puts

pub write_picture-requires-clause-short : goal.write_picture-requires-clause-short
write_picture-requires-clause-short g c =
    let x = c.picture-item.result in
    omega (arith, c.requires.short, one-length (picture_length c.args.mode c.args.alpha) c.args.pictures.now c.loop-picture.picture-index x c.loop-picture-test.true c.picture-item.is)
