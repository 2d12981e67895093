use Rattle.std.proofs.Common.{refl, ap, subst, ◌∙◌, ◌<◌, ◌≤◌, length, arith}
use Rattle.pw_outside.specs.Writing.{sink_state}
use Rattle.pw_outside.proofs.Puts.{puts_none}
use Rattle.pr_geom.specs.Slices.{pictures_of}
use Rattle.pr_frame.specs.Written.{picture_bytes}
use Rattle.pw_outside.proofs.Results.{any_err}
use Rattle.pr_frame.proofs.PutSteps.{list-more, list-front, list-all}
use Rattle.rate_build.specs.Coefficients.{FrameCoefficients, AreOfLayout}
use Rattle.rate_build.specs.Coding.{coded_slices, coded_picture, coded_frame, weights_in}
use Rattle.rate_build.proofs.Whole.{picture_inside}
use Rattle.rate_build.proofs.Framed.{number, pictures_number, picture_within, picture_at}
use Rattle.rate_build.proofs.writing.write_pictures.Goals as goal

pub loop-number-init : goal.loop-number-init
loop-number-init g c = record {
  puts = puts_none (sink_state (g.K.ByteSink.held c.args.sink.now) (g.K.ByteSink.taken c.args.sink.now)) (g.met.K.ByteSink.counts c.args.sink.now).1;
  settled = omega arith;
  cause = refl;
}

pub write_number-requires-clause-number : goal.write_number-requires-clause-number
write_number-requires-clause-number g c =
    omega (arith, c.loop-number-test.true, c.pictures-number-end.ensures, ap (λ (v : FrameCoefficients). pictures_of v.layout.interlace) c.coefficients.view_is)

pub write_number-requires-clause-inside : goal.write_number-requires-clause-inside
write_number-requires-clause-inside g c =
    let are = subst AreOfLayout c.coefficients.view_is c.coefficients.invariant in
    let few : c.loop-number.number < pictures_of c.args.coefficients.now.layout.interlace = omega (arith, c.loop-number-test.true, c.pictures-number-end.ensures, ap (λ (v : FrameCoefficients). pictures_of v.layout.interlace) c.coefficients.view_is) in
    picture_inside c.args.coefficients.now c.loop-number.number are few

pub write_number-requires-clause-choice_number : goal.write_number-requires-clause-choice_number
write_number-requires-clause-choice_number g c =
    let are = subst AreOfLayout c.coefficients.view_is c.coefficients.invariant in
    number c.args.coefficients.now c.args.header.now c.args.tables.now c.args.choice.now are c.requires.header c.requires.tables c.requires.choice

pub returns-in_err-write_number-clause-err : goal.returns-in_err-write_number-clause-err
returns-in_err-write_number-clause-err g c =
    let v = c.args.coefficients.now in
    let h = c.args.header.now in
    let choice = c.args.choice.now in
    let n = c.loop-number.number in
    let lt : n < pictures_of v.layout.interlace = omega (arith, c.loop-number-test.true, c.pictures-number-end.ensures, ap (λ (v : FrameCoefficients). pictures_of v.layout.interlace) c.coefficients.view_is) in
    let x = coded_picture v (coded_slices (weights_in h) v.slices choice) n in
    any_err c.from_residual.result
    (list-front (picture_bytes h.interlace h.alpha) (coded_frame v h choice).pictures n x (picture_within v h choice n lt) (picture_at v h choice n lt x) c.loop-number.invariant.puts c.in_err-write_number.ensures.err)

pub loop-number-preserved : goal.loop-number-preserved
loop-number-preserved g c =
    let v = c.args.coefficients.now in
    let h = c.args.header.now in
    let choice = c.args.choice.now in
    let i = c.loop-number.invariant in
    let n = c.loop-number.number in
    let lt : n < pictures_of v.layout.interlace = omega (arith, c.loop-number-test.true, c.pictures-number-end.ensures, ap (λ (v : FrameCoefficients). pictures_of v.layout.interlace) c.coefficients.view_is) in
    let x = coded_picture v (coded_slices (weights_in h) v.slices choice) n in
    record {
      puts = list-more (picture_bytes h.interlace h.alpha) (coded_frame v h choice).pictures n x (picture_within v h choice n lt) (picture_at v h choice n lt x) i.puts c.in_ok-write_number.ensures.ok;
      settled = omega (arith, i.settled, c.in_ok-write_number.ensures.settled);
      cause = c.in_ok-write_number.ensures.cause.kept ∙ i.cause;
    }

pub returns-clause-ok : goal.returns-clause-ok
returns-clause-ok g c =
    let v = c.args.coefficients.now in
    let h = c.args.header.now in
    let choice = c.args.choice.now in
    let all : length (coded_frame v h choice).pictures ≤ c.loop-number.number =
    omega (arith, c.loop-number-test.false, c.pictures-number-end.ensures, ap (λ (v : FrameCoefficients). pictures_of v.layout.interlace) c.coefficients.view_is, pictures_number v h choice) in
    list-all (picture_bytes h.interlace h.alpha) (coded_frame v h choice).pictures c.loop-number.number all c.loop-number.invariant.puts
