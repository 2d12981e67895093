use Rattle.std.proofs.Common.{◌<◌, ◌^◌, refl, arith, List, ℕ, [], ◌∷◌, ◌++◌, length, ap, sym, subst, ◌∙◌}
use Rattle.pw_outside.specs.Writing.{Puts, PutsFront}
use Rattle.pr_frame.specs.Written.{coded_bytes}
use Rattle.qt_movie.specs.MovieBytes.{frame_bytes}
use Rattle.std.specs.List.{All}
use Rattle.std.proofs.lemmas.List.Elements.{All-take, All-drop}
use Rattle.rate_table.specs.Table.{Table, IsSliceTable}
use Rattle.rate_build.specs.Coding.{coded_frame}
use Rattle.run_encode.specs.Groups.{header_in}
use Rattle.run_encode.specs.Outputs.{state_of}
use Rattle.pw_outside.proofs.Results.{any_err}
use Rattle.run_encode.proofs.FramesLeft.{none-written, current, frame-is, long-enough, here-part, front-all, frame-more, moved, at-end}
use Rattle.run_encode.proofs.frames.write_frames.Goals as goal

pub frames-init : goal.frames-init
frames-init g c = record {
  written = none-written _ _ _ _ _ _ c.args.table.now
      (c.as_slice-slices.ensures.slices ∙ ap (λ (x : Table). x.slices) c.table.view_is) c.requires.table c.requires.frames
      (subst (λ (x : Table). x.budget < 2 ^ 31) c.table.view_is c.table.invariant.budget_limit) c.requires.choice (g.met.K.ByteSink.counts c.args.out.now).1;
  each = subst (All IsSliceTable) (sym c.as_slice-slices.ensures.slices) c.as_slice-slices.ensures.each;
  head = refl;
  spare = omega (arith, c.requires.spare);
  cause = refl;
}

pub split_at-requires : goal.split_at-requires
split_at-requires g c =
    let is = frame-is c.args.job.now c.args.frames.now c.frames.frame-index c.frame-item.result c.frames-test.true c.frame-item.is c.requires.frames in
    let s = current _ _ _ c.frame-item.result _ _ _ _ _ _ _ c.frames-test.true c.frame-item.is c.frames.invariant.written in
    (long-enough _ _ _ _ _ _ _ _ is c.slices_in-count.ensures.value s.left_is).0

pub split_at-requires-in-frames : goal.split_at-requires-in-frames
split_at-requires-in-frames g c =
    let is = frame-is c.args.job.now c.args.frames.now c.frames.frame-index c.frame-item.result c.frames-test.true c.frame-item.is c.requires.frames in
    let s = current _ _ _ c.frame-item.result _ _ _ _ _ _ _ c.frames-test.true c.frame-item.is c.frames.invariant.written in
    (long-enough _ _ _ _ _ _ _ _ is c.slices_in-count.ensures.value s.left_is).1

pub write_frame-requires-clause-frame : goal.write_frame-requires-clause-frame
write_frame-requires-clause-frame g c = frame-is c.args.job.now c.args.frames.now c.frames.frame-index c.frame-item.result c.frames-test.true c.frame-item.is c.requires.frames

pub write_frame-requires-clause-slices : goal.write_frame-requires-clause-slices
write_frame-requires-clause-slices g c =
    let is = frame-is c.args.job.now c.args.frames.now c.frames.frame-index c.frame-item.result c.frames-test.true c.frame-item.is c.requires.frames in
    let s = current _ _ _ c.frame-item.result _ _ _ _ _ _ _ c.frames-test.true c.frame-item.is c.frames.invariant.written in
    (here-part _ _ _ is _ _ _ _ c.slices_in-count.ensures.value _ s.left_is _ _ c.split_at.ensures.front c.split_at-in-frames.ensures.front).0

pub write_frame-requires-clause-each : goal.write_frame-requires-clause-each
write_frame-requires-clause-each g c = subst (All IsSliceTable) (sym c.split_at.ensures.front) (All-take IsSliceTable _ _ c.frames.invariant.each)

pub write_frame-requires-clause-choice : goal.write_frame-requires-clause-choice
write_frame-requires-clause-choice g c =
    let is = frame-is c.args.job.now c.args.frames.now c.frames.frame-index c.frame-item.result c.frames-test.true c.frame-item.is c.requires.frames in
    let s = current _ _ _ c.frame-item.result _ _ _ _ _ _ _ c.frames-test.true c.frame-item.is c.frames.invariant.written in
    (here-part _ _ _ is _ _ _ _ c.slices_in-count.ensures.value _ s.left_is _ _ c.split_at.ensures.front c.split_at-in-frames.ensures.front).1

pub returns-in_err-write_frame-clause-err : goal.returns-in_err-write_frame-clause-err
returns-in_err-write_frame-clause-err g c =
    let is = frame-is c.args.job.now c.args.frames.now c.frames.frame-index c.frame-item.result c.frames-test.true c.frame-item.is c.requires.frames in
    let s = current _ _ _ c.frame-item.result _ _ _ _ _ _ _ c.frames-test.true c.frame-item.is c.frames.invariant.written in
    any_err c.from_residual.result (front-all _ _ _ is _ _ _ _ c.slices_in-count.ensures.value _ s.left_is _ _ _ s.puts
    (subst (λ choice. PutsFront (state_of g.K.ByteSink.held g.K.ByteSink.taken c.frames.out) (state_of g.K.ByteSink.held g.K.ByteSink.taken c.write_frame.new.out)
    (frame_bytes (coded_bytes (coded_frame c.frame-item.result (header_in c.args.job.now) choice)))) c.split_at-in-frames.ensures.front c.in_err-write_frame.ensures.err))

pub frames-preserved : goal.frames-preserved
frames-preserved g c =
    let is = frame-is c.args.job.now c.args.frames.now c.frames.frame-index c.frame-item.result c.frames-test.true c.frame-item.is c.requires.frames in
    let s = current _ _ _ c.frame-item.result _ _ _ _ _ _ _ c.frames-test.true c.frame-item.is c.frames.invariant.written in
    let f = λ (choice : List ℕ). coded_bytes (coded_frame c.frame-item.result (header_in c.args.job.now) choice) in
    record {
      written = moved _ _ _ _ _ _ _ _ _ _ _ _ (sym c.split_at.ensures.back) (sym c.split_at-in-frames.ensures.back)
          (frame-more _ _ _ is _ _ _ _ c.slices_in-count.ensures.value _ _ _ _ _ _ _ s
          (subst (λ choice. Puts (state_of g.K.ByteSink.held g.K.ByteSink.taken c.frames.out) (state_of g.K.ByteSink.held g.K.ByteSink.taken c.write_frame.new.out) (frame_bytes (f choice)))
          c.split_at-in-frames.ensures.front c.in_ok-write_frame.ensures.ok)
          (c.in_ok-write_frame.ensures.sizes ∙ ap (λ choice. c.frames.movie.sizes ++ length (f choice) ∷ []) c.split_at-in-frames.ensures.front));
      each = subst (All IsSliceTable) (sym c.split_at.ensures.back) (All-drop IsSliceTable _ _ c.frames.invariant.each);
      head = c.in_ok-write_frame.ensures.head ∙ c.frames.invariant.head;
      spare = omega (arith, c.in_ok-write_frame.ensures.spare_left, c.frames.invariant.spare);
      cause = c.in_ok-write_frame.ensures.cause.kept ∙ c.frames.invariant.cause;
    }

pub returns-clause-ok : goal.returns-clause-ok
returns-clause-ok g c = (at-end _ _ _ _ _ _ _ _ _ _ c.frames-test.false c.frames.invariant.written).0

pub returns-clause-sizes : goal.returns-clause-sizes
returns-clause-sizes g c = (at-end _ _ _ _ _ _ _ _ _ _ c.frames-test.false c.frames.invariant.written).1
