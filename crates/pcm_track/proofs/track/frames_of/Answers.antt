use Rattle.std.proofs.Common.{arith, ◌≤◌, length, ap, ◌∙◌}
use Rattle.std.proofs.lemmas.List.{take_all}
use Rattle.qt_tables.specs.Samples.{chunks, held_by}
use Rattle.pcm_track.proofs.HeldFrames.{held-step, chunks-counted}
use Rattle.pcm_track.proofs.track.frames_of.Goals as goal

pub loop-i-preserved : goal.loop-i-preserved
loop-i-preserved c =
    let t = c.args.tables.now in
    let more = held-step (chunks t.runs t.offsets) c.loop-i.i c.chunk.result c.chunk.ensures.value in
    record {
      sum = omega (arith, more, c.loop-i.invariant.sum, c.from-frames.ensures);
      small = omega (arith, c.loop-i.invariant.small, c.from-frames.ensures, c.from-frames.type_inv, c.chunk.type_inv);
    }

pub returns-clause-value : goal.returns-clause-value
returns-clause-value c =
    let t = c.args.tables.now in
    let all : length (chunks t.runs t.offsets) ≤ c.loop-i.i = omega (arith, chunks-counted t.runs 1 t.offsets, c.loop-i-test.false, c.count-i-end.ensures.value) in
    c.loop-i.invariant.sum ∙ ap held_by (take_all c.loop-i.i (chunks t.runs t.offsets) all)
