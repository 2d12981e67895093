use Rattle.std.proofs.Common.{arith, ◌≤◌, ap}
use Rattle.std.specs.List.{sum_by}
use Rattle.std.proofs.lemmas.List.Elements.{All-same}
use Rattle.qt_movie.specs.declared.reader.Track.{Track}
use Rattle.pcm_track.specs.Adding.{parts_of, part_frames, IsNear, IsPartNear}
use Rattle.pcm_track.proofs.Shares.{frames-of, near-of}
use Rattle.pcm_track.proofs.adding.plan_of.Goals as goal

pub returns-clause-near : goal.returns-clause-near
returns-clause-near c =
    let t = c.track.result.timescale in
    let samples = c.deref.result.now in
    All-same IsPartNear c.in-Ok-parts_of.parts.items (parts_of t c.args.pcm samples) c.in-Ok-parts_of.ensures
    (near-of t c.args.pcm samples (All-same IsNear samples c.in-Ok.samples.items c.deref.ensures.value c.in-Ok.ensures.near))

pub returns-clause-sound : goal.returns-clause-sound
returns-clause-sound c =
    let scale = ap (λ (t : Track). t.timescale) c.track.ensures in
    let some : 1 ≤ c.track.result.timescale = omega (arith, scale, c.requires.tables.timescale) in
    omega (arith, ap (sum_by part_frames) c.in-Ok-parts_of.ensures, frames-of c.track.result.timescale c.args.pcm c.deref.result.now some)
