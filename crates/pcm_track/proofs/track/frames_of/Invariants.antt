use Rattle.std.proofs.Common.{◌≡◌, ◌*◌, ◌≤◌, take}
use Rattle.qt_tables.specs.Samples.{chunks, held_by}
use Rattle.pcm_track.proofs.track.frames_of.Given as goal

abbrev pub invariant-loop-i : goal.invariant-loop-i
invariant-loop-i l = record {
  sum : l.frames ≡ held_by (take l.i (chunks l.tables.runs l.tables.offsets));
  small : l.frames ≤ 4294967295 * l.i;
}
