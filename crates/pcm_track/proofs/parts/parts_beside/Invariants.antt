use Rattle.std.proofs.Common.{◌≡◌, ◌*◌, ◌≤◌, ◌++◌, drop}
use Rattle.pcm_track.specs.Adding.{parts_from}
use Rattle.pcm_track.proofs.parts.parts_beside.Given as goal

abbrev pub invariant-loop-i : goal.invariant-loop-i
invariant-loop-i l = record {
  beside : l.parts.items ++ parts_from l.timescale l.pcm l.time (drop l.i l.samples) ≡ parts_from l.timescale l.pcm 0 l.samples;
  small : l.time ≤ 4294967295 * l.i;
}
