use Rattle.std.proofs.Common.{◌≡◌, take}
use Rattle.std.specs.List.{All}
use Rattle.qt_tables.specs.Samples.{samples}
use Rattle.pcm_track.specs.Adding.{IsNear}
use Rattle.pcm_track.proofs.parts.samples_of.Given as goal

abbrev pub invariant-loop-i : goal.invariant-loop-i
invariant-loop-i l = record {
  found : l.found.items ≡ take l.i (samples l.movie.tables);
  near : All IsNear l.found.items;
}
