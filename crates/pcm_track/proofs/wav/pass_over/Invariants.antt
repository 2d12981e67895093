use Rattle.std.proofs.Common.{◌≡◌, ◌+◌, ◌≤◌}
use Rattle.std.specs.Prelude.{IsSome}
use Rattle.pw_outside.specs.Reading.{rest_of}
use Rattle.pcm_track.specs.Wav.{passed_over}
use Rattle.pcm_track.proofs.wav.pass_over.Given as goal

abbrev pub invariant-loop-left : goal.invariant-loop-left
invariant-loop-left g l = record {
  told : IsSome (g.S.ByteSource.left l.initial.source) → IsSome (g.S.ByteSource.left l.source);
  same : IsSome (g.S.ByteSource.left l.initial.source) → passed_over l.count (rest_of l.initial.place (g.S.ByteSource.left l.initial.source)) ≡ passed_over l.left (rest_of l.place (g.S.ByteSource.left l.source));
  place : l.place + l.left ≤ l.initial.place + l.count;
  cause : g.S.ByteSource.faults l.source ≡ g.S.ByteSource.faults l.initial.source;
}

abbrev pub decreases-loop-left : goal.decreases-loop-left
decreases-loop-left g l = l.left
