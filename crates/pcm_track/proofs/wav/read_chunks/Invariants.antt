use Rattle.std.proofs.Common.{◌≡◌, ◌+◌, ◌-◌, ◌*◌, ◌≤◌}
use Rattle.std.specs.Prelude.{IsSome, IfSome, None}
use Rattle.pw_outside.specs.Reading.{rest_of}
use Rattle.pcm_track.specs.Wav.{form_from, IsFormat}
use Rattle.pcm_track.proofs.wav.read_chunks.Given as goal

abbrev pub invariant-loop : goal.invariant-loop
invariant-loop g l = record {
  known : IfSome l.known IsFormat;
  place : l.place ≤ 100 + 4294967304 * l.counter;
  told : IsSome (g.S.ByteSource.left l.initial.source) → IsSome (g.S.ByteSource.left l.source);
  same : IsSome (g.S.ByteSource.left l.initial.source) → form_from 1000 None (rest_of l.initial.place (g.S.ByteSource.left l.initial.source)) ≡ form_from (1000 - l.counter) l.known (rest_of l.place (g.S.ByteSource.left l.source));
  cause : g.S.ByteSource.faults l.source ≡ g.S.ByteSource.faults l.initial.source;
}
