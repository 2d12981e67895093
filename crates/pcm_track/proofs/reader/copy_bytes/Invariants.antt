use Rattle.std.proofs.Common.{◌≡◌, ◌+◌, ◌-◌, ◌≤◌}
use Rattle.std.specs.Prelude.{IsSome}
use Rattle.pw_outside.specs.Reading.{rest_of}
use Rattle.pw_outside.specs.Writing.{sink_state}
use Rattle.pcm_track.specs.Wav.{passed_over}
use Rattle.pcm_track.specs.Writing.{Copied}
use Rattle.pcm_track.proofs.Pieces.{Behind}
use Rattle.pcm_track.proofs.reader.copy_bytes.Given as goal

abbrev pub invariant-loop-left : goal.invariant-loop-left
invariant-loop-left g l = record {
  within : l.left ≤ l.count;
  told : IsSome (g.S.ByteSource.left l.initial.source) → IsSome (g.S.ByteSource.left l.source);
  same : IsSome (g.S.ByteSource.left l.initial.source) → passed_over l.count (rest_of l.initial.place (g.S.ByteSource.left l.initial.source)) ≡ passed_over l.left (rest_of l.place (g.S.ByteSource.left l.source));
  ahead : Behind (g.S.ByteSource.left l.initial.source) (g.S.ByteSource.left l.source) (l.count - l.left);
  copied : Copied (g.S.ByteSource.left l.initial.source) (l.count - l.left) (sink_state (g.K.ByteSink.held l.initial.sink) (g.K.ByteSink.taken l.initial.sink)) (sink_state (g.K.ByteSink.held l.sink) (g.K.ByteSink.taken l.sink));
  place : l.place + l.left ≤ l.initial.place + l.count;
  settled : g.K.ByteSink.settled l.initial.sink ≤ g.K.ByteSink.settled l.sink;
  read : g.S.ByteSource.faults l.source ≡ g.S.ByteSource.faults l.initial.source;
  write : g.K.ByteSink.faults l.sink ≡ g.K.ByteSink.faults l.initial.sink;
}

abbrev pub decreases-loop-left : goal.decreases-loop-left
decreases-loop-left g l = l.left
