use Rattle.std.proofs.Common.{◌≡◌, ◌-◌, ◌≤◌, length}
use Rattle.pw_outside.specs.Writing.{sink_state}
use Rattle.pcm_track.specs.Writing.{Copied, told_from}
use Rattle.pcm_track.proofs.copying.copy_stored.Given as goal

abbrev pub invariant-loop-done : goal.invariant-loop-done
invariant-loop-done g l = record {
  within : l.done ≤ l.size;
  copied : Copied (told_from l.fn.place (g.M.ByteStore.bytes l.initial.store)) l.done (sink_state (g.K.ByteSink.held l.initial.sink) (g.K.ByteSink.taken l.initial.sink)) (sink_state (g.K.ByteSink.held l.sink) (g.K.ByteSink.taken l.sink));
  length : length l.piece ≡ length l.initial.piece;
  bytes : g.M.ByteStore.bytes l.store ≡ g.M.ByteStore.bytes l.initial.store;
  settled : g.K.ByteSink.settled l.initial.sink ≤ g.K.ByteSink.settled l.sink;
  read : g.M.ByteStore.faults l.store ≡ g.M.ByteStore.faults l.initial.store;
  write : g.K.ByteSink.faults l.sink ≡ g.K.ByteSink.faults l.initial.sink;
}

abbrev pub decreases-loop-done : goal.decreases-loop-done
decreases-loop-done g l = l.size - l.done
