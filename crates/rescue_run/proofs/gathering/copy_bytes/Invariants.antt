use Rattle.std.proofs.Common.{◌≡◌, ◌-◌, ◌≤◌}
use Rattle.std.specs.Prelude.{IsSome}
use Rattle.pw_outside.specs.Reading.{bytes_of}
use Rattle.pw_outside.specs.Writing.{sink_state, Puts, Extends}
use Rattle.qt_atoms.specs.Atoms.{bytes_in}
use Rattle.rescue_run.specs.inner.Windows.{Shows}
use Rattle.rescue_run.proofs.gathering.copy_bytes.Given as goal

abbrev pub invariant-loop-next : goal.invariant-loop-next
invariant-loop-next g l = record {
  order : l.place ≤ l.next;
  within : l.next ≤ l.end;
  shows : Shows (g.M.ByteStore.bytes l.initial.movie) l.total l.window;
  copied : IsSome (g.M.ByteStore.bytes l.initial.movie) → Puts (sink_state (g.K.ByteSink.held l.initial.out) (g.K.ByteSink.taken l.initial.out)) (sink_state (g.K.ByteSink.held l.out) (g.K.ByteSink.taken l.out))
      (bytes_in (l.next - l.place) (bytes_of (g.M.ByteStore.bytes l.initial.movie)) l.place);
  extends : Extends (sink_state (g.K.ByteSink.held l.initial.out) (g.K.ByteSink.taken l.initial.out)) (sink_state (g.K.ByteSink.held l.out) (g.K.ByteSink.taken l.out));
  bytes : g.M.ByteStore.bytes l.movie ≡ g.M.ByteStore.bytes l.initial.movie;
  source : g.M.ByteStore.faults l.movie ≡ g.M.ByteStore.faults l.initial.movie;
  sink : g.K.ByteSink.faults l.out ≡ g.K.ByteSink.faults l.initial.out;
}

abbrev pub decreases-loop-next : goal.decreases-loop-next
decreases-loop-next g l = l.end - l.next
