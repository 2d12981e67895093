use Rattle.std.proofs.Common.{◌≡◌, ◌-◌, ◌≤◌}
use Rattle.std.specs.Prelude.{IsSome}
use Rattle.pw_outside.specs.Reading.{bytes_of}
use Rattle.pw_outside.specs.Writing.{sink_state, Extends}
use Rattle.rescue_run.specs.inner.Windows.{Shows}
use Rattle.rescue_run.specs.inner.Steps.{AreKept, GatheredUpTo}
use Rattle.rescue_run.proofs.gather.gather_all.Given as goal

abbrev pub invariant-loop-place : goal.invariant-loop-place
invariant-loop-place g l = record {
  within : l.place ≤ l.total;
  kept : AreKept l.rate l.gathering;
  shows : Shows (g.M.ByteStore.bytes l.initial.movie) l.total l.window;
  gathered : IsSome (g.M.ByteStore.bytes l.initial.movie) → GatheredUpTo (bytes_of (g.M.ByteStore.bytes l.initial.movie)) l.place l.gathering
      (sink_state (g.K.ByteSink.held l.initial.out) (g.K.ByteSink.taken l.initial.out)) (sink_state (g.K.ByteSink.held l.out) (g.K.ByteSink.taken l.out));
  extends : Extends (sink_state (g.K.ByteSink.held l.initial.out) (g.K.ByteSink.taken l.initial.out)) (sink_state (g.K.ByteSink.held l.out) (g.K.ByteSink.taken l.out));
  bytes : g.M.ByteStore.bytes l.movie ≡ g.M.ByteStore.bytes l.initial.movie;
  source : g.M.ByteStore.faults l.movie ≡ g.M.ByteStore.faults l.initial.movie;
  sink : g.K.ByteSink.faults l.out ≡ g.K.ByteSink.faults l.initial.out;
}

abbrev pub decreases-loop-place : goal.decreases-loop-place
decreases-loop-place g l = l.total - l.place
