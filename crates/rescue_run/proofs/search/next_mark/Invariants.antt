use Rattle.std.proofs.Common.{◌≡◌, ◌-◌, ◌≤◌}
use Rattle.std.specs.Prelude.{IsSome}
use Rattle.pw_outside.specs.Reading.{bytes_of}
use Rattle.rescue_run.specs.inner.Windows.{Shows, NoMark}
use Rattle.rescue_run.proofs.search.next_mark.Given as goal

abbrev pub invariant-loop-place : goal.invariant-loop-place
invariant-loop-place g l = record {
  order : l.from ≤ l.place;
  within : l.place ≤ l.total;
  shows : Shows (g.M.ByteStore.bytes l.initial.movie) l.total l.window;
  none : IsSome (g.M.ByteStore.bytes l.initial.movie) → NoMark (bytes_of (g.M.ByteStore.bytes l.initial.movie)) l.from l.place;
  bytes : g.M.ByteStore.bytes l.movie ≡ g.M.ByteStore.bytes l.initial.movie;
  source : g.M.ByteStore.faults l.movie ≡ g.M.ByteStore.faults l.initial.movie;
}

abbrev pub decreases-loop-place : goal.decreases-loop-place
decreases-loop-place g l = l.total - l.place
