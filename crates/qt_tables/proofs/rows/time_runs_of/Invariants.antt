use Rattle.std.proofs.Common.{◌≡◌, ◌+◌, ◌-◌, ◌*◌, ◌++◌, length}
use Rattle.pw_outside.specs.Reading.{Told}
use Rattle.qt_atoms.specs.Written.{rows}
use Rattle.qt_tables.specs.inner.Window.{Shows}
use Rattle.qt_tables.specs.Tables.{time_run_at}
use Rattle.qt_tables.proofs.rows.time_runs_of.Given as goal

abbrev pub invariant-rows : goal.invariant-rows
invariant-rows g l = record {
  count : length l.found.items ≡ l.i;
  value : Told (g.M.ByteStore.bytes l.initial.store) (λ file. l.found.items ++ rows (time_run_at file) (l.from + 8 * l.i) 8 (l.count - l.i) ≡ rows (time_run_at file) l.from 8 l.count);
  end : l.window.end ≡ l.from + 8 * l.count;
  shows : Shows (g.M.ByteStore.bytes l.initial.store) l.window;
  bytes : g.M.ByteStore.bytes l.store ≡ g.M.ByteStore.bytes l.initial.store;
  cause : g.M.ByteStore.faults l.store ≡ g.M.ByteStore.faults l.initial.store;
}
