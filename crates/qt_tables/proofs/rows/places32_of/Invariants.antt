use Rattle.std.proofs.Common.{◌≡◌, ◌+◌, ◌-◌, ◌*◌, ◌^◌, ◌<◌, ◌++◌, length}
use Rattle.std.specs.List.{All}
use Rattle.pw_outside.specs.Reading.{Told}
use Rattle.qt_atoms.specs.Written.{rows}
use Rattle.qt_tables.specs.inner.Window.{Shows}
use Rattle.std.specs.Int.{w32}
use Rattle.qt_atoms.specs.Atoms.{number_in}
use Rattle.qt_tables.proofs.rows.places32_of.Given as goal

abbrev pub invariant-rows : goal.invariant-rows
invariant-rows g l = record {
  count : length l.found.items ≡ l.i;
  near : All (λ place. place < 2 ^ 62) l.found.items;
  value : Told (g.M.ByteStore.bytes l.initial.store) (λ file. l.found.items ++ rows (number_in w32 file) (l.from + 4 * l.i) 4 (l.count - l.i) ≡ rows (number_in w32 file) l.from 4 l.count);
  end : l.window.end ≡ l.from + 4 * l.count;
  shows : Shows (g.M.ByteStore.bytes l.initial.store) l.window;
  bytes : g.M.ByteStore.bytes l.store ≡ g.M.ByteStore.bytes l.initial.store;
  cause : g.M.ByteStore.faults l.store ≡ g.M.ByteStore.faults l.initial.store;
}
