use Rattle.std.proofs.Common.{◌≡◌, ◌+◌, ◌*◌, ◌++◌, length, take}
use Rattle.qt_tables.specs.Writing.{numbers_bytes}
use Rattle.qt_movie.proofs.tables.put_near.Given as goal

abbrev pub invariant-offsets : goal.invariant-offsets
invariant-offsets l = record {
  bytes : l.body ≡ l.initial.body ++ numbers_bytes (take l.offset-index l.offsets);
  size : length l.body ≡ length l.initial.body + 4 * l.offset-index;
}
