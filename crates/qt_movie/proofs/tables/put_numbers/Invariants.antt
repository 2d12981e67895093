use Rattle.std.proofs.Common.{◌≡◌, ◌+◌, ◌*◌, ◌++◌, length, take}
use Rattle.qt_tables.specs.Writing.{numbers_bytes}
use Rattle.qt_movie.proofs.tables.put_numbers.Given as goal

abbrev pub invariant-numbers : goal.invariant-numbers
invariant-numbers l = record {
  bytes : l.body ≡ l.initial.body ++ numbers_bytes (take l.number-index l.numbers);
  size : length l.body ≡ length l.initial.body + 4 * l.number-index;
}
