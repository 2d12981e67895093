use Rattle.std.proofs.Common.{◌≡◌, ◌++◌, take}
use Rattle.qt_tables.specs.Writing.{numbers_bytes}
use Rattle.qt_tables.proofs.writer.put_numbers.Given as goal

abbrev pub invariant-numbers : goal.invariant-numbers
invariant-numbers l = l.atoms ≡ l.initial.atoms ++ numbers_bytes (take l.number-index l.numbers)
