use Rattle.std.proofs.Common.{◌≡◌, replicate}
use Rattle.qt_tables.proofs.rows.repeated.Given as goal

abbrev pub invariant-rows : goal.invariant-rows
invariant-rows l = l.numbers.items ≡ replicate l._i l.number
