use Rattle.std.proofs.Common.{◌≡◌, drop}
use Rattle.qt_tables.specs.Tables.{is_in_order}
use Rattle.qt_tables.proofs.judging.are_runs.Given as goal

abbrev pub invariant-runs : goal.invariant-runs
invariant-runs l = is_in_order l.descriptions l.from (drop l.run-index l.runs) ≡ is_in_order l.descriptions 0 l.runs
