use Rattle.std.proofs.Common.{◌≡◌, ◌+◌, ◌*◌, ◌++◌, length, take}
use Rattle.std.specs.List.{flat_map}
use Rattle.qt_movie.specs.Trak.{time_bytes}
use Rattle.qt_movie.proofs.tables.put_times.Given as goal

abbrev pub invariant-runs : goal.invariant-runs
invariant-runs l = record {
  bytes : l.body ≡ l.initial.body ++ flat_map time_bytes (take l.run-index l.runs);
  size : length l.body ≡ length l.initial.body + 8 * l.run-index;
}
