use Rattle.std.proofs.Common.{◌≡◌, ◌+◌, ◌*◌, ◌++◌, length, take}
use Rattle.std.specs.List.{flat_map}
use Rattle.std.specs.Int.{w64, to_be_bytes}
use Rattle.qt_movie.proofs.tables.put_far.Given as goal

abbrev pub invariant-offsets : goal.invariant-offsets
invariant-offsets l = record {
  bytes : l.body ≡ l.initial.body ++ flat_map (to_be_bytes w64) (take l.offset-index l.offsets);
  size : length l.body ≡ length l.initial.body + 8 * l.offset-index;
}
