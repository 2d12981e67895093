use Rattle.std.proofs.Common.{◌≡◌, ◌++◌, take}
use Rattle.std.specs.List.{flat_map}
use Rattle.std.specs.Int.{w64, to_be_bytes}
use Rattle.qt_tables.specs.Writing.{places_of}
use Rattle.qt_tables.proofs.writer.put_far.Given as goal

abbrev pub invariant-extents : goal.invariant-extents
invariant-extents l = l.atoms ≡ l.initial.atoms ++ flat_map (to_be_bytes w64) (places_of (take l.extent-index l.extents))
