use Rattle.std.proofs.Common.{◌≡◌, ◌++◌, take}
use Rattle.qt_tables.specs.Writing.{numbers_bytes, places_of}
use Rattle.qt_tables.proofs.writer.put_near.Given as goal

abbrev pub invariant-extents : goal.invariant-extents
invariant-extents l = l.atoms ≡ l.initial.atoms ++ numbers_bytes (places_of (take l.extent-index l.extents))
