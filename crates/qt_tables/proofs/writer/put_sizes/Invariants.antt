use Rattle.std.proofs.Common.{◌≡◌, ◌++◌, take}
use Rattle.qt_tables.specs.Writing.{numbers_bytes, sizes_of}
use Rattle.qt_tables.proofs.writer.put_sizes.Given as goal

abbrev pub invariant-extents : goal.invariant-extents
invariant-extents l = l.atoms ≡ l.initial.atoms ++ numbers_bytes (sizes_of (take l.extent-index l.extents))
