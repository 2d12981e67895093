use Rattle.std.proofs.Common.{◌≡◌, ◌+◌, ◌*◌, ◌≤◌, ◌++◌, drop}
use Rattle.qt_tables.specs.Writing.{places_of}
use Rattle.qt_movie.specs.MovieBytes.{extents_from, extents}
use Rattle.qt_movie.proofs.pictures.places_of.Given as goal

abbrev pub invariant-loop-size : goal.invariant-loop-size
invariant-loop-size l = record {
  small : l.place ≤ 20 + 4294967303 * l.size-index;
  places : l.places.items ++ places_of (extents_from l.place (drop l.size-index l.sizes)) ≡ places_of (extents l.sizes);
}
