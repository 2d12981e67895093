use Rattle.std.proofs.Common.{◌≡◌, ◌+◌, ◌*◌, ◌≤◌, ◌++◌, length, map, take}
use Rattle.qt_movie.specs.Bodies.{nodes_bytes}
use Rattle.qt_movie.specs.Trak.{trak_node}
use Rattle.qt_movie.proofs.containers.put_traks.Given as goal

abbrev pub invariant-traks : goal.invariant-traks
invariant-traks l = record {
  atoms : l.atoms ≡ l.initial.atoms ++ nodes_bytes (map trak_node (take l.trak-index l.traks));
  size : length l.atoms ≤ length l.initial.atoms + 32000600 * l.trak-index;
}
