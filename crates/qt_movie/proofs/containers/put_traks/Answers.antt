use Rattle.std.proofs.Common.{arith}
use Rattle.qt_movie.proofs.FramesTrak.{traks_more}
use Rattle.qt_movie.proofs.containers.put_traks.Goals as goal

pub traks-preserved : goal.traks-preserved
traks-preserved c = record {
  atoms = traks_more c.args.atoms.now c.traks.atoms c.write_trak.new.atoms c.args.traks.now c.traks.trak-index c.trak-item.result c.traks-test.true c.trak-item.is c.traks.invariant.atoms c.in_ok-write_trak.ensures.atom;
  size = omega (arith, c.traks.invariant.size, c.in_ok-write_trak.ensures.size);
}
