use Rattle.std.proofs.Common.{refl, ◌∙◌}
use Rattle.std.specs.Prelude.{codes}
use Rattle.qt_movie.specs.Trak.{moov_of_traks}
use Rattle.qt_movie.proofs.Contained.{contained_pair}
use Rattle.qt_movie.proofs.containers.put_moov.Goals as goal

pub returns : goal.returns
unfolding moov_of_traks
returns c = c.end.ensures ∙ contained_pair c.args.atoms.now (codes "moov") _ _ _ _ _ _ c.in_ok-begun.ensures.place refl c.in_ok-begun.ensures.bytes c.in_ok-put_mvhd.ensures.atom c.in_ok-put_traks.ensures.atoms
