use Rattle.std.proofs.Common.{refl, ◌∙◌}
use Rattle.std.specs.Prelude.{codes}
use Rattle.qt_movie.proofs.Contained.{contained_two}
use Rattle.qt_movie.proofs.containers.write_trak.Goals as goal

pub returns-clause-atom : goal.returns-clause-atom
returns-clause-atom c = c.end.ensures ∙ contained_two c.args.atoms.now (codes "trak") _ _ _ _ _ _ c.in_ok-begun.ensures.place refl c.in_ok-begun.ensures.bytes c.in_ok-put_tkhd.ensures.atom c.in_ok-put_mdia.ensures.atom
