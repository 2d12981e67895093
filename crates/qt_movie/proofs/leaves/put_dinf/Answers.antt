use Rattle.std.proofs.Common.{refl, ◌∙◌}
use Rattle.std.specs.Prelude.{codes}
use Rattle.qt_movie.proofs.Contained.{contained_one}
use Rattle.qt_movie.proofs.leaves.put_dinf.Goals as goal

pub returns-clause-atom : goal.returns-clause-atom
returns-clause-atom c = c.end.ensures ∙ contained_one c.args.atoms.now (codes "dinf") _ _ _ _ c.in_ok-begun.ensures.place refl c.in_ok-begun.ensures.bytes c.in_ok-put_dref.ensures.atom
