use Rattle.std.proofs.Common.{refl, ◌∙◌}
use Rattle.std.specs.Prelude.{codes}
use Rattle.qt_movie.proofs.Contained.{contained_three}
use Rattle.qt_movie.proofs.containers.put_mdia.Goals as goal

pub returns-clause-atom : goal.returns-clause-atom
returns-clause-atom c = c.end.ensures ∙ contained_three c.args.atoms.now (codes "mdia") _ _ _ _ _ _ _ _ c.in_ok-begun.ensures.place refl c.in_ok-begun.ensures.bytes c.in_ok-put_mdhd.ensures.atom c.in_ok-put_media_hdlr.ensures.atom c.in_ok-put_minf.ensures.atom
