use Rattle.std.proofs.Common.{refl, ◌∙◌}
use Rattle.std.specs.Prelude.{codes}
use Rattle.qt_movie.proofs.Contained.{contained_four}
use Rattle.qt_movie.proofs.containers.put_minf.Goals as goal

pub returns-clause-atom : goal.returns-clause-atom
returns-clause-atom c = c.end.ensures ∙ contained_four c.args.atoms.now (codes "minf") _ _ _ _ _ _ _ _ _ _ c.in_ok-begun.ensures.place refl c.in_ok-begun.ensures.bytes c.in_ok-put_media_head.ensures.atom c.in_ok-put_hdlr.ensures.atom c.in_ok-put_dinf.ensures.atom c.in_ok-put_stbl.ensures.atom
