use Rattle.std.proofs.Common.{refl, ◌∙◌}
use Rattle.std.specs.Prelude.{codes}
use Rattle.qt_movie.proofs.Contained.{contained_five}
use Rattle.qt_movie.proofs.containers.put_stbl.Goals as goal

pub returns-clause-atom : goal.returns-clause-atom
returns-clause-atom c =
    c.end.ensures
    ∙ contained_five c.args.atoms.now (codes "stbl") _ _ _ _ _ _ _ _ _ _ _ _ c.in_ok-begun.ensures.place refl c.in_ok-begun.ensures.bytes
    c.in_ok-put_stsd.ensures.atom c.in_ok-put_stts.ensures.atom c.in_ok-put_stsc.ensures.atom c.in_ok-put_stsz.ensures.atom c.in_ok-put_offsets.ensures.atom
