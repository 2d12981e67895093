use Rattle.std.proofs.Common.{arith, refl}
use Rattle.std.specs.Prelude.{codes}
use Rattle.qt_tables.specs.Writing.{far_body}
use Rattle.qt_tables.proofs.Wrapping.{small, wrapped, length-far_body}
use Rattle.qt_tables.proofs.writer.write_far.Goals as goal

pub end-requires-clause-small : goal.end-requires-clause-small
end-requires-clause-small c =
    small c.args.atoms.now (codes "co64") (far_body c.args.extents.now) _ _ _ refl c.in_ok-begun.ensures.bytes c.in_ok-put_far_body.ensures c.in_ok-begun.ensures.place (omega (arith, length-far_body c.args.extents.now, c.requires))

pub returns : goal.returns
returns c =
    wrapped c.args.atoms.now (codes "co64") (far_body c.args.extents.now) _ _ _ _ refl c.in_ok-begun.ensures.bytes c.in_ok-put_far_body.ensures c.in_ok-begun.ensures.place c.end.ensures
