use Rattle.std.proofs.Common.{arith, refl}
use Rattle.std.specs.Prelude.{codes}
use Rattle.qt_tables.specs.Writing.{times_body}
use Rattle.qt_tables.proofs.Wrapping.{small, wrapped, length-times_body}
use Rattle.qt_tables.proofs.writer.write_times.Goals as goal

pub end-requires-clause-small : goal.end-requires-clause-small
end-requires-clause-small c =
    small c.args.atoms.now (codes "stts") (times_body c.args.count c.args.duration) _ _ _ refl c.in_ok-begun.ensures.bytes c.in_ok-put_times_body.ensures c.in_ok-begun.ensures.place (omega (arith, length-times_body c.args.count c.args.duration))

pub returns : goal.returns
returns c =
    wrapped c.args.atoms.now (codes "stts") (times_body c.args.count c.args.duration) _ _ _ _ refl c.in_ok-begun.ensures.bytes c.in_ok-put_times_body.ensures c.in_ok-begun.ensures.place c.end.ensures
