use Rattle.std.proofs.Common.{arith, refl}
use Rattle.std.specs.Prelude.{codes}
use Rattle.qt_tables.specs.Writing.{runs_body}
use Rattle.qt_tables.proofs.Wrapping.{small, wrapped, length-runs_body}
use Rattle.qt_tables.proofs.writer.write_runs.Goals as goal

pub end-requires-clause-small : goal.end-requires-clause-small
end-requires-clause-small c =
    small c.args.atoms.now (codes "stsc") (runs_body c.args.count) _ _ _ refl c.in_ok-begun.ensures.bytes c.in_ok-put_runs_body.ensures c.in_ok-begun.ensures.place (omega (arith, length-runs_body c.args.count))

pub returns : goal.returns
returns c =
    wrapped c.args.atoms.now (codes "stsc") (runs_body c.args.count) _ _ _ _ refl c.in_ok-begun.ensures.bytes c.in_ok-put_runs_body.ensures c.in_ok-begun.ensures.place c.end.ensures
