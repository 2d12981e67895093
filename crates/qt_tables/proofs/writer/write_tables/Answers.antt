use Rattle.qt_tables.proofs.Wrapping.{four-tables}
use Rattle.qt_tables.proofs.writer.write_tables.Goals as goal

pub returns : goal.returns
returns c =
    four-tables c.args.extents.now c.args.duration c.args.atoms.now _ _ _ _ c.in_ok-write_times.ensures c.in_ok-write_runs.ensures c.in_ok-write_sizes.ensures c.in_ok-write_places.ensures
