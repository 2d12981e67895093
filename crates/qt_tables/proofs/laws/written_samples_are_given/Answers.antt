use Rattle.qt_tables.proofs.Again.{written_given}
use Rattle.qt_tables.proofs.laws.written_samples_are_given.Goals as goal

pub returns : goal.returns
returns c = written_given
