use Rattle.qt_tables.proofs.Assembled.{written_read}
use Rattle.qt_tables.proofs.laws.written_tables_are_read.Goals as goal

pub returns : goal.returns
returns c = written_read
