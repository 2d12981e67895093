use Rattle.qt_movie.proofs.WrittenTraks.{traks_read}
use Rattle.qt_movie.proofs.laws.written_traks_are_read.Goals as goal

pub returns : goal.returns
returns c = traks_read
