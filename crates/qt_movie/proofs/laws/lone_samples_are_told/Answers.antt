use Rattle.qt_movie.proofs.LoneSamples.{lone_told}
use Rattle.qt_movie.proofs.laws.lone_samples_are_told.Goals as goal

pub returns : goal.returns
returns c = lone_told
