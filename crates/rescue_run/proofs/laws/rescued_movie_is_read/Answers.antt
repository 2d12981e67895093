use Rattle.rescue_run.proofs.Again.{is_read}
use Rattle.rescue_run.proofs.laws.rescued_movie_is_read.Goals as goal

pub returns : goal.returns
returns c = λ rate file ts is h. is_read c.written_movie_is_read.ensures c.written_frames_are_read.ensures rate file ts is h
