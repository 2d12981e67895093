use Rattle.pw_outside.specs.Reading.{bytes_of}
use Rattle.rescue_run.proofs.Again.{read_again}
use Rattle.rescue_run.proofs.Once.{completes}
use Rattle.rescue_run.proofs.run.rescue_run.Goals as goal

pub returns-clause-complete : goal.returns-clause-complete
returns-clause-complete g c = λ told p q s. completes c.rescuing_is_one.ensures _ (bytes_of (g.M.ByteStore.bytes c.args.movie.now)) c.rescue.result _ _ _ _ _ (c.rescue.ensures.ran told)
    c.rescue.ensures.read.rose c.rescue.ensures.write.rose p q s

pub returns-clause-fronts : goal.returns-clause-fronts
returns-clause-fronts g c = λ told. c.runs_write_fronts.ensures _ (bytes_of (g.M.ByteStore.bytes c.args.movie.now)) c.rescue.result _ _ (c.rescue.ensures.ran told)

pub returns-clause-read_again : goal.returns-clause-read_again
returns-clause-read_again g c = λ told. read_again c.rescued_movie_is_read.ensures _ (bytes_of (g.M.ByteStore.bytes c.args.movie.now)) c.rescue.result _ _ c.requires.rate (c.rescue.ensures.ran told)
