use Rattle.pw_outside.specs.Reading.{bytes_of}
use Rattle.pw_outside.proofs.Results.{any_err}
use Rattle.pw_outside.proofs.Puts.{puts_then, then_front, front_more, puts_extends, then_extends}
use Rattle.qt_atoms.specs.Atoms.{bytes_in}
use Rattle.qt_movie.specs.MovieBytes.{frame_bytes}
use Rattle.rescue_run.proofs.gathering.take_first.Goals as goal

pub returns-in_err-gathered-clause-err : goal.returns-in_err-gathered-clause-err
returns-in_err-gathered-clause-err g c = λ told. any_err c.from_residual.result
    (front_more (frame_bytes (bytes_in c.args.found.now.size (bytes_of (g.M.ByteStore.bytes c.args.movie.now)) c.args.found.now.at)) c.in_err-gathered.ensures.err)

pub returns-in-Ok-clause-ok : goal.returns-in-Ok-clause-ok
returns-in-Ok-clause-ok g c = λ told. puts_then c.in_ok-gathered.ensures.ok (c.in-Ok.ensures.ok told)

pub returns-in-Ok-clause-extends : goal.returns-in-Ok-clause-extends
returns-in-Ok-clause-extends g c = then_extends _ _ _ (puts_extends _ _ _ c.in_ok-gathered.ensures.ok) c.add.ensures.extends

pub returns-in-Err-clause-err : goal.returns-in-Err-clause-err
returns-in-Err-clause-err g c = λ told. then_front c.in_ok-gathered.ensures.ok (c.in-Err.ensures.err told)

pub returns-in-Err-clause-extends : goal.returns-in-Err-clause-extends
returns-in-Err-clause-extends g c = then_extends _ _ _ (puts_extends _ _ _ c.in_ok-gathered.ensures.ok) c.add.ensures.extends
