use Rattle.pw_outside.specs.Reading.{bytes_of}
use Rattle.run_look.proofs.Heading.{given_completes}
use Rattle.run_look.proofs.agreeing.check_run.Goals as goal

pub returns-in-Err-clause-complete : goal.returns-in-Err-clause-complete
returns-in-Err-clause-complete g c = λ h m s records b no_read no_stored no_seen no_write.
    given_completes c.agreeing_is_done_once.ensures (bytes_of (g.S.ByteSource.left c.args.proof.now)) (bytes_of (g.M.ByteStore.bytes c.args.movie.now)) (bytes_of (g.S.ByteSource.left c.args.pictures.now)) c.in-Err.end records _ _ _
    (c.in-Err.ensures.answer h m s) c.in-Err.ensures.end c.in-Err.ensures.cause.rose b no_read no_stored no_seen
