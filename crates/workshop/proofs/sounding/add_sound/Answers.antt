use Rattle.std.proofs.Common.{sym, subst}
use Rattle.pw_outside.specs.Reading.{bytes_of}
use Rattle.pcm_track.specs.Adding.{added}
use Rattle.workshop.specs.Sounding.{CompletesSound}
use Rattle.workshop.proofs.Sounded.{completes, reads_again}
use Rattle.workshop.proofs.sounding.add_sound.Goals as goal

pub returns-clause-complete : goal.returns-clause-complete
returns-clause-complete g c = λ told heard nm nw no nt.
    let known = (added (bytes_of (g.M.ByteStore.bytes c.args.movie.now)) (bytes_of (g.S.ByteSource.left c.args.wav.now))).end in
    subst (CompletesSound known) (sym c.status_of.ensures) (completes known c.add_run.result (c.add_run.ensures.complete told heard nm nw no nt))

pub returns-clause-again : goal.returns-clause-again
returns-clause-again g c = λ told heard.
    let file = bytes_of (g.M.ByteStore.bytes c.args.movie.now) in
    let wav = bytes_of (g.S.ByteSource.left c.args.wav.now) in
    reads_again c.added_is_read_again.ensures file wav c.add_run.result c.status_of.result _ _ c.status_of.ensures
    (c.add_run.ensures.answer told heard) (c.add_run.ensures.out told heard)
