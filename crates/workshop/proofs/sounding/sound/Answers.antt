use Rattle.std.proofs.Common.{sym, subst}
use Rattle.pw_outside.specs.Reading.{bytes_of}
use Rattle.pcm_track.specs.Sounding.{sounded}
use Rattle.workshop.specs.Sounding.{CompletesSound}
use Rattle.workshop.proofs.Encoded.{no-fault}
use Rattle.workshop.proofs.Certified.{neither}
use Rattle.workshop.proofs.Sounded.{complete}
use Rattle.workshop.proofs.sounding.sound.Goals as goal

pub returns-clause-complete : goal.returns-clause-complete
returns-clause-complete g c = λ told nm no nt.
    let known = (sounded (bytes_of (g.M.ByteStore.bytes c.args.movie.now))).end in
    subst (CompletesSound known) (sym c.status_of.ensures)
    (complete known c.sound_run.result (c.sound_run.ensures.answer told) (no-fault _ _ c.sound_run.ensures.read.rose nm) (no-fault _ _ c.sound_run.ensures.write.rose (neither no nt)))
