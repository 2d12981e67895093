use Rattle.std.proofs.Common.{sym, subst}
use Rattle.pw_outside.specs.Reading.{bytes_of}
use Rattle.workshop.specs.Rescuing.{CompletesRescue}
use Rattle.workshop.proofs.Rescued.{complete}
use Rattle.workshop.proofs.rescuing.rescue.Goals as goal

pub returns-clause-complete : goal.returns-clause-complete
returns-clause-complete g c = λ told nm no nt.
    let file = bytes_of (g.M.ByteStore.bytes c.args.movie.now) in
    subst (CompletesRescue file) (sym c.status_of.ensures) (complete file c.rescue_run.result (c.rescue_run.ensures.complete told nm no nt))
