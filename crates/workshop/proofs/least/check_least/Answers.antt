use Rattle.std.proofs.Common.{sym, subst}
use Rattle.pw_outside.specs.Reading.{bytes_of}
use Rattle.rate_least.specs.Files.{certified}
use Rattle.workshop.specs.Least.{CompletesCheckLeast}
use Rattle.workshop.proofs.Encoded.{no-fault}
use Rattle.workshop.proofs.Certified.{check}
use Rattle.workshop.proofs.least.check_least.Goals as goal

pub returns-clause-complete : goal.returns-clause-complete
returns-clause-complete g c = λ told np nt.
    let input = certified (bytes_of (g.S.ByteSource.left c.args.proof.now)) in
    subst (CompletesCheckLeast input) (sym c.status_of.ensures)
    (check input c.checkleast_run.result (c.checkleast_run.ensures.answer told) (no-fault _ _ c.checkleast_run.ensures.read.rose np) (no-fault _ _ c.checkleast_run.ensures.write.rose nt))
