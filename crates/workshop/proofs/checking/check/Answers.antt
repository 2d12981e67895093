use Rattle.std.proofs.Common.{◌≡◌, ◌⊎◌, sym, subst}
use Rattle.workshop.specs.declared.status.Status.TheVariants as s
use Rattle.workshop.proofs.Checked.{completes}
use Rattle.workshop.proofs.checking.check.Goals as goal

pub returns-clause-complete : goal.returns-clause-complete
returns-clause-complete g c = λ told np nt records is.
    subst (λ status. (status ≡ s.Done) ⊎ (status ≡ s.NoMemory)) (sym c.status_of.ensures)
    (completes c.check_proof_run.result (c.check_proof_run.ensures.complete told records is np nt))
