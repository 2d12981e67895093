use Rattle.std.proofs.Common.{sym, subst}
use Rattle.pw_outside.specs.Reading.{bytes_of}
use Rattle.rate_table.specs.Reading.{tabled}
use Rattle.workshop.specs.Least.{CompletesLeast}
use Rattle.workshop.proofs.Encoded.{no-fault}
use Rattle.workshop.proofs.Certified.{least, neither}
use Rattle.workshop.proofs.least.least.Goals as goal

pub returns-clause-complete : goal.returns-clause-complete
returns-clause-complete g c = λ told np nc nt.
    let input = tabled (bytes_of (g.S.ByteSource.left c.args.proof.now)) in
    subst (CompletesLeast c.args.cap input) (sym c.status_of.ensures)
    (least c.args.cap input c.least_run.result (c.least_run.ensures.answer told) (no-fault _ _ c.least_run.ensures.read.rose np) (no-fault _ _ c.least_run.ensures.write.rose (neither nc nt)))
