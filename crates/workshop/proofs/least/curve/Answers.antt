use Rattle.std.proofs.Common.{sym, subst}
use Rattle.pw_outside.specs.Reading.{bytes_of}
use Rattle.rate_table.specs.Reading.{tabled}
use Rattle.workshop.specs.Least.{CompletesCurve}
use Rattle.workshop.proofs.Encoded.{no-fault}
use Rattle.workshop.proofs.Certified.{curve}
use Rattle.workshop.proofs.least.curve.Goals as goal

pub returns-clause-complete : goal.returns-clause-complete
returns-clause-complete g c = λ told np nt.
    let input = tabled (bytes_of (g.S.ByteSource.left c.args.proof.now)) in
    subst (CompletesCurve input) (sym c.status_of.ensures)
    (curve input c.curve_run.result (c.curve_run.ensures.answer told) (no-fault _ _ c.curve_run.ensures.read.rose np) (no-fault _ _ c.curve_run.ensures.write.rose nt))
