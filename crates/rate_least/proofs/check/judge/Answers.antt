use Rattle.std.proofs.Common.{Vec, Global, map, sym, ap}
use Rattle.rate_least.specs.declared.outcome.WidePair.{WidePair}
use Rattle.rate_least.specs.Records.{said_by}
use Rattle.rate_least.specs.inner.Printed.{of_layers}
use Rattle.rate_least.proofs.Judged.{fit_good, fit_fails, none_good, none_fails}
use Rattle.rate_least.proofs.check.judge.Goals as goal

pub returns-in-Fits-clause-good : goal.returns-in-Fits-clause-good
returns-in-Fits-clause-good c =
    fit_good c.args.table.now.slices c.args.cap (said_by c.args.outcome.now) c.check_fit.result _ _
    (λ i. of_layers (c.deref.ensures.value i) c.in-Fits.size c.in-Fits.error c.in-Fits.multiplier (map (λ (l : Vec WidePair Global). l.items) (c.deref-in-Fits.ensures.value i)))
    (ap said_by (sym c.in-Fits.is)) c.check_fit.ensures.good

pub returns-in-Fits-clause-fails : goal.returns-in-Fits-clause-fails
returns-in-Fits-clause-fails c =
    fit_fails c.args.table.now.slices c.args.cap (said_by c.args.outcome.now) c.check_fit.result _ _
    (λ i. of_layers (c.deref.ensures.value i) c.in-Fits.size c.in-Fits.error c.in-Fits.multiplier (map (λ (l : Vec WidePair Global). l.items) (c.deref-in-Fits.ensures.value i)))
    (ap said_by (sym c.in-Fits.is)) c.check_fit.ensures.fails

pub returns-in-None-clause-good : goal.returns-in-None-clause-good
returns-in-None-clause-good c =
    none_good c.args.table.now.slices c.args.cap (said_by c.args.outcome.now) c.check_none.result c.in-None.least_error (ap said_by (sym c.in-None.is)) c.check_none.ensures.good

pub returns-in-None-clause-fails : goal.returns-in-None-clause-fails
returns-in-None-clause-fails c =
    none_fails c.args.table.now.slices c.args.cap (said_by c.args.outcome.now) c.check_none.result c.in-None.least_error (ap said_by (sym c.in-None.is)) c.check_none.ensures.fails
