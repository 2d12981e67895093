use Rattle.std.proofs.Common.{◌≡◌, arith}
use Rattle.rate_layers.specs.declared.fault.BestFault.TheVariants.{LayersFull}
use Rattle.rate_least.specs.Answers.{PassesByBend, IsWide}
use Rattle.rate_least.proofs.Concluded.{least_meets, none_meets, err_weaker}
use Rattle.rate_least.proofs.Refused.{wide_passes}
use Rattle.rate_least.proofs.search.smallest.Goals as goal

pub returns-then-cap-least_error-clause-answer : goal.returns-then-cap-least_error-clause-answer
returns-then-cap-least_error-clause-answer c =
    (none_meets c.args.table.now.slices c.args.cap (omega (arith, c.least_errors-least_error.ensures.value, c.if-cap-least_error.true)), (c.least_errors-least_error.ensures.value, c.if-cap-least_error.true))

pub returns-then-cap-least_error-clause-full_always : goal.returns-then-cap-least_error-clause-full_always
returns-then-cap-least_error-clause-full_always c =
    λ p. absurd (none_meets c.args.table.now.slices c.args.cap (omega (arith, c.least_errors-least_error.ensures.value, c.if-cap-least_error.true)) p.best p.is_smallest.choice p.is_smallest.under)

pub smallest_fit-requires-clause-some : goal.smallest_fit-requires-clause-some
smallest_fit-requires-clause-some c =
    let d = least_meets c.args.table.now.slices c.least_errors-least_error.ensures.table.each in
    (d.0, d.1, omega (arith, d.2, c.least_errors-least_error.ensures.value, c.if-cap-least_error.false))

pub returns-clause-full_wide : goal.returns-clause-full_wide
returns-clause-full_wide c =
    err_weaker c.smallest_fit.result (λ e. e ≡ LayersFull → PassesByBend c.args.table.now.slices c.args.cap) (λ e. e ≡ LayersFull → IsWide c.args.table.now.slices)
    (λ e h is. wide_passes c.args.table.now.slices c.args.cap (h is)) c.smallest_fit.ensures.full_only
