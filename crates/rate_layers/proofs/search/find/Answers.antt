use Rattle.std.proofs.Common.{arith}
use Rattle.std.proofs.lemmas.Result.{err_from_is_err_and}
use Rattle.rate_layers.proofs.Refused.{passes_by_picks}
use Rattle.rate_layers.proofs.search.find.Goals as goal

pub returns-in_err-kept-clause-full : goal.returns-in_err-kept-clause-full
returns-in_err-kept-clause-full c =
    let p = err_from_is_err_and c.from_residual.result c.from_residual.ensures.1 in
    let s = c.pick_sums.ensures.picks in
    rw (p.1, p.2) (λ h. passes_by_picks c.args.table.now c.args.multiplier _ s.0 c.requires s.1 (omega (arith, s.3, c.min-error.ensures)) (c.in_err-kept.ensures.full h))
