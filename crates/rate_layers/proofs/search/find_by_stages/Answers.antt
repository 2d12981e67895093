use Rattle.std.proofs.Common.{◌<◌, List, IfNone, subst, arith}
use Rattle.std.proofs.lemmas.Result.{err_from_is_err_and}
use Rattle.rate_table.specs.declared.entry.Entry.{Entry}
use Rattle.rate_table.specs.Table.{IsChoice, Fits, error_of}
use Rattle.rate_layers.proofs.Refused.{passes_by_picks, picks_within}
use Rattle.rate_layers.proofs.search.find_by_stages.Goals as goal

pub returns-in_err-found-clause-full : goal.returns-in_err-found-clause-full
returns-in_err-found-clause-full c =
    let p = err_from_is_err_and c.from_residual.result c.from_residual.ensures.1 in
    let s = c.pick_sums-most.ensures.picks in
    rw (p.1, p.2) (λ h. passes_by_picks c.args.table.now c.args.multiplier _ s.0 c.requires s.1 (omega (arith, s.3, c.between-error.ensures.most)) (c.in_err-found.ensures.full h))

pub returns-in_err-found-2-clause-full : goal.returns-in_err-found-2-clause-full
returns-in_err-found-2-clause-full c =
    let p = err_from_is_err_and c.from_residual-in_err-found-2.result c.from_residual-in_err-found-2.ensures.1 in
    let s = c.pick_sums-most.ensures.picks in
    rw (p.1, p.2) (λ h. passes_by_picks c.args.table.now c.args.multiplier _ s.0 c.requires s.1 (omega (arith, s.3)) (c.in_err-found-2.ensures.full h))

pub unreachable-requires : goal.unreachable-requires
unreachable-requires c =
    let s = c.pick_sums-most.ensures.picks in
    let w = picks_within c.args.table.now c.args.multiplier s.0 c.requires s.1 in
    let n = subst (λ o. IfNone o ((d : List Entry) → IsChoice c.args.table.now.slices d → Fits c.args.table.now d → c.pick_sums-most.result.1 < error_of d)) c.in-None.is c.in_ok-found-2.ensures.none in
    omega (arith, n s.0 w.0 w.1, s.3)
