use Rattle.std.proofs.Common.{◌<◌, ◌≤◌, List, IfNone, subst, arith}
use Rattle.std.proofs.lemmas.Result.{err_from_is_err_and}
use Rattle.rate_table.specs.declared.entry.Entry.{Entry}
use Rattle.rate_table.specs.Table.{IsChoice, size_of, error_of}
use Rattle.rate_least.proofs.Refused.{passes_by_bend, bend_within}
use Rattle.rate_least.proofs.search.find.Goals as goal

pub returns-in_err-found-clause-full : goal.returns-in_err-found-clause-full
returns-in_err-found-clause-full c =
    let p = err_from_is_err_and c.from_residual.result c.from_residual.ensures.1 in
    let s = c.bend_size-most.ensures.bend in
    rw (p.1, p.2) (λ h. passes_by_bend c.args.table.now.slices c.args.cap c.args.multiplier _ s.0 c.requires s.1 (omega (arith, s.2, c.between-size.ensures.most)) (c.in_err-found.ensures.full h))

pub returns-in_err-found-2-clause-full : goal.returns-in_err-found-2-clause-full
returns-in_err-found-2-clause-full c =
    let p = err_from_is_err_and c.from_residual-in_err-found-2.result c.from_residual-in_err-found-2.ensures.1 in
    let s = c.bend_size-most.ensures.bend in
    rw (p.1, p.2) (λ h. passes_by_bend c.args.table.now.slices c.args.cap c.args.multiplier _ s.0 c.requires s.1 (omega (arith, s.2)) (c.in_err-found-2.ensures.full h))

pub unreachable-requires : goal.unreachable-requires
unreachable-requires c =
    let s = c.bend_size-most.ensures.bend in
    let w = bend_within c.args.table.now.slices c.args.cap c.args.multiplier s.0 c.requires s.1 in
    let n = subst (λ o. IfNone o ((d : List Entry) → IsChoice c.args.table.now.slices d → error_of d ≤ c.args.cap → c.bend_size-most.result < size_of d)) c.in-None.is c.in_ok-found-2.ensures.none in
    omega (arith, n s.0 w.0 w.1, s.2)
