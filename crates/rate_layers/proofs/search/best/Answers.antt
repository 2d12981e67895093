use Rattle.std.proofs.Common.{◌≡◌, ◌<◌, IfErr, refl, ap, subst, arith}
use Rattle.rate_table.specs.Table.{Table, IsTable, least_bytes}
use Rattle.rate_table.proofs.Entries.{least_choice}
use Rattle.rate_table.proofs.Best.{below_then_none_fits}
use Rattle.rate_layers.specs.declared.fault.BestFault.TheVariants.{LayersFull}
use Rattle.rate_layers.specs.Best.{PassesByPicks}
use Rattle.rate_layers.proofs.Refused.{narrow_passes}
use Rattle.rate_layers.proofs.search.best.Goals as goal

pub returns-then-from-bytes-clause-none : goal.returns-then-from-bytes-clause-none
returns-then-from-bytes-clause-none c =
    let b = ap (λ (t : Table). t.budget) c.table.view_is in
    let l : c.args.table.now.budget < least_bytes c.args.table.now = omega (arith, b, c.if-from-bytes.true, c.from.ensures, c.least-bytes.ensures) in
    (below_then_none_fits c.args.table.now l, (l, c.least-bytes.ensures))

pub returns-then-from-bytes-clause-full_always : goal.returns-then-from-bytes-clause-full_always
returns-then-from-bytes-clause-full_always c =
    let b = ap (λ (t : Table). t.budget) c.table.view_is in
    let l : c.args.table.now.budget < least_bytes c.args.table.now = omega (arith, b, c.if-from-bytes.true, c.from.ensures, c.least-bytes.ensures) in
    λ p. absurd (below_then_none_fits c.args.table.now l p.best p.is_best.choice p.is_best.fits)

pub best_fit-requires : goal.best_fit-requires
best_fit-requires c =
    let t = c.args.table.now in
    let ok = subst IsTable c.table.view_is c.table.invariant in
    let b = ap (λ (t : Table). t.budget) c.table.view_is in
    let d = least_choice t.slices ok.each in
    record { table = ok; some = (d.0, d.1, omega (arith, b, d.2, c.if-from-bytes.false, c.from.ensures, c.least-bytes.ensures)) }

pub returns-clause-full_never : goal.returns-clause-full_never
returns-clause-full_never c = λ n e.
    narrow_passes c.args.table.now n (subst (λ r. IfErr r (λ x. x ≡ LayersFull → PassesByPicks c.args.table.now)) e c.best_fit.ensures.full_only refl)
