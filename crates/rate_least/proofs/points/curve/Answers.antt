use Rattle.std.proofs.Common.{◌≡◌, ◌+◌, ◌<◌, ◌∷◌, [], ◌++◌, List, Vec, Global, length, get_or, sym, ap, ◌∙◌, subst, arith}
use Rattle.std.specs.List.{All}
use Rattle.rate_check.proofs.Stepped.{entries_at}
use Rattle.rate_table.specs.declared.entry.Entry.{Entry}
use Rattle.rate_table.specs.Table.{Table, IsTable}
use Rattle.rate_least.specs.declared.outcome.WidePair.{WidePair}
use Rattle.rate_least.specs.declared.bound.Bound.{Bound}
use Rattle.rate_least.specs.Records.{IsNarrow}
use Rattle.rate_least.specs.inner.Merge.{IsNext}
use Rattle.rate_least.proofs.Curved.{Curved, curved_first, curved_push, joins_small, points_narrow, points_small, curves_pass, curves_stay, curve_is}
use Rattle.rate_least.proofs.points.curve.Goals as goal

-- the bound that prunes no pair
abbrev every : Bound
every = record { errors = 0; cap = 18446744073709551615; floor = 0; most = 18446744073709551616; multiplier = 0 }

pub loop-k-init : goal.loop-k-init
loop-k-init c =
    let t = c.args.table.now in
    let is : IsTable t = subst IsTable c.table.view_is c.table.invariant in
    record {
      curved = curved_first t.slices is.each is.few c.push.new.self.items (c.in_ok-push.ensures.items ∙ ap (λ (l : List WidePair). l ++ record { size = 0; error = 0 } ∷ []) c.new-points.ensures.items);
      few = omega arith;
    }

pub merge_all-requires-clause-narrow : goal.merge_all-requires-clause-narrow
merge_all-requires-clause-narrow c =
    let t = c.args.table.now in
    let is : IsTable t = subst IsTable c.table.view_is c.table.invariant in
    subst (All IsNarrow) (sym c.deref.ensures.value) (points_narrow t.slices is.each is.few c.loop-k.k c.loop-k.count c.loop-k.points.items c.loop-k.invariant.curved)

pub merge_all-requires-clause-errors : goal.merge_all-requires-clause-errors
merge_all-requires-clause-errors c =
    let t = c.args.table.now in
    let is : IsTable t = subst IsTable c.table.view_is c.table.invariant in
    subst (All (λ (p : WidePair). p.error < 9223372036854775808)) (sym c.deref.ensures.value) (points_small t.slices is.each is.few c.loop-k.k c.loop-k.count c.loop-k.points.items c.loop-k.invariant.curved)

pub returns-then-count-len-clause-full_only : goal.returns-then-count-len-clause-full_only
returns-then-count-len-clause-full_only c = λ full.
    let t = c.args.table.now in
    let is : IsTable t = subst IsTable c.table.view_is c.table.invariant in
    let k = c.loop-k.k in
    let same : c.as_slice-slices.result.now ≡ t.slices = c.as_slice-slices.ensures.slices ∙ ap (λ (t : Table). t.slices) c.table.view_is in
    let lt : k < length t.slices = omega (arith, c.loop-k-test.true, ap length same) in
    let e = entries_at t.slices c.as_slice-slices.result.now k c.index-slices-k.result c.entries.result.now c.loop-k-test.true same c.index-slices-k.is c.entries.ensures.entries in
    let next = c.merge_all.new.next.items in
    let curved = c.loop-k.invariant.curved in
    let made : IsNext every c.loop-k.points.items (get_or t.slices k []) next =
    subst (λ (l : List WidePair). IsNext every l (get_or t.slices k []) next) c.deref.ensures.value (subst (λ (x : List Entry). IsNext every c.deref.result.now x next) e c.in_ok-merge_all.ensures) in
    let len : c.len.result ≡ length next = omega (arith, c.len.ensures) in
    curves_pass t.slices is.each is.few (k + 1) (c.loop-k.count + length next) next
    (curved_push t.slices is.each is.few k c.loop-k.count every c.loop-k.points.items next lt curved
    (λ p j. let s = joins_small t.slices is.each is.few k c.loop-k.count c.loop-k.points.items curved lt p j in (omega (arith, s), omega (arith, s))) made)
    (omega (arith, lt)) (omega (arith, len, c.if-count-len.true))

pub loop-k-preserved : goal.loop-k-preserved
loop-k-preserved c =
    let t = c.args.table.now in
    let is : IsTable t = subst IsTable c.table.view_is c.table.invariant in
    let k = c.loop-k.k in
    let same : c.as_slice-slices.result.now ≡ t.slices = c.as_slice-slices.ensures.slices ∙ ap (λ (t : Table). t.slices) c.table.view_is in
    let lt : k < length t.slices = omega (arith, c.loop-k-test.true, ap length same) in
    let e = entries_at t.slices c.as_slice-slices.result.now k c.index-slices-k.result c.entries.result.now c.loop-k-test.true same c.index-slices-k.is c.entries.ensures.entries in
    let next = c.merge_all.new.next.items in
    let curved = c.loop-k.invariant.curved in
    let made : IsNext every c.loop-k.points.items (get_or t.slices k []) next =
    subst (λ (l : List WidePair). IsNext every l (get_or t.slices k []) next) c.deref.ensures.value (subst (λ (x : List Entry). IsNext every c.deref.result.now x next) e c.in_ok-merge_all.ensures) in
    let len : c.len.result ≡ length next = omega (arith, c.len.ensures) in
    let len' : c.len-count.result ≡ length next = omega (arith, c.len-count.ensures) in
    let count : c.loop-k.count + length next ≡ c.loop-k.count + c.len-count.result = omega (arith, len') in
    let push = curved_push t.slices is.each is.few k c.loop-k.count every c.loop-k.points.items next lt curved
    (λ p j. let s = joins_small t.slices is.each is.few k c.loop-k.count c.loop-k.points.items curved lt p j in (omega (arith, s), omega (arith, s))) made in
    record {
      curved = subst (λ n. Curved t.slices (k + 1) n c.swap.new.x.items) count (subst (Curved t.slices (k + 1) (c.loop-k.count + length next)) (sym (ap (λ (v : Vec WidePair Global). v.items) c.swap.ensures.x_after)) push);
      few = omega (arith, len, len', c.if-count-len.false, c.loop-k.invariant.few);
    }

pub returns-clause-points : goal.returns-clause-points
returns-clause-points c =
    let t = c.args.table.now in
    let is : IsTable t = subst IsTable c.table.view_is c.table.invariant in
    let same : c.as_slice-slices.result.now ≡ t.slices = c.as_slice-slices.ensures.slices ∙ ap (λ (t : Table). t.slices) c.table.view_is in
    curve_is t.slices is.each is.few c.loop-k.k c.loop-k.count c.loop-k.points.items c.loop-k.invariant.curved (omega (arith, c.loop-k-test.false, c.loop-k.auto.k-end, ap length same))

pub returns-clause-full_always : goal.returns-clause-full_always
returns-clause-full_always c = λ pass.
    let t = c.args.table.now in
    let is : IsTable t = subst IsTable c.table.view_is c.table.invariant in
    let same : c.as_slice-slices.result.now ≡ t.slices = c.as_slice-slices.ensures.slices ∙ ap (λ (t : Table). t.slices) c.table.view_is in
    absurd (curves_stay t.slices is.each is.few c.loop-k.k c.loop-k.count c.loop-k.points.items c.loop-k.invariant.curved (omega (arith, c.loop-k-test.false, c.loop-k.auto.k-end, ap length same)) c.loop-k.invariant.few pass)
