use Rattle.std.proofs.Common.{◌≡◌, ◌+◌, ◌-◌, ◌*◌, ◌<◌, suc, [], refl, Vec, Global, length, get_or, drop, sym, ap, ◌∙◌, subst, arith}
use Rattle.std.specs.List.{All}
use Rattle.std.proofs.lemmas.List.{length-map}
use Rattle.rate_check.proofs.Covered.{same_product}
use Rattle.rate_check.proofs.Stepped.{entries_at}
use Rattle.rate_table.specs.Table.{Table}
use Rattle.rate_table.specs.Pairs.{rest}
use Rattle.rate_check.proofs.Answered.{yes, no, granted, denied}
use Rattle.rate_least.specs.declared.outcome.WidePair.{WidePair}
use Rattle.rate_least.specs.Pairs.{RisesAndFalls, least_error}
use Rattle.rate_least.specs.Records.{IsNarrow}
use Rattle.rate_least.specs.inner.Printed.{of_layers}
use Rattle.rate_table.proofs.Vectors.{items_of, element}
use Rattle.rate_least.proofs.Stepped.{StepsAt, bound_next, errors_next, costs_next, until_more, step_is, all_by_number, number_of_all}
use Rattle.rate_least.proofs.steps.all_step.Goals as goal

pub loop-k-init : goal.loop-k-init
loop-k-init c = record {
  steps = λ k m. absurd (omega (arith, m));
  errors = c.least_errors-errors.ensures.value;
  costs = c.least_costs-costs.ensures.value;
  small = c.least_costs-costs.ensures.small;
  room = c.least_errors-errors.ensures.small;
}

pub overflow_sub-errors : goal.overflow_sub-errors
overflow_sub-errors c =
    let t = c.args.table.now in
    let same : c.as_slice-slices.result.now ≡ t.slices = c.as_slice-slices.ensures.slices ∙ ap (λ (t : Table). t.slices) c.table.view_is in
    let lt : c.loop-k.k < length t.slices = omega (arith, c.loop-k-test.true, ap length same) in
    let e = entries_at t.slices c.as_slice-slices.result.now c.loop-k.k c.index-slices-k.result c.entries-entries.result.now c.loop-k-test.true same c.index-slices-k.is c.entries-entries.ensures.entries in
    (errors_next t.slices c.loop-k.k c.entries-entries.result.now lt e c.loop-k.errors c.least_error_of-errors.result c.loop-k.invariant.errors c.least_error_of-errors.ensures.value).0

pub overflow_sub-costs : goal.overflow_sub-costs
overflow_sub-costs c =
    let t = c.args.table.now in
    let same : c.as_slice-slices.result.now ≡ t.slices = c.as_slice-slices.ensures.slices ∙ ap (λ (t : Table). t.slices) c.table.view_is in
    let lt : c.loop-k.k < length t.slices = omega (arith, c.loop-k-test.true, ap length same) in
    let e = entries_at t.slices c.as_slice-slices.result.now c.loop-k.k c.index-slices-k.result c.entries-entries.result.now c.loop-k-test.true same c.index-slices-k.is c.entries-entries.ensures.entries in
    (costs_next t.slices c.args.multiplier c.loop-k.k c.entries-entries.result.now lt e c.loop-k.costs c.least_cost-costs.result c.loop-k.invariant.costs c.least_cost-costs.ensures.value).0

pub covers-requires-clause-small : goal.covers-requires-clause-small
covers-requires-clause-small c = record {
  errors = omega (arith, c.loop-k.invariant.room);
  floor = omega (arith, c.loop-k.invariant.small);
}

pub covers-requires-clause-layer : goal.covers-requires-clause-layer
covers-requires-clause-layer c =
    let t = c.args.table.now in
    let same : c.as_slice-slices.result.now ≡ t.slices = c.as_slice-slices.ensures.slices ∙ ap (λ (t : Table). t.slices) c.table.view_is in
    let n : c.loop-k.k < length c.args.layers.now = omega (arith, c.loop-k-test.true, ap length same, c.requires.count, length-map c.args.layers.now (λ (v : Vec WidePair Global). v.items)) in
    let e = element c.args.layers.now c.loop-k.k c.index-layers-k.result c.deref.result.now n c.index-layers-k.is c.deref.ensures.value in
    subst RisesAndFalls (sym e) (c.requires.order c.loop-k.k [] (omega (arith, n, length-map c.args.layers.now (λ (v : Vec WidePair Global). v.items))))

pub covers-requires-clause-narrow : goal.covers-requires-clause-narrow
covers-requires-clause-narrow c =
    let t = c.args.table.now in
    let same : c.as_slice-slices.result.now ≡ t.slices = c.as_slice-slices.ensures.slices ∙ ap (λ (t : Table). t.slices) c.table.view_is in
    let n : c.loop-k.k < length c.args.layers.now = omega (arith, c.loop-k-test.true, ap length same, c.requires.count, length-map c.args.layers.now (λ (v : Vec WidePair Global). v.items)) in
    let e = element c.args.layers.now c.loop-k.k c.index-layers-k.result c.deref.result.now n c.index-layers-k.is c.deref.ensures.value in
    subst (All IsNarrow) (sym e) (c.requires.narrow c.loop-k.k [] (omega (arith, n, length-map c.args.layers.now (λ (v : Vec WidePair Global). v.items))))

pub covers-requires-clause-next : goal.covers-requires-clause-next
covers-requires-clause-next c =
    let t = c.args.table.now in
    let same : c.as_slice-slices.result.now ≡ t.slices = c.as_slice-slices.ensures.slices ∙ ap (λ (t : Table). t.slices) c.table.view_is in
    let n : c.loop-k.k + 1 < length c.args.layers.now = omega (arith, c.loop-k-test.true, ap length same, c.requires.count) in
    let e = element c.args.layers.now (c.loop-k.k + 1) c.index-layers-k-in-loop-k.result c.deref-in-loop-k.result.now n c.index-layers-k-in-loop-k.is c.deref-in-loop-k.ensures.value in
    subst RisesAndFalls (sym e) (c.requires.order (c.loop-k.k + 1) [] (omega (arith, n, length-map c.args.layers.now (λ (v : Vec WidePair Global). v.items))))

pub returns-then-not-covers : goal.returns-then-not-covers
returns-then-not-covers c = λ choice error. no (λ all.
    let ss = c.args.table.now.slices in
    let m = c.args.multiplier in
    let same : c.as_slice-slices.result.now ≡ ss = c.as_slice-slices.ensures.slices ∙ ap (λ (t : Table). t.slices) c.table.view_is in
    let lt : c.loop-k.k < length ss = omega (arith, c.loop-k-test.true, ap length same) in
    let e = entries_at ss c.as_slice-slices.result.now c.loop-k.k c.index-slices-k.result c.entries-entries.result.now c.loop-k-test.true same c.index-slices-k.is c.entries-entries.ensures.entries in
    let n : c.loop-k.k + 1 < length c.args.layers.now = omega (arith, lt, c.requires.count) in
    let f = element c.args.layers.now c.loop-k.k c.index-layers-k.result c.deref.result.now (omega (arith, n)) c.index-layers-k.is c.deref.ensures.value in
    let g = element c.args.layers.now (c.loop-k.k + 1) c.index-layers-k-in-loop-k.result c.deref-in-loop-k.result.now n c.index-layers-k-in-loop-k.is c.deref-in-loop-k.ensures.value in
    let next : c.loop-k.k + 1 ≡ suc c.loop-k.k = omega arith in
    let g' = g ∙ ap (λ k. get_or (items_of c.args.layers.now) k []) next in
    let o = bound_next ss c.args.cap m c.args.size c.loop-k.k c.entries-entries.result.now lt e c.loop-k.errors c.loop-k.costs c.least_error_of-errors.result c.least_cost-costs.result c.loop-k.invariant.errors c.loop-k.invariant.costs
    c.least_error_of-errors.ensures.value c.least_cost-costs.ensures.value
    (record { errors = c.loop-k.errors - c.least_error_of-errors.result; cap = c.args.cap; floor = c.loop-k.costs - c.least_cost-costs.result; most = c.from.result + c.from-2.result * c.from-3.result; multiplier = m })
    refl refl refl
    (omega (arith, c.from.ensures, same_product c.from-2.ensures c.from-3.ensures))
    refl in
    let at : StepsAt ss c.args.cap m c.args.size (items_of c.args.layers.now) c.loop-k.k =
    number_of_all c.args.cap (of_layers choice c.args.size error m (items_of c.args.layers.now)) ss (items_of c.args.layers.now)
    (length-map c.args.layers.now (λ (v : Vec WidePair Global). v.items) ∙ c.requires.count) all c.loop-k.k lt in
    denied c.covers.result c.covers.ensures c.if-not-covers.true
    ((step_is ss c.args.cap m c.args.size c.loop-k.k _ o c.entries-entries.result.now c.deref.result.now c.deref-in-loop-k.result.now (items_of c.args.layers.now) e f g').1 at))

pub loop-k-preserved : goal.loop-k-preserved
loop-k-preserved c =
    let ss = c.args.table.now.slices in
    let m = c.args.multiplier in
    let same : c.as_slice-slices.result.now ≡ ss = c.as_slice-slices.ensures.slices ∙ ap (λ (t : Table). t.slices) c.table.view_is in
    let lt : c.loop-k.k < length ss = omega (arith, c.loop-k-test.true, ap length same) in
    let e = entries_at ss c.as_slice-slices.result.now c.loop-k.k c.index-slices-k.result c.entries-entries.result.now c.loop-k-test.true same c.index-slices-k.is c.entries-entries.ensures.entries in
    let n : c.loop-k.k + 1 < length c.args.layers.now = omega (arith, lt, c.requires.count) in
    let f = element c.args.layers.now c.loop-k.k c.index-layers-k.result c.deref.result.now (omega (arith, n)) c.index-layers-k.is c.deref.ensures.value in
    let g = element c.args.layers.now (c.loop-k.k + 1) c.index-layers-k-in-loop-k.result c.deref-in-loop-k.result.now n c.index-layers-k-in-loop-k.is c.deref-in-loop-k.ensures.value in
    let next : c.loop-k.k + 1 ≡ suc c.loop-k.k = omega arith in
    let g' = g ∙ ap (λ k. get_or (items_of c.args.layers.now) k []) next in
    let o = bound_next ss c.args.cap m c.args.size c.loop-k.k c.entries-entries.result.now lt e c.loop-k.errors c.loop-k.costs c.least_error_of-errors.result c.least_cost-costs.result c.loop-k.invariant.errors c.loop-k.invariant.costs
    c.least_error_of-errors.ensures.value c.least_cost-costs.ensures.value
    (record { errors = c.loop-k.errors - c.least_error_of-errors.result; cap = c.args.cap; floor = c.loop-k.costs - c.least_cost-costs.result; most = c.from.result + c.from-2.result * c.from-3.result; multiplier = m })
    refl refl refl
    (omega (arith, c.from.ensures, same_product c.from-2.ensures c.from-3.ensures))
    refl in
    let here = (step_is ss c.args.cap m c.args.size c.loop-k.k _ o c.entries-entries.result.now c.deref.result.now c.deref-in-loop-k.result.now (items_of c.args.layers.now) e f g').0
    (granted c.covers.result c.covers.ensures c.if-not-covers.false) in
    let back : suc c.loop-k.k ≡ c.loop-k.k + 1 = omega arith in
    record {
      steps = until_more ss c.args.cap m c.args.size (items_of c.args.layers.now) c.loop-k.k c.loop-k.invariant.steps here;
      errors = (errors_next ss c.loop-k.k c.entries-entries.result.now lt e c.loop-k.errors c.least_error_of-errors.result c.loop-k.invariant.errors c.least_error_of-errors.ensures.value).1
          ∙ ap (λ k. least_error (drop k ss)) back;
      costs = (costs_next ss m c.loop-k.k c.entries-entries.result.now lt e c.loop-k.costs c.least_cost-costs.result c.loop-k.invariant.costs c.least_cost-costs.ensures.value).1
          ∙ ap (λ k. rest m (drop k ss)) back;
      small = omega (arith, c.loop-k.invariant.small);
      room = omega (arith, c.loop-k.invariant.room);
    }

pub returns : goal.returns
returns c = λ choice error.
    let t = c.args.table.now in
    let same : c.as_slice-slices.result.now ≡ t.slices = c.as_slice-slices.ensures.slices ∙ ap (λ (t : Table). t.slices) c.table.view_is in
    yes (all_by_number c.args.cap (of_layers choice c.args.size error c.args.multiplier (items_of c.args.layers.now)) t.slices (items_of c.args.layers.now)
    (length-map c.args.layers.now (λ (v : Vec WidePair Global). v.items) ∙ c.requires.count)
    (λ k lt. c.loop-k.invariant.steps k (omega (arith, lt, c.loop-k-test.false, ap length same))))
