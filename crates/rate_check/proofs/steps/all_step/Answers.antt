use Rattle.std.proofs.Common.{◌≡◌, ◌+◌, ◌-◌, ◌*◌, ◌<◌, ◌≤◌, ◌^◌, suc, [], refl, Vec, Global, length, get_or, drop, sym, ap, ◌∙◌, subst, arith}
use Rattle.std.proofs.lemmas.Nat.{mul-le}
use Rattle.std.proofs.lemmas.List.{length-map}
use Rattle.rate_table.specs.declared.entry.Pair.{Pair}
use Rattle.rate_table.specs.Table.{Table, IsTable, least_sizes}
use Rattle.rate_table.specs.Pairs.{RisesAndFalls, rest}
use Rattle.rate_check.specs.inner.Printed.{of_layers}
use Rattle.rate_check.proofs.Answered.{yes, no, granted, denied}
use Rattle.rate_check.proofs.Covered.{same_product}
use Rattle.rate_table.proofs.Vectors.{items_of, element}
use Rattle.rate_check.proofs.Stepped.{StepsAt, entries_at, bound_next, taken_next, costs_next, least_few, until_more, step_is, all_by_number, number_of_all}
use Rattle.rate_check.proofs.steps.all_step.Goals as goal

pub loop-k-init : goal.loop-k-init
loop-k-init c =
    let t = c.args.table.now in
    let is : IsTable t = subst IsTable c.table.view_is c.table.invariant in
    record {
      steps = λ k m. absurd (omega (arith, m));
      taken = c.least-taken.ensures;
      costs = c.least_costs-costs.ensures.value;
      small = c.least_costs-costs.ensures.small;
      room = omega (arith, c.least-taken.ensures, least_few t.slices is.each, is.few, is.fixed_limit);
    }

pub overflow_sub-taken : goal.overflow_sub-taken
overflow_sub-taken c =
    let t = c.args.table.now in
    let same : c.as_slice-slices.result.now ≡ t.slices = c.as_slice-slices.ensures.slices ∙ ap (λ (t : Table). t.slices) c.table.view_is in
    let lt : c.loop-k.k < length t.slices = omega (arith, c.loop-k-test.true, ap length same) in
    let e = entries_at t.slices c.as_slice-slices.result.now c.loop-k.k c.index-slices-k.result c.entries-entries.result.now c.loop-k-test.true same c.index-slices-k.is c.entries-entries.ensures.entries in
    (taken_next t c.loop-k.k c.entries-entries.result.now lt e c.loop-k.taken c.from-taken.result c.loop-k.invariant.taken (c.from-taken.ensures ∙ c.least_size.ensures)).0

pub overflow_sub-costs : goal.overflow_sub-costs
overflow_sub-costs c =
    let t = c.args.table.now in
    let same : c.as_slice-slices.result.now ≡ t.slices = c.as_slice-slices.ensures.slices ∙ ap (λ (t : Table). t.slices) c.table.view_is in
    let lt : c.loop-k.k < length t.slices = omega (arith, c.loop-k-test.true, ap length same) in
    let e = entries_at t.slices c.as_slice-slices.result.now c.loop-k.k c.index-slices-k.result c.entries-entries.result.now c.loop-k-test.true same c.index-slices-k.is c.entries-entries.ensures.entries in
    (costs_next t c.args.multiplier c.loop-k.k c.entries-entries.result.now lt e c.loop-k.costs c.least_cost-costs.result c.loop-k.invariant.costs c.least_cost-costs.ensures.value).0

pub covers-requires-clause-small : goal.covers-requires-clause-small
covers-requires-clause-small c =
    let t = c.args.table.now in
    let is : IsTable t = subst IsTable c.table.view_is c.table.invariant in
    let f = ap (λ (t : Table). t.fixed) c.table.view_is in
    let b = ap (λ (t : Table). t.budget) c.table.view_is in
    let low : c.from-byte.result ≤ 2 ^ 64 = omega (arith, c.from-byte.ensures, c.ranges.multiplier.fits) in
    let low' : c.from.result ≤ 2 ^ 31 = omega (arith, c.from.ensures, f, is.fixed_limit) in
    record {
      taken = omega (arith, c.loop-k.invariant.room);
      budget = omega (arith, c.from-in-loop-k.ensures, b, is.budget_limit);
      floor = omega (arith, c.loop-k.invariant.small, mul-le c.from-byte.result c.from.result (2 ^ 64) (2 ^ 31) low low');
    }

pub covers-requires-clause-layer : goal.covers-requires-clause-layer
covers-requires-clause-layer c =
    let t = c.args.table.now in
    let same : c.as_slice-slices.result.now ≡ t.slices = c.as_slice-slices.ensures.slices ∙ ap (λ (t : Table). t.slices) c.table.view_is in
    let n : c.loop-k.k < length c.args.layers.now = omega (arith, c.loop-k-test.true, ap length same, c.requires.count, length-map c.args.layers.now (λ (v : Vec Pair Global). v.items)) in
    let e = element c.args.layers.now c.loop-k.k c.index-layers-k.result c.deref.result.now n c.index-layers-k.is c.deref.ensures.value in
    subst RisesAndFalls (sym e) (c.requires.order c.loop-k.k [] (omega (arith, n, length-map c.args.layers.now (λ (v : Vec Pair Global). v.items))))

pub covers-requires-clause-next : goal.covers-requires-clause-next
covers-requires-clause-next c =
    let t = c.args.table.now in
    let same : c.as_slice-slices.result.now ≡ t.slices = c.as_slice-slices.ensures.slices ∙ ap (λ (t : Table). t.slices) c.table.view_is in
    let n : c.loop-k.k + 1 < length c.args.layers.now = omega (arith, c.loop-k-test.true, ap length same, c.requires.count) in
    let e = element c.args.layers.now (c.loop-k.k + 1) c.index-layers-k-in-loop-k.result c.deref-in-loop-k.result.now n c.index-layers-k-in-loop-k.is c.deref-in-loop-k.ensures.value in
    subst RisesAndFalls (sym e) (c.requires.order (c.loop-k.k + 1) [] (omega (arith, n, length-map c.args.layers.now (λ (v : Vec Pair Global). v.items))))

pub returns-then-not-covers : goal.returns-then-not-covers
returns-then-not-covers c = λ choice size. no (λ all.
    let t = c.args.table.now in
    let m = c.args.multiplier in
    let u = c.args.error in
    let same : c.as_slice-slices.result.now ≡ t.slices = c.as_slice-slices.ensures.slices ∙ ap (λ (t : Table). t.slices) c.table.view_is in
    let lt : c.loop-k.k < length t.slices = omega (arith, c.loop-k-test.true, ap length same) in
    let e = entries_at t.slices c.as_slice-slices.result.now c.loop-k.k c.index-slices-k.result c.entries-entries.result.now c.loop-k-test.true same c.index-slices-k.is c.entries-entries.ensures.entries in
    let n : c.loop-k.k + 1 < length c.args.layers.now = omega (arith, lt, c.requires.count) in
    let f = element c.args.layers.now c.loop-k.k c.index-layers-k.result c.deref.result.now (omega (arith, n)) c.index-layers-k.is c.deref.ensures.value in
    let g = element c.args.layers.now (c.loop-k.k + 1) c.index-layers-k-in-loop-k.result c.deref-in-loop-k.result.now n c.index-layers-k-in-loop-k.is c.deref-in-loop-k.ensures.value in
    let next : c.loop-k.k + 1 ≡ suc c.loop-k.k = omega arith in
    let g' = g ∙ ap (λ k. get_or (items_of c.args.layers.now) k []) next in
    let o = bound_next t m u c.loop-k.k c.entries-entries.result.now lt e c.loop-k.taken c.loop-k.costs c.from-taken.result c.least_cost-costs.result c.loop-k.invariant.taken c.loop-k.invariant.costs
    (c.from-taken.ensures ∙ c.least_size.ensures) c.least_cost-costs.ensures.value
    (record { taken = c.loop-k.taken - c.from-taken.result; budget = c.from-in-loop-k.result; floor = c.loop-k.costs - c.least_cost-costs.result + c.from-byte.result * c.from.result; most = c.from-2.result + c.from-byte.result * c.from-3.result; multiplier = m })
    refl (c.from-in-loop-k.ensures ∙ ap (λ (t : Table). t.budget) c.table.view_is)
    (omega (arith, same_product c.from-byte.ensures (c.from.ensures ∙ ap (λ (t : Table). t.fixed) c.table.view_is)))
    (omega (arith, c.from-2.ensures, same_product c.from-byte.ensures (c.from-3.ensures ∙ ap (λ (t : Table). t.budget) c.table.view_is)))
    refl in
    let at : StepsAt t m u (items_of c.args.layers.now) c.loop-k.k =
    number_of_all t (of_layers choice size u m (items_of c.args.layers.now)) t.slices (items_of c.args.layers.now)
    (length-map c.args.layers.now (λ (v : Vec Pair Global). v.items) ∙ c.requires.count) all c.loop-k.k lt in
    denied c.covers.result c.covers.ensures c.if-not-covers.true
    ((step_is t m u c.loop-k.k _ o c.entries-entries.result.now c.deref.result.now c.deref-in-loop-k.result.now (items_of c.args.layers.now) e f g').1 at))

pub loop-k-preserved : goal.loop-k-preserved
loop-k-preserved c =
    let t = c.args.table.now in
    let m = c.args.multiplier in
    let u = c.args.error in
    let same : c.as_slice-slices.result.now ≡ t.slices = c.as_slice-slices.ensures.slices ∙ ap (λ (t : Table). t.slices) c.table.view_is in
    let lt : c.loop-k.k < length t.slices = omega (arith, c.loop-k-test.true, ap length same) in
    let e = entries_at t.slices c.as_slice-slices.result.now c.loop-k.k c.index-slices-k.result c.entries-entries.result.now c.loop-k-test.true same c.index-slices-k.is c.entries-entries.ensures.entries in
    let n : c.loop-k.k + 1 < length c.args.layers.now = omega (arith, lt, c.requires.count) in
    let f = element c.args.layers.now c.loop-k.k c.index-layers-k.result c.deref.result.now (omega (arith, n)) c.index-layers-k.is c.deref.ensures.value in
    let g = element c.args.layers.now (c.loop-k.k + 1) c.index-layers-k-in-loop-k.result c.deref-in-loop-k.result.now n c.index-layers-k-in-loop-k.is c.deref-in-loop-k.ensures.value in
    let next : c.loop-k.k + 1 ≡ suc c.loop-k.k = omega arith in
    let g' = g ∙ ap (λ k. get_or (items_of c.args.layers.now) k []) next in
    let o = bound_next t m u c.loop-k.k c.entries-entries.result.now lt e c.loop-k.taken c.loop-k.costs c.from-taken.result c.least_cost-costs.result c.loop-k.invariant.taken c.loop-k.invariant.costs
    (c.from-taken.ensures ∙ c.least_size.ensures) c.least_cost-costs.ensures.value
    (record { taken = c.loop-k.taken - c.from-taken.result; budget = c.from-in-loop-k.result; floor = c.loop-k.costs - c.least_cost-costs.result + c.from-byte.result * c.from.result; most = c.from-2.result + c.from-byte.result * c.from-3.result; multiplier = m })
    refl (c.from-in-loop-k.ensures ∙ ap (λ (t : Table). t.budget) c.table.view_is)
    (omega (arith, same_product c.from-byte.ensures (c.from.ensures ∙ ap (λ (t : Table). t.fixed) c.table.view_is)))
    (omega (arith, c.from-2.ensures, same_product c.from-byte.ensures (c.from-3.ensures ∙ ap (λ (t : Table). t.budget) c.table.view_is)))
    refl in
    let here = (step_is t m u c.loop-k.k _ o c.entries-entries.result.now c.deref.result.now c.deref-in-loop-k.result.now (items_of c.args.layers.now) e f g').0
    (granted c.covers.result c.covers.ensures c.if-not-covers.false) in
    let back : suc c.loop-k.k ≡ c.loop-k.k + 1 = omega arith in
    record {
      steps = until_more t m u (items_of c.args.layers.now) c.loop-k.k c.loop-k.invariant.steps here;
      taken = (taken_next t c.loop-k.k c.entries-entries.result.now lt e c.loop-k.taken c.from-taken.result c.loop-k.invariant.taken (c.from-taken.ensures ∙ c.least_size.ensures)).1
          ∙ ap (λ k. t.fixed + least_sizes (drop k t.slices)) back;
      costs = (costs_next t m c.loop-k.k c.entries-entries.result.now lt e c.loop-k.costs c.least_cost-costs.result c.loop-k.invariant.costs c.least_cost-costs.ensures.value).1
          ∙ ap (λ k. rest m (drop k t.slices)) back;
      small = omega (arith, c.loop-k.invariant.small);
      room = omega (arith, c.loop-k.invariant.room);
    }

pub returns : goal.returns
returns c = λ choice size.
    let t = c.args.table.now in
    let same : c.as_slice-slices.result.now ≡ t.slices = c.as_slice-slices.ensures.slices ∙ ap (λ (t : Table). t.slices) c.table.view_is in
    yes (all_by_number t (of_layers choice size c.args.error c.args.multiplier (items_of c.args.layers.now)) t.slices (items_of c.args.layers.now)
    (length-map c.args.layers.now (λ (v : Vec Pair Global). v.items) ∙ c.requires.count)
    (λ k lt. c.loop-k.invariant.steps k (omega (arith, lt, c.loop-k-test.false, ap length same))))
