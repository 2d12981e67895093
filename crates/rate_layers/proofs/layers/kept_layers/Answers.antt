use Rattle.std.proofs.Common.{◌≡◌, ◌+◌, ◌^◌, ◌<◌, List, [], ◌∷◌, ◌++◌, Vec, Global, length, get_or, sym, ap, ◌∙◌, subst, arith}
use Rattle.std.specs.List.{All}
use Rattle.std.proofs.lemmas.List.{length-map}
use Rattle.std.proofs.lemmas.List.Sums.{sum_by-cons, sum_by_push}
use Rattle.std.proofs.lemmas.Result.{err_from_is_err_and}
use Rattle.rate_table.proofs.Vectors.{items_of, element}
use Rattle.rate_table.specs.declared.entry.Pair.{Pair}
use Rattle.rate_table.specs.Table.{Table, IsTable}
use Rattle.rate_table.specs.Pairs.{RisesAndFalls}
use Rattle.rate_layers.specs.Layers.{pairs_in}
use Rattle.rate_layers.specs.inner.Bound.{IsBoundOf}
use Rattle.rate_layers.proofs.Bounds.{front_first}
use Rattle.rate_layers.proofs.Assembled.{Assembled, Further, further, assembled_first, assembled_end, assembled_below, errors_small}
use Rattle.rate_layers.proofs.layers.kept_layers.Goals as goal

-- one list more
more_pairs : (layers : List (List Pair)) (next : List Pair) → pairs_in (layers ++ next ∷ []) ≡ pairs_in layers + length next
more_pairs layers next = sum_by_push length layers next

pub loop-k-init : goal.loop-k-init
loop-k-init c =
    let t = c.args.table.now in
    let m = c.args.multiplier in
    let u = c.args.error in
    let b = c.bound_of.ensures in
    let o : IsBoundOf t m u t.slices c.bound_of.result = record { multiplier = b.multiplier; end = omega (arith, b.end, c.least-sizes.ensures); ceiling = omega (arith, b.ceiling, c.least_costs-costs.ensures.value) } in
    let e : items_of c.put_layer.new.layers.items ≡ c.in_ok-first.first.items ∷ [] = c.in_ok-put_layer.ensures.layers ∙ ap (λ l. items_of l ++ c.deref.result.now ∷ []) c.new-layers.ensures.items ∙ ap (λ l. l ∷ []) c.deref.ensures.value in
    let n = ap pairs_in e in
    let n' = ap length c.deref.ensures.value in
    record {
      layers = subst (λ l. Assembled t m u l 0) (sym e) (assembled_first t m u c.in_ok-first.first.items (front_first t m u c.bound_of.result c.in_ok-first.first.items o c.in_ok-first.ensures));
      sizes = c.least-sizes.ensures;
      costs = c.least_costs-costs.ensures.value;
      small = c.least_costs-costs.ensures.small;
      pairs = omega (arith, n, n', c.in_ok-put_layer.ensures.pairs, sum_by-cons length c.in_ok-first.first.items []);
      few = c.in_ok-put_layer.ensures.few;
    }

pub returns-in_err-put_layer-clause-full : goal.returns-in_err-put_layer-clause-full
returns-in_err-put_layer-clause-full c =
    let t = c.args.table.now in
    let m = c.args.multiplier in
    let u = c.args.error in
    let b = c.bound_of.ensures in
    let o : IsBoundOf t m u t.slices c.bound_of.result = record { multiplier = b.multiplier; end = omega (arith, b.end, c.least-sizes.ensures); ceiling = omega (arith, b.ceiling, c.least_costs-costs.ensures.value) } in
    let p = err_from_is_err_and c.from_residual-in_err-put_layer.result c.from_residual-in_err-put_layer.ensures.1 in
    rw (p.1, p.2) (λ h all f.
    let a = assembled_first t m u c.in_ok-first.first.items (front_first t m u c.bound_of.result c.in_ok-first.first.items o c.in_ok-first.ensures) in
    let n = ap length c.deref.ensures.value in
    omega (arith, n, c.in_err-put_layer.ensures.full h, sum_by-cons length c.in_ok-first.first.items [], assembled_below t m u (c.in_ok-first.first.items ∷ []) all 0 (omega arith) a f))

pub next_layer-requires-clause-layer : goal.next_layer-requires-clause-layer
next_layer-requires-clause-layer c =
    let i = c.loop-k.invariant.layers in
    let n : c.loop-k.k < length c.loop-k.layers.items = omega (arith, i.count, length-map c.loop-k.layers.items (λ (w : Vec Pair Global). w.items)) in
    let e = element c.loop-k.layers.items c.loop-k.k c.index.result.now c.deref-in-loop-k.result.now n c.index.ensures c.deref-in-loop-k.ensures.value in
    subst RisesAndFalls (sym e) (i.fronts c.loop-k.k (omega arith)).order

pub next_layer-requires-clause-errors : goal.next_layer-requires-clause-errors
next_layer-requires-clause-errors c =
    let i = c.loop-k.invariant.layers in
    let n : c.loop-k.k < length c.loop-k.layers.items = omega (arith, i.count, length-map c.loop-k.layers.items (λ (w : Vec Pair Global). w.items)) in
    let e = element c.loop-k.layers.items c.loop-k.k c.index.result.now c.deref-in-loop-k.result.now n c.index.ensures c.deref-in-loop-k.ensures.value in
    subst (λ l. All (λ (p : Pair). p.error < 2 ^ 63) l) (sym e)
    (errors_small c.args.table.now c.args.multiplier c.args.error (subst IsTable c.table.view_is c.table.invariant) c.loop-k.k _ (i.fronts c.loop-k.k (omega arith)))

pub returns-in_err-put_layer-2-clause-full : goal.returns-in_err-put_layer-2-clause-full
returns-in_err-put_layer-2-clause-full c =
    let t = c.args.table.now in
    let m = c.args.multiplier in
    let u = c.args.error in
    let i = c.loop-k.invariant in
    let k = c.loop-k.k in
    let layers = items_of c.loop-k.layers.items in
    let n : k < length c.loop-k.layers.items = omega (arith, i.layers.count, length-map c.loop-k.layers.items (λ (w : Vec Pair Global). w.items)) in
    let same : c.as_slice-slices.result.now ≡ t.slices = c.as_slice-slices.ensures.slices ∙ ap (λ (t : Table). t.slices) c.table.view_is in
    let few = ap length same in
    let s = c.index-slices-k.result in
    let is : s ≡ get_or t.slices k s = subst (λ l. s ≡ get_or l k s) same c.index-slices-k.is in
    let b = c.bound_of-bound.ensures in
    let f : Further t m u layers k c.loop-k.sizes c.loop-k.costs = record { assembled = i.layers; sizes_left = i.sizes; costs_left = i.costs } in
    let g = further t m u layers k c.loop-k.sizes c.loop-k.costs c.deref-in-loop-k.result.now c.next_layer.new.work.next.items s c.entries-entries.result.now c.bound_of-bound.result c.from-sizes.result c.least_cost-costs.result f
    (omega (arith, few, c.loop-k-test.true)) is c.entries-entries.ensures.entries
    (element c.loop-k.layers.items k c.index.result.now c.deref-in-loop-k.result.now n c.index.ensures c.deref-in-loop-k.ensures.value)
    (c.from-sizes.ensures ∙ c.least_size.ensures) c.least_cost-costs.ensures.value b.multiplier b.end b.ceiling (c.in_ok-next_layer.ensures) in
    let d : c.deref-in-loop-k-2.result.now ≡ c.next_layer.new.work.next.items = c.deref-in-loop-k-2.ensures.value in
    let p = err_from_is_err_and c.from_residual-in_err-put_layer-2.result c.from_residual-in_err-put_layer-2.ensures.1 in
    rw (p.1, p.2) (λ h all a.
    let e = ap length d in
    omega (arith, e, i.pairs, c.in_err-put_layer-2.ensures.full h, more_pairs layers c.next_layer.new.work.next.items, assembled_below t m u (layers ++ c.next_layer.new.work.next.items ∷ []) all (k + 1) (omega (arith, few, c.loop-k-test.true)) g.assembled a))

pub loop-k-preserved : goal.loop-k-preserved
loop-k-preserved c =
    let t = c.args.table.now in
    let m = c.args.multiplier in
    let u = c.args.error in
    let i = c.loop-k.invariant in
    let k = c.loop-k.k in
    let layers = items_of c.loop-k.layers.items in
    let n : k < length c.loop-k.layers.items = omega (arith, i.layers.count, length-map c.loop-k.layers.items (λ (w : Vec Pair Global). w.items)) in
    let same : c.as_slice-slices.result.now ≡ t.slices = c.as_slice-slices.ensures.slices ∙ ap (λ (t : Table). t.slices) c.table.view_is in
    let few = ap length same in
    let s = c.index-slices-k.result in
    let is : s ≡ get_or t.slices k s = subst (λ l. s ≡ get_or l k s) same c.index-slices-k.is in
    let b = c.bound_of-bound.ensures in
    let f : Further t m u layers k c.loop-k.sizes c.loop-k.costs = record { assembled = i.layers; sizes_left = i.sizes; costs_left = i.costs } in
    let g = further t m u layers k c.loop-k.sizes c.loop-k.costs c.deref-in-loop-k.result.now c.next_layer.new.work.next.items s c.entries-entries.result.now c.bound_of-bound.result c.from-sizes.result c.least_cost-costs.result f
    (omega (arith, few, c.loop-k-test.true)) is c.entries-entries.ensures.entries
    (element c.loop-k.layers.items k c.index.result.now c.deref-in-loop-k.result.now n c.index.ensures c.deref-in-loop-k.ensures.value)
    (c.from-sizes.ensures ∙ c.least_size.ensures) c.least_cost-costs.ensures.value b.multiplier b.end b.ceiling (c.in_ok-next_layer.ensures) in
    let d : c.deref-in-loop-k-2.result.now ≡ c.next_layer.new.work.next.items = c.deref-in-loop-k-2.ensures.value in
    let e : items_of c.put_layer-in-loop-k.new.layers.items ≡ layers ++ c.next_layer.new.work.next.items ∷ [] = c.in_ok-put_layer-2.ensures.layers ∙ ap (λ l. layers ++ l ∷ []) d in
    let e' = ap length d in
    let n' = ap pairs_in e in
    record {
      layers = subst (λ l. Assembled t m u l (k + 1)) (sym e) g.assembled;
      sizes = g.sizes_left;
      costs = g.costs_left;
      small = omega (arith, i.small);
      pairs = omega (arith, e', n', i.pairs, c.in_ok-put_layer-2.ensures.pairs, more_pairs layers c.next_layer.new.work.next.items);
      few = c.in_ok-put_layer-2.ensures.few;
    }

pub returns-clause-kept : goal.returns-clause-kept
returns-clause-kept c =
    let t = c.args.table.now in
    let same = ap (λ (t : Table). length t.slices) c.table.view_is in
    let same' = ap length c.as_slice-slices.ensures.slices in
    assembled_end t c.args.multiplier c.args.error (items_of c.loop-k.layers.items) c.loop-k.k (omega (arith, same, same')) c.loop-k.invariant.layers
