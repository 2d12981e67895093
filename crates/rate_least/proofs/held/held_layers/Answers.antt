use Rattle.std.proofs.Common.{◌≡◌, ◌+◌, ◌-◌, ◌*◌, ◌<◌, List, [], ◌∷◌, ◌++◌, Vec, Global, length, get_or, refl, sym, ap, ◌∙◌, subst, arith}
use Rattle.std.specs.List.{All}
use Rattle.std.proofs.lemmas.List.{length-map}
use Rattle.std.proofs.lemmas.List.Sums.{sum_by-cons, sum_by_push}
use Rattle.std.proofs.lemmas.Result.{err_from_is_err_and}
use Rattle.rate_table.proofs.Vectors.{items_of, element}
use Rattle.rate_check.proofs.Covered.{same_product}
use Rattle.rate_table.specs.Table.{Table, IsTable}
use Rattle.rate_least.specs.declared.outcome.WidePair.{WidePair}
use Rattle.rate_least.specs.declared.bound.Bound.{Bound}
use Rattle.rate_least.specs.Pairs.{RisesAndFalls}
use Rattle.rate_least.specs.Records.{IsNarrow}
use Rattle.rate_least.specs.Layers.{pairs_in}
use Rattle.rate_least.specs.inner.Covering.{IsBoundOf}
use Rattle.rate_least.proofs.Bounds.{front_first}
use Rattle.rate_least.proofs.Refused.{capped}
use Rattle.rate_least.proofs.Assembled.{Assembled, Further, further, assembled_first, assembled_end, assembled_below, layer_narrow, layer_small}
use Rattle.rate_least.proofs.held.held_layers.Goals as goal

-- one list more
more_pairs : (layers : List (List WidePair)) (next : List WidePair) → pairs_in (layers ++ next ∷ []) ≡ pairs_in layers + length next
more_pairs layers next = sum_by_push length layers next

pub loop-k-init : goal.loop-k-init
loop-k-init c =
    let t = c.args.table.now in
    let m = c.args.multiplier in
    let u = c.args.size in
    let w = capped t.slices c.args.cap in
    let b : Bound = record { errors = c.least_errors.result; cap = c.args.cap; floor = c.least_costs.result; most = c.from.result + c.from-2.result * c.from-3.result; multiplier = m } in
    let o : IsBoundOf c.args.cap m u t.slices b = record { errors = c.least_errors.ensures.value; limit = refl; floor = c.least_costs.ensures.value; most = ap (λ x. x + c.from-2.result * c.from-3.result) c.from.ensures ∙ ap (λ x. c.args.cap + x) (same_product c.from-2.ensures c.from-3.ensures); multiplier = refl } in
    let e : items_of c.put_layer.new.layers.items ≡ c.in_ok-first.first.items ∷ [] = c.in_ok-put_layer.ensures.layers ∙ ap (λ l. items_of l ++ c.deref.result.now ∷ []) c.new-layers.ensures.items ∙ ap (λ l. l ∷ []) c.deref.ensures.value in
    let n = ap pairs_in e in
    let n' = ap length c.deref.ensures.value in
    record {
      layers = subst (λ l. Assembled w m u l 0) (sym e) (assembled_first w m u c.in_ok-first.first.items (front_first w m u b c.in_ok-first.first.items o c.in_ok-first.ensures));
      errors = o.errors;
      floor = o.floor;
      limit = refl;
      most = o.most;
      multiplier = refl;
      few_errors = c.least_errors.ensures.small;
      small = c.least_costs.ensures.small;
      pairs = omega (arith, n, n', c.in_ok-put_layer.ensures.pairs, sum_by-cons length c.in_ok-first.first.items []);
      few = c.in_ok-put_layer.ensures.few;
    }

pub returns-in_err-put_layer-clause-full : goal.returns-in_err-put_layer-clause-full
returns-in_err-put_layer-clause-full c =
    let t = c.args.table.now in
    let m = c.args.multiplier in
    let u = c.args.size in
    let w = capped t.slices c.args.cap in
    let b : Bound = record { errors = c.least_errors.result; cap = c.args.cap; floor = c.least_costs.result; most = c.from.result + c.from-2.result * c.from-3.result; multiplier = m } in
    let o : IsBoundOf c.args.cap m u t.slices b = record { errors = c.least_errors.ensures.value; limit = refl; floor = c.least_costs.ensures.value; most = ap (λ x. x + c.from-2.result * c.from-3.result) c.from.ensures ∙ ap (λ x. c.args.cap + x) (same_product c.from-2.ensures c.from-3.ensures); multiplier = refl } in
    let p = err_from_is_err_and c.from_residual-in_err-put_layer.result c.from_residual-in_err-put_layer.ensures.1 in
    rw (p.1, p.2) (λ h all f.
    let a = assembled_first w m u c.in_ok-first.first.items (front_first w m u b c.in_ok-first.first.items o c.in_ok-first.ensures) in
    let n = ap length c.deref.ensures.value in
    omega (arith, n, c.in_err-put_layer.ensures.full h, sum_by-cons length c.in_ok-first.first.items [], assembled_below w m u (c.in_ok-first.first.items ∷ []) all 0 (omega arith) a f))

pub next_layer-requires-clause-small : goal.next_layer-requires-clause-small
next_layer-requires-clause-small c = record { errors = omega (arith, c.loop-k.invariant.few_errors); floor = omega (arith, c.loop-k.invariant.small) }

pub next_layer-requires-clause-layer : goal.next_layer-requires-clause-layer
next_layer-requires-clause-layer c =
    let t = c.args.table.now in
    let m = c.args.multiplier in
    let u = c.args.size in
    let w = capped t.slices c.args.cap in
    let is' : IsTable t = subst IsTable c.table.view_is c.table.invariant in
    let i = c.loop-k.invariant in
    let k = c.loop-k.k in
    let layers = items_of c.loop-k.layers.items in
    let n : k < length c.loop-k.layers.items = omega (arith, i.layers.count, length-map c.loop-k.layers.items (λ (w : Vec WidePair Global). w.items)) in
    let e = element c.loop-k.layers.items k c.index.result.now c.deref-in-loop-k.result.now n c.index.ensures c.deref-in-loop-k.ensures.value in
    subst RisesAndFalls (sym e) (i.layers.fronts k (omega arith)).order

pub next_layer-requires-clause-narrow : goal.next_layer-requires-clause-narrow
next_layer-requires-clause-narrow c =
    let t = c.args.table.now in
    let m = c.args.multiplier in
    let u = c.args.size in
    let w = capped t.slices c.args.cap in
    let is' : IsTable t = subst IsTable c.table.view_is c.table.invariant in
    let i = c.loop-k.invariant in
    let k = c.loop-k.k in
    let layers = items_of c.loop-k.layers.items in
    let n : k < length c.loop-k.layers.items = omega (arith, i.layers.count, length-map c.loop-k.layers.items (λ (w : Vec WidePair Global). w.items)) in
    let e = element c.loop-k.layers.items k c.index.result.now c.deref-in-loop-k.result.now n c.index.ensures c.deref-in-loop-k.ensures.value in
    subst (All IsNarrow) (sym e) (layer_narrow w m u is'.each is'.few k _ (i.layers.fronts k (omega arith)))

pub next_layer-requires-clause-errors : goal.next_layer-requires-clause-errors
next_layer-requires-clause-errors c =
    let t = c.args.table.now in
    let m = c.args.multiplier in
    let u = c.args.size in
    let w = capped t.slices c.args.cap in
    let is' : IsTable t = subst IsTable c.table.view_is c.table.invariant in
    let i = c.loop-k.invariant in
    let k = c.loop-k.k in
    let layers = items_of c.loop-k.layers.items in
    let n : k < length c.loop-k.layers.items = omega (arith, i.layers.count, length-map c.loop-k.layers.items (λ (w : Vec WidePair Global). w.items)) in
    let e = element c.loop-k.layers.items k c.index.result.now c.deref-in-loop-k.result.now n c.index.ensures c.deref-in-loop-k.ensures.value in
    subst (All (λ (p : WidePair). p.error < 9223372036854775808)) (sym e) (layer_small w m u is'.each is'.few k _ (i.layers.fronts k (omega arith)))

pub returns-in_err-put_layer-2-clause-full : goal.returns-in_err-put_layer-2-clause-full
returns-in_err-put_layer-2-clause-full c =
    let t = c.args.table.now in
    let m = c.args.multiplier in
    let u = c.args.size in
    let w = capped t.slices c.args.cap in
    let is' : IsTable t = subst IsTable c.table.view_is c.table.invariant in
    let i = c.loop-k.invariant in
    let k = c.loop-k.k in
    let layers = items_of c.loop-k.layers.items in
    let n : k < length c.loop-k.layers.items = omega (arith, i.layers.count, length-map c.loop-k.layers.items (λ (w : Vec WidePair Global). w.items)) in
    let same : c.as_slice-slices.result.now ≡ t.slices = c.as_slice-slices.ensures.slices ∙ ap (λ (t : Table). t.slices) c.table.view_is in
    let few = ap length same in
    let s = c.index-slices-k.result in
    let is : s ≡ get_or t.slices k s = subst (λ l. s ≡ get_or l k s) same c.index-slices-k.is in
    let b : Bound = record { errors = c.loop-k.bound.errors - c.least_error_of.result; cap = c.loop-k.bound.cap; floor = c.loop-k.bound.floor - c.least_cost.result; most = c.loop-k.bound.most; multiplier = c.loop-k.bound.multiplier } in
    let f : Further w m u layers k c.loop-k.bound.errors c.loop-k.bound.floor = record { assembled = i.layers; errors_left = i.errors; costs_left = i.floor } in
    let g = further w m u layers k c.loop-k.bound.errors c.loop-k.bound.floor c.deref-in-loop-k.result.now c.next_layer.new.next.items s c.entries-entries.result.now b c.least_error_of.result c.least_cost.result f
    (omega (arith, few, c.loop-k-test.true)) is c.entries-entries.ensures.entries
    (element c.loop-k.layers.items k c.index.result.now c.deref-in-loop-k.result.now n c.index.ensures c.deref-in-loop-k.ensures.value)
    c.least_error_of.ensures.value c.least_cost.ensures.value i.multiplier refl i.limit refl i.most c.in_ok-next_layer.ensures in
    let d : c.deref-in-loop-k-2.result.now ≡ c.next_layer.new.next.items = c.deref-in-loop-k-2.ensures.value in
    let p = err_from_is_err_and c.from_residual-in_err-put_layer-2.result c.from_residual-in_err-put_layer-2.ensures.1 in
    rw (p.1, p.2) (λ h all a.
    let e = ap length d in
    omega (arith, e, i.pairs, c.in_err-put_layer-2.ensures.full h, more_pairs layers c.next_layer.new.next.items, assembled_below w m u (layers ++ c.next_layer.new.next.items ∷ []) all (k + 1) (omega (arith, few, c.loop-k-test.true)) g.assembled a))

pub loop-k-preserved : goal.loop-k-preserved
loop-k-preserved c =
    let t = c.args.table.now in
    let m = c.args.multiplier in
    let u = c.args.size in
    let w = capped t.slices c.args.cap in
    let is' : IsTable t = subst IsTable c.table.view_is c.table.invariant in
    let i = c.loop-k.invariant in
    let k = c.loop-k.k in
    let layers = items_of c.loop-k.layers.items in
    let n : k < length c.loop-k.layers.items = omega (arith, i.layers.count, length-map c.loop-k.layers.items (λ (w : Vec WidePair Global). w.items)) in
    let same : c.as_slice-slices.result.now ≡ t.slices = c.as_slice-slices.ensures.slices ∙ ap (λ (t : Table). t.slices) c.table.view_is in
    let few = ap length same in
    let s = c.index-slices-k.result in
    let is : s ≡ get_or t.slices k s = subst (λ l. s ≡ get_or l k s) same c.index-slices-k.is in
    let b : Bound = record { errors = c.loop-k.bound.errors - c.least_error_of.result; cap = c.loop-k.bound.cap; floor = c.loop-k.bound.floor - c.least_cost.result; most = c.loop-k.bound.most; multiplier = c.loop-k.bound.multiplier } in
    let f : Further w m u layers k c.loop-k.bound.errors c.loop-k.bound.floor = record { assembled = i.layers; errors_left = i.errors; costs_left = i.floor } in
    let g = further w m u layers k c.loop-k.bound.errors c.loop-k.bound.floor c.deref-in-loop-k.result.now c.next_layer.new.next.items s c.entries-entries.result.now b c.least_error_of.result c.least_cost.result f
    (omega (arith, few, c.loop-k-test.true)) is c.entries-entries.ensures.entries
    (element c.loop-k.layers.items k c.index.result.now c.deref-in-loop-k.result.now n c.index.ensures c.deref-in-loop-k.ensures.value)
    c.least_error_of.ensures.value c.least_cost.ensures.value i.multiplier refl i.limit refl i.most c.in_ok-next_layer.ensures in
    let d : c.deref-in-loop-k-2.result.now ≡ c.next_layer.new.next.items = c.deref-in-loop-k-2.ensures.value in
    let e : items_of c.put_layer-in-loop-k.new.layers.items ≡ layers ++ c.next_layer.new.next.items ∷ [] = c.in_ok-put_layer-2.ensures.layers ∙ ap (λ l. layers ++ l ∷ []) d in
    let e' = ap length d in
    let n' = ap pairs_in e in
    record {
      layers = subst (λ l. Assembled w m u l (k + 1)) (sym e) g.assembled;
      errors = g.errors_left;
      floor = g.costs_left;
      limit = i.limit;
      most = i.most;
      multiplier = i.multiplier;
      few_errors = omega (arith, i.few_errors);
      small = omega (arith, i.small);
      pairs = omega (arith, e', n', i.pairs, c.in_ok-put_layer-2.ensures.pairs, more_pairs layers c.next_layer.new.next.items);
      few = c.in_ok-put_layer-2.ensures.few;
    }

pub returns-clause-held : goal.returns-clause-held
returns-clause-held c =
    let t = c.args.table.now in
    let m = c.args.multiplier in
    let u = c.args.size in
    let w = capped t.slices c.args.cap in
    let same = ap (λ (t : Table). length t.slices) c.table.view_is in
    let same' = ap length c.as_slice-slices.ensures.slices in
    assembled_end w m u (items_of c.loop-k.layers.items) c.loop-k.k (omega (arith, same, same', c.loop-k-test.false, c.loop-k.auto.k-end)) c.loop-k.invariant.layers
