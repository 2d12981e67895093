use Rattle.std.proofs.Common.{◌≡◌, suc, ◌+◌, ◌-◌, ◌<◌, [], length, get_or, drop, sym, ap, ◌∙◌, subst, arith}
use Rattle.std.proofs.lemmas.List.{length-map}
use Rattle.rate_table.proofs.Vectors.{items_of}
use Rattle.rate_table.specs.Table.{Table, least}
use Rattle.rate_table.specs.Pairs.{cost, rest}
use Rattle.rate_layers.specs.Layers.{IsKept}
use Rattle.rate_layers.proofs.Bounds.{sum_step}
use Rattle.rate_layers.proofs.Found.{goal_below}
use Rattle.rate_layers.proofs.Lessened.{kept_vector, set_first, set_more, lessened_end}
use Rattle.rate_layers.proofs.narrowed.narrow.Goals as goal

pub loop-k-init : goal.loop-k-init
loop-k-init c =
    let t = c.args.table.now in
    let m = c.args.multiplier in
    let v = c.args.goal.error in
    let vs = c.args.layers.now.items in
    let r = c.requires in
    let b = c.bound_of-first.ensures in
    let n : 0 < length vs = omega (arith, length-map vs (λ v. v.items), r.1.kept.0) in
    let h = kept_vector t m r.0 v 0 vs c.index_mut.result.now c.keep_within.new.layer c.bound_of-first.result.multiplier c.bound_of-first.result.ceiling
    (goal_below t m r.0 c.args.goal (items_of vs) r.1) n (r.1.kept.1 0 (omega arith)) c.index_mut.ensures.value c.keep_within.ensures b.multiplier (omega (arith, b.ceiling, c.least_costs-costs.ensures.value)) in
    record {
      layers = set_first t m v vs c.keep_within.new.layer r.1.kept.0 h;
      costs = c.least_costs-costs.ensures.value;
      small = c.least_costs-costs.ensures.small;
    }

pub loop-k-preserved : goal.loop-k-preserved
loop-k-preserved c =
    let t = c.args.table.now in
    let m = c.args.multiplier in
    let v = c.args.goal.error in
    let k = c.loop-k.k in
    let vs = c.loop-k.layers.items in
    let before = items_of c.args.layers.now.items in
    let i = c.loop-k.invariant in
    let r = c.requires in
    let b = c.bound_of-bound.ensures in
    let same : c.as_slice-slices.result.now ≡ t.slices = c.as_slice-slices.ensures.slices ∙ ap (λ (t : Table). t.slices) c.table.view_is in
    let within : k < length t.slices = omega (arith, ap length same, c.loop-k-test.true) in
    let n : k + 1 < length vs = omega (arith, length-map vs (λ v. v.items), i.layers.count, r.1.kept.0, within) in
    let s = c.index-slices-k.result in
    let is : s ≡ get_or t.slices k s = subst (λ l. s ≡ get_or l k s) same c.index-slices-k.is in
    let step = sum_step (least (cost m)) t.slices k s within is in
    let cheapest : c.least_cost-costs.result ≡ least (cost m) s = c.least_cost-costs.ensures.value ∙ ap (λ l. least (cost m) l) c.entries.ensures.entries in
    let k1 : suc k ≡ k + 1 = omega arith in
    let left : c.loop-k.costs - c.least_cost-costs.result ≡ rest m (drop (k + 1) t.slices) =
    subst (λ j. c.loop-k.costs - c.least_cost-costs.result ≡ rest m (drop j t.slices)) k1 (omega (arith, i.costs, step, cheapest)) in
    let was : IsKept t m r.0 (k + 1) (get_or (items_of vs) (k + 1) []) = subst (λ l. IsKept t m r.0 (k + 1) l) (sym (i.layers.left (k + 1) (omega arith))) (r.1.kept.1 (k + 1) (omega (arith, within))) in
    let h = kept_vector t m r.0 v (k + 1) vs c.index_mut-in-loop-k.result.now c.keep_within-in-loop-k.new.layer c.bound_of-bound.result.multiplier c.bound_of-bound.result.ceiling
    (goal_below t m r.0 c.args.goal before r.1) n was c.index_mut-in-loop-k.ensures.value c.keep_within-in-loop-k.ensures b.multiplier (omega (arith, b.ceiling, left)) in
    record {
      layers = set_more t m v before vs k c.keep_within-in-loop-k.new.layer r.1.kept.0 i.layers within (subst (λ j. IsKept t m v j c.keep_within-in-loop-k.new.layer.items) (sym k1) h);
      costs = left;
      small = omega (arith, i.small);
    }

pub returns : goal.returns
returns c =
    let r = c.requires in
    let same : c.as_slice-slices.result.now ≡ c.args.table.now.slices = c.as_slice-slices.ensures.slices ∙ ap (λ (t : Table). t.slices) c.table.view_is in
    lessened_end c.args.table.now c.args.multiplier r.0 c.args.goal (items_of c.args.layers.now.items) r.1 (items_of c.loop-k.layers.items) c.loop-k.k (omega (arith, ap length same, c.loop-k-test.false)) c.loop-k.invariant.layers
