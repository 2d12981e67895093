use Rattle.std.proofs.Common.{◌≡◌, [], Vec, Global, get_or, sym, ap, ◌∙◌, subst, arith, ⊎_elim}
use Rattle.std.proofs.lemmas.Bool.{cases_lt}
use Rattle.std.proofs.lemmas.List.{get_or_default, length-map}
use Rattle.rate_table.specs.declared.entry.Pair.{Pair}
use Rattle.rate_table.specs.Pairs.{RisesAndFalls}
use Rattle.rate_check.proofs.Answered.{no, granted, denied}
use Rattle.rate_table.proofs.Vectors.{items_of, element}
use Rattle.rate_check.proofs.layers.are_in_order.Goals as goal

pub returns-then-not-rises_and_falls : goal.returns-then-not-rises_and_falls
returns-then-not-rises_and_falls c = no (λ h.
    let e = element c.args.layers.now c.loop-layer.layer-index c.layer-item.result c.deref.result.now c.loop-layer-test.true c.layer-item.is c.deref.ensures.value in
    denied c.rises_and_falls.result c.rises_and_falls.ensures c.if-not-rises_and_falls.true
    (subst RisesAndFalls (sym e) (h c.loop-layer.layer-index [] (omega (arith, length-map c.args.layers.now (λ (v : Vec Pair Global). v.items), c.loop-layer-test.true)))))

pub loop-layer-preserved : goal.loop-layer-preserved
loop-layer-preserved c =
    let e = element c.args.layers.now c.loop-layer.layer-index c.layer-item.result c.deref.result.now c.loop-layer-test.true c.layer-item.is c.deref.ensures.value in
    let here = subst RisesAndFalls e (granted c.rises_and_falls.result c.rises_and_falls.ensures c.if-not-rises_and_falls.false) in
    λ k d m. ⊎_elim (λ l. c.loop-layer.invariant k d l)
    (λ l. let n : c.loop-layer.layer-index ≡ k = omega (arith, l, m) in
    subst RisesAndFalls (get_or_default (items_of c.args.layers.now) c.loop-layer.layer-index [] d (omega (arith, length-map c.args.layers.now (λ (v : Vec Pair Global). v.items), c.loop-layer-test.true))
    ∙ ap (λ k. get_or (items_of c.args.layers.now) k d) n) here)
    (cases_lt k c.loop-layer.layer-index)
