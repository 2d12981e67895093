use Rattle.std.proofs.Common.{arith, length, take, drop, get_or, ◌≡◌, ◌<◌, [], refl, sym, subst}
use Rattle.std.proofs.lemmas.List.{take_all, drop_all}
use Rattle.std.proofs.lemmas.Bool.{false≢true}
use Rattle.rate_least.specs.declared.outcome.WidePair.{WidePair}
use Rattle.rate_least.specs.Pairs.{joined}
use Rattle.rate_least.specs.inner.Merge.{Merging, IsBehind, AreBehind, Offered, Passes}
use Rattle.rate_table.proofs.Lists.{contains_none}
use Rattle.rate_least.proofs.Merges.{merging_none, step_front, step_layer, step_skip, layer_later, front_later, merged_end, contains_drop}
use Rattle.rate_least.proofs.merge.merge_one.Goals as goal
use Rattle.rate_least.proofs.merge.merge_one.Goals.{in-Some+in_ok-offer-in-Some-2, in-None, then-before-2-test+else-comes_first, else-before-2-test}

none : WidePair
none = record { size = 0; error = 0 }

pub loop-p-init : goal.loop-p-init
loop-p-init c = record {
  within = omega arith;
  merging = subst (λ o. Merging c.args.bound.now c.args.x [] c.args.front.now [] c.args.layer.now o) (sym c.requires.empty) (merging_none c.args.bound.now c.args.x c.args.front.now c.args.layer.now);
}

pub offer-requires-clause-order : goal.offer-requires-clause-order
offer-requires-clause-order c = c.before-2.invariant.merging.front.order

pub offer-requires-clause-behind : goal.offer-requires-clause-behind
offer-requires-clause-behind c = c.before-2.invariant.merging.behind _ (contains_drop c.args.front.now c.before-2.i _ c.before-2-test.true)

pub before-2-preserved : goal.before-2-preserved
unfolding none
before-2-preserved c = record {
  within = omega arith;
  merging = step_front c.args.bound.now c.args.x c.args.front.now c.before-2.i none (take c.loop-p.p-index c.args.layer.now) (drop c.loop-p.p-index c.args.layer.now) c.before-2.out.items c.offer.new.out.items c.requires.front c.before-2-test.true
      (layer_later c.args.bound.now c.args.x c.args.layer.now c.loop-p.p-index none (get_or c.args.front.now c.before-2.i none) c.requires.layer c.loop-p-test.true
      (subst (λ y. IsBehind y (get_or c.args.front.now c.before-2.i none)) c.in-Some.ensures.0 (c.if-comes_first.ensures.yes refl)))
      c.before-2.invariant.merging c.in_ok-offer-in-Some.ensures.ok;
}

pub offer-requires-in-Some-clause-behind : goal.offer-requires-in-Some-clause-behind
offer-requires-in-Some-clause-behind c =
    subst (λ y. AreBehind y c.before-2.out.items) (sym c.in-Some.ensures.0)
    (c.before-2.invariant.merging.layer_behind _ (contains_drop c.args.layer.now c.loop-p.p-index _ c.loop-p-test.true))

pub loop-p-preserved : goal.loop-p-preserved
unfolding none
loop-p-preserved c = elim c.match-joined_if.branch [
  | in-Some+in_ok-offer-in-Some-2 w ↦
      let p = get_or c.args.layer.now c.loop-p.p-index none in
      let e : w.in-Some.q ≡ joined p c.args.x = w.in-Some.ensures.0 in
      let behind : w.before-2.i < length c.args.front.now → IsBehind (get_or c.args.front.now w.before-2.i none) w.in-Some.q =
      (λ n. elim w.before-2-test.branch [
        | then-before-2-test+else-comes_first v ↦ (v.if-comes_first.ensures.no false≢true).0
        | else-before-2-test v ↦ absurd (omega arith)
      ]) in
      rw (w.out-is, w.i-is) (record {
        within = w.before-2.invariant.within;
        merging = step_layer c.args.bound.now c.args.x c.args.layer.now c.loop-p.p-index none (take w.before-2.i c.args.front.now) (drop w.before-2.i c.args.front.now) w.before-2.out.items w.offer-in-Some.new.out.items c.requires.layer c.loop-p-test.true
            (subst (λ y. Passes c.args.bound.now y) e w.in-Some.ensures.1)
            (λ r i. subst (λ y. IsBehind r y) e (front_later c.args.front.now w.before-2.i none w.in-Some.q c.requires.front behind r i))
            w.before-2.invariant.merging
            (subst (λ y. Offered y w.before-2.out.items w.offer-in-Some.new.out.items) e w.in_ok-offer-in-Some-2.ensures.ok);
      })
  | in-None w ↦ rw (w.out-is, w.i-is) (record {
    within = c.loop-p.invariant.within;
    merging = step_skip c.args.bound.now c.args.x c.args.layer.now c.loop-p.p-index none (take c.loop-p.i c.args.front.now) (drop c.loop-p.i c.args.front.now) c.loop-p.out.items c.loop-p-test.true w.in-None.ensures c.loop-p.invariant.merging;
  })
]

pub after-init : goal.after-init
after-init c =
    let i = c.loop-p.invariant in
    record {
      within = i.within;
      merging = subst (λ l. Merging c.args.bound.now c.args.x (take c.loop-p.i c.args.front.now) (drop c.loop-p.i c.args.front.now) l [] c.loop-p.out.items) (take_all c.loop-p.p-index c.args.layer.now c.loop-p-test.false)
          (subst (λ l. Merging c.args.bound.now c.args.x (take c.loop-p.i c.args.front.now) (drop c.loop-p.i c.args.front.now) (take c.loop-p.p-index c.args.layer.now) l c.loop-p.out.items) (drop_all c.loop-p.p-index c.args.layer.now c.loop-p-test.false) i.merging);
    }

pub offer-requires-in-after-clause-behind : goal.offer-requires-in-after-clause-behind
offer-requires-in-after-clause-behind c = c.after.invariant.merging.behind _ (contains_drop c.args.front.now c.after.i _ c.after-test.true)

pub after-preserved : goal.after-preserved
unfolding none
after-preserved c = record {
  within = omega arith;
  merging = step_front c.args.bound.now c.args.x c.args.front.now c.after.i none c.args.layer.now [] c.after.out.items c.offer-in-after.new.out.items c.requires.front c.after-test.true
      (λ r i. absurd (contains_none r i)) c.after.invariant.merging c.in_ok-offer.ensures.ok;
}

pub returns : goal.returns
returns c = merged_end c.args.bound.now c.args.x c.args.front.now c.after.i c.args.layer.now c.after.out.items c.after-test.false c.after.invariant.merging
