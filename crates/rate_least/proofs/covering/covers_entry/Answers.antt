use Rattle.std.proofs.Common.{◌≡◌, ◌+◌, ◌*◌, get_or, ap, arith}
use Rattle.rate_least.specs.Pairs.{joined}
use Rattle.rate_least.specs.inner.Covering.{Covers, ReachesTo}
use Rattle.rate_check.proofs.Answered.{yes, no, granted, denied}
use Rattle.rate_least.proofs.Orders.{no_pair}
use Rattle.rate_least.proofs.Covered.{uncovered, last_dominates, reaches_on, one_more, not_counted}
use Rattle.rate_least.proofs.covering.covers_entry.Goals as goal
use Rattle.rate_least.proofs.covering.covers_entry.Goals.{else-counts-via-then-counts+else-not-has_no_more, else-counts-via-else-counts}

pub returns : goal.returns
returns c = yes (λ j d m. c.loop-pair.invariant.so_far j d (omega (arith, m, c.loop-pair-test.false)))

pub returns-then-not-has_no_more : goal.returns-then-not-has_no_more
returns-then-not-has_no_more c =
    let counted = granted c.counts.result c.counts.ensures c.if-counts.true in
    let p = get_or c.args.layer.now c.loop-pair.pair-index no_pair in
    let e : c.args.bound.now.multiplier * (p.size + c.from.result) ≡ c.args.bound.now.multiplier * (p.size + c.args.entry.size) =
    ap (λ n. c.args.bound.now.multiplier * (p.size + n)) c.from.ensures in
    no (uncovered c.args.bound.now c.args.layer.now c.args.next.now c.args.entry c.loop-pair.pair-index c.reach-at.result c.requires.next c.loop-pair-test.true
    c.reach-at.ensures.within
    (λ k m. omega (arith, c.reach-at.ensures.reached k m, c.from.ensures))
    (λ m. omega (arith, c.reach-at.ensures.behind m, c.from.ensures))
    (λ h. denied c.has_no_more.result c.has_no_more.ensures c.if-not-has_no_more.true (h.0, omega (arith, h.1, c.from-in-loop-pair.ensures, c.from-in-loop-pair-2.ensures)))
    (omega (arith, counted.0, c.from-in-loop-pair.ensures, c.from-in-loop-pair-2.ensures))
    (omega (arith, counted.1, e, c.from-in-loop-pair.ensures, c.from-in-loop-pair-2.ensures)))

pub loop-pair-preserved : goal.loop-pair-preserved
loop-pair-preserved c =
    let b = c.args.bound.now in
    let layer = c.args.layer.now in
    let next = c.args.next.now in
    let x = c.args.entry in
    let i = c.loop-pair.pair-index in
    let reached : ReachesTo next c.reach-at.result ((get_or layer i no_pair).size + x.size) = λ k m. omega (arith, c.reach-at.ensures.reached k m, c.from.ensures) in
    let here : Covers b next (joined (get_or layer i no_pair) x) =
    elim c.else-counts.branch [
      | else-counts-via-then-counts+else-not-has_no_more w ↦
          let h = granted w.has_no_more.result w.has_no_more.ensures w.if-not-has_no_more.false in
          last_dominates b next (joined (get_or layer i no_pair) x) c.reach-at.result c.reach-at.ensures.within reached
          (h.0, omega (arith, h.1, c.from-in-loop-pair.ensures, c.from-in-loop-pair-2.ensures))
      | else-counts-via-else-counts w ↦
          not_counted b next (joined (get_or layer i no_pair) x) ((get_or layer i no_pair).size + c.from.result) (c.from-in-loop-pair.result + c.from-in-loop-pair-2.result) (omega (arith, c.from.ensures)) (omega (arith, c.from-in-loop-pair.ensures, c.from-in-loop-pair-2.ensures))
          (denied c.counts.result c.counts.ensures w.if-counts.false)
    ] in
    record {
      within = c.reach-at.ensures.within;
      reached = reaches_on layer next x c.reach-at.result i c.requires.layer reached;
      so_far = one_more b layer next x i c.loop-pair-test.true c.loop-pair.invariant.so_far here;
    }
