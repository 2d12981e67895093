use Rattle.std.proofs.Common.{◌≡◌, ◌+◌, ◌*◌, get_or, arith, inr}
use Rattle.rate_table.specs.Pairs.{joined}
use Rattle.rate_check.specs.inner.Covering.{Covers, ReachesTo}
use Rattle.rate_check.proofs.covering.covers_entry.Goals.{else-weight-bound-via-then-weight-bound+else-not-has_no_more, else-weight-bound-via-else-weight-bound}
use Rattle.rate_check.proofs.Answered.{yes, no, granted, denied}
use Rattle.rate_check.proofs.Orders.{no_pair}
use Rattle.rate_check.proofs.Covered.{same_product, no_more, uncovered, last_dominates, reaches_on, one_more}
use Rattle.rate_check.proofs.covering.covers_entry.Goals as goal

pub returns-then-bound-size : goal.returns-then-bound-size
returns-then-bound-size c =
    yes (no_more c.args.bound.now c.args.layer.now c.args.next.now c.args.entry c.loop-pair.pair-index c.requires.layer c.loop-pair-test.true
    (omega (arith, c.if-bound-size.true, c.from.ensures, c.from-in-loop-pair.ensures)) c.loop-pair.invariant.so_far)

pub returns : goal.returns
returns c = yes (λ j d m. c.loop-pair.invariant.so_far j d (omega (arith, m, c.loop-pair-test.false)))

pub returns-then-not-has_no_more : goal.returns-then-not-has_no_more
returns-then-not-has_no_more c =
    let w : c.from-in-loop-pair-4.result * c.from-in-loop-pair-5.result ≡ c.args.bound.now.multiplier * ((get_or c.args.layer.now c.loop-pair.pair-index no_pair).size + c.args.entry.size) =
    same_product c.from-in-loop-pair-4.ensures (omega (arith, c.from-in-loop-pair-5.ensures, c.from.ensures, c.from-in-loop-pair.ensures)) in
    no (uncovered c.args.bound.now c.args.layer.now c.args.next.now c.args.entry c.loop-pair.pair-index c.reach-at.result c.requires.next c.loop-pair-test.true
    c.reach-at.ensures.within
    (λ k m. omega (arith, c.reach-at.ensures.reached k m, c.from.ensures, c.from-in-loop-pair.ensures))
    (λ m. omega (arith, c.reach-at.ensures.behind m, c.from.ensures, c.from-in-loop-pair.ensures))
    (λ h. denied c.has_no_more.result c.has_no_more.ensures c.if-not-has_no_more.true (h.0, omega (arith, h.1, c.from-in-loop-pair-2.ensures, c.from-in-loop-pair-3.ensures)))
    (omega (arith, c.if-bound-size.false, c.from.ensures, c.from-in-loop-pair.ensures))
    (omega (arith, w, c.if-weight-bound.true, c.from-in-loop-pair-2.ensures, c.from-in-loop-pair-3.ensures)))

pub loop-pair-preserved : goal.loop-pair-preserved
loop-pair-preserved c =
    let b = c.args.bound.now in
    let layer = c.args.layer.now in
    let next = c.args.next.now in
    let x = c.args.entry in
    let i = c.loop-pair.pair-index in
    let reached : ReachesTo next c.reach-at.result ((get_or layer i no_pair).size + x.size) = λ k m. omega (arith, c.reach-at.ensures.reached k m, c.from.ensures, c.from-in-loop-pair.ensures) in
    let here : Covers b next (joined (get_or layer i no_pair) x) =
    elim c.else-weight-bound.branch [
      | else-weight-bound-via-then-weight-bound+else-not-has_no_more w ↦
          let h = granted w.has_no_more.result w.has_no_more.ensures w.if-not-has_no_more.false in
          last_dominates b next (joined (get_or layer i no_pair) x) c.reach-at.result c.reach-at.ensures.within reached
          (h.0, omega (arith, h.1, c.from-in-loop-pair-2.ensures, c.from-in-loop-pair-3.ensures))
      | else-weight-bound-via-else-weight-bound w ↦
          let e : c.from-in-loop-pair-4.result * c.from-in-loop-pair-5.result ≡ b.multiplier * ((get_or layer i no_pair).size + x.size) =
          same_product c.from-in-loop-pair-4.ensures (omega (arith, c.from-in-loop-pair-5.ensures, c.from.ensures, c.from-in-loop-pair.ensures)) in
          inr (inr (λ stays. omega (arith, e, w.if-weight-bound.false, stays, c.from-in-loop-pair-2.ensures, c.from-in-loop-pair-3.ensures)))
    ] in
    record {
      within = c.reach-at.ensures.within;
      reached = reaches_on layer next x c.reach-at.result i c.requires.layer reached;
      so_far = one_more b layer next x i c.loop-pair-test.true c.loop-pair.invariant.so_far here;
    }
