use Rattle.std.proofs.Common.{◌-◌, arith}
use Rattle.rate_check.proofs.Answered.{yes, no}
use Rattle.rate_least.proofs.Orders.{no_pair, in_order, apart}
use Rattle.rate_least.proofs.layers.rises_and_falls.Goals as goal
use Rattle.rate_least.proofs.layers.rises_and_falls.Goals.{then-layer-k-via-then-layer-k, then-layer-k-via-else-layer-k+then-before-layer}

pub returns-then-layer-k : goal.returns-then-layer-k
returns-then-layer-k c = no (λ h.
    let a = apart c.args.layer.now no_pair (c.loop-k.k - 1) c.loop-k.k h (omega (arith, c.loop-k.auto.k)) c.loop-k-test.true in
    elim c.then-layer-k.branch [
      | then-layer-k-via-then-layer-k w ↦ omega (arith, a.0, w.if-layer-k.true)
      | then-layer-k-via-else-layer-k+then-before-layer w ↦ omega (arith, a.1, w.if-before-layer.true)
    ])

pub returns : goal.returns
returns c = yes (in_order c.args.layer.now no_pair (λ i m. c.loop-k.invariant i (omega (arith, m, c.loop-k-test.false))))
