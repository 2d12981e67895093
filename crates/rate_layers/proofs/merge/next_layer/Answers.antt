use Rattle.std.proofs.Common.{ap, subst}
use Rattle.rate_layers.specs.declared.merge.Work.{Work}
use Rattle.rate_layers.specs.inner.Bound.{IsNext}
use Rattle.rate_layers.specs.inner.Merge.{Thinned}
use Rattle.rate_layers.proofs.Passings.{next_passing}
use Rattle.rate_layers.proofs.Thinning.{thinned_trans, next_thinned}
use Rattle.rate_layers.proofs.merge.next_layer.Goals as goal
use Rattle.rate_layers.proofs.merge.next_layer.Goals.{then-len-layer+in_ok-thin+in_ok-thin-2, else-len-layer}

pub returns : goal.returns
returns c =
    let b = c.args.bound.now in
    let layer = c.args.layer.now in
    let few = c.passing.new.few.items in
    let next = c.merge_all.new.next.items in
    let made = subst (λ l. IsNext b layer l next) c.deref-2.ensures.value c.in_ok-merge_all.ensures in
    next_passing b layer c.args.slice.now few next c.in_ok-passing.ensures.ok
    (elim c.if-len-layer.branch [
      | then-len-layer+in_ok-thin+in_ok-thin-2 w ↦
          let fewer = w.thin.new.few.items in
          let last = w.thin-then-len-layer.new.few.items in
          let made' : IsNext b layer last next = subst (λ l. IsNext b layer l next) (ap (λ (v : Work). v.few.items) w.work-is) made in
          next_thinned b layer few last next
          (thinned_trans few fewer last (subst (λ l. Thinned l fewer) w.deref.ensures.value w.in_ok-thin.ensures.ok) (subst (λ l. Thinned l last) w.deref-then-len-layer.ensures.value w.in_ok-thin-2.ensures.ok)) made'
      | else-len-layer w ↦ subst (λ l. IsNext b layer l next) (ap (λ (v : Work). v.few.items) w.work-is) made
    ])
