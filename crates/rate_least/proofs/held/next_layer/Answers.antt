use Rattle.std.proofs.Common.{subst}
use Rattle.rate_least.specs.inner.Merge.{IsNext}
use Rattle.rate_least.proofs.Passings.{next_passing}
use Rattle.rate_least.proofs.held.next_layer.Goals as goal

pub returns : goal.returns
returns c =
    let b = c.args.bound.now in
    let layer = c.args.layer.now in
    let next = c.merge_all.new.next.items in
    next_passing b layer c.args.slice.now c.passing.new.few.items next c.in_ok-passing.ensures.ok (subst (λ l. IsNext b layer l next) c.deref.ensures.value c.in_ok-merge_all.ensures)
