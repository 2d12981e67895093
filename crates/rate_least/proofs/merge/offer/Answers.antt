use Rattle.std.proofs.Common.{sym, subst, refl}
use Rattle.std.specs.List.{Contains}
use Rattle.rate_least.specs.inner.Merge.{Offered}
use Rattle.rate_least.proofs.Merges.{offered_push}
use Rattle.rate_least.proofs.merge.offer.Goals as goal

pub returns-in_ok-push : goal.returns-in_ok-push
returns-in_ok-push c = record {
  ok = subst (λ new. Offered c.args.p c.args.out.now.items new) (sym c.in_ok-push.ensures.items)
      (offered_push c.args.p c.args.out.now.items c.requires.order c.requires.behind
      (λ q i. c.if-is_below.ensures.yes refl q (subst (λ l. Contains l q) (sym c.deref.ensures.value) i)));
}
