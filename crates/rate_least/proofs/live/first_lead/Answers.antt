use Rattle.std.proofs.Common.{refl}
use Rattle.std.proofs.lemmas.Bool.{false≢true}
use Rattle.rate_least.specs.inner.Live.{marked}
use Rattle.rate_least.proofs.Onward.{first_on, none_on, none_more}
use Rattle.rate_least.proofs.live.first_lead.Goals as goal

pub returns-then-leads-clause-some : goal.returns-then-leads-clause-some
returns-then-leads-clause-some c =
    first_on c.args.slice.now (marked c.args.marks.now c.args.next.now) c.args.p c.loop-x.x-index _ c.requires.indices c.loop-x-test.true c.loop-x.invariant (c.if-leads.ensures.0 refl)

pub loop-x-preserved : goal.loop-x-preserved
loop-x-preserved c =
    none_more c.args.slice.now (marked c.args.marks.now c.args.next.now) c.args.p c.loop-x.x-index (record { index = 0; size = 0; error = 0 }) c.loop-x-test.true c.loop-x.invariant (λ h. false≢true (c.if-leads.ensures.1 h))

pub returns-clause-none : goal.returns-clause-none
returns-clause-none c = none_on c.args.slice.now (marked c.args.marks.now c.args.next.now) c.args.p c.loop-x.x-index c.loop-x-test.false c.loop-x.invariant
