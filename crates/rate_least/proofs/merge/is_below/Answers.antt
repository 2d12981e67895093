use Rattle.std.proofs.Common.{arith, ⊎_elim, ◌≤◌}
use Rattle.std.proofs.lemmas.Bool.{cases_lt, ltb-true, lt-ltb}
use Rattle.rate_least.proofs.Merges.{at_end}
use Rattle.rate_least.proofs.merge.is_below.Goals as goal

pub returns-in-Some-clause-yes : goal.returns-in-Some-clause-yes
returns-in-Some-clause-yes c = λ h q i.
    let e = at_end c.args.layer.now c.in-Some.last.now c.requires.order c.in-Some.ensures.item.3.0 c.in-Some.ensures.item.1 in
    omega (arith, e.1 q i, ltb-true _ _ h)

pub returns-in-Some-clause-no : goal.returns-in-Some-clause-no
returns-in-Some-clause-no c = λ h.
    let e = at_end c.args.layer.now c.in-Some.last.now c.requires.order c.in-Some.ensures.item.3.0 c.in-Some.ensures.item.1 in
    let b = c.requires.behind.each c.in-Some.last.now e.0 in
    let le : c.in-Some.last.now.error ≤ c.args.p.error = ⊎_elim (λ l. absurd (h (lt-ltb _ _ l))) (λ l. l) (cases_lt c.args.p.error c.in-Some.last.now.error) in
    (c.in-Some.last.now, e.0, (b.0, le))
