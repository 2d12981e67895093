use Rattle.std.proofs.Common.{◌≡◌, get_or, sym, ap, ◌∙◌, arith}
use Rattle.std.proofs.lemmas.List.{same_lists, get_or_default}
use Rattle.rate_check.proofs.Answered.{yes, no, granted, denied}
use Rattle.run_look.proofs.Alike.{step}
use Rattle.run_look.proofs.comparing.same_entries.Goals as goal

pub returns-then-not-same_entry : goal.returns-then-not-same_entry
returns-then-not-same_entry c = no (λ e. denied c.same_entry.result c.same_entry.ensures c.if-not-same_entry.true (ap (λ l. get_or l c.loop-i.i (record { index = 0; size = 0; error = 0 })) e))

pub loop-i-preserved : goal.loop-i-preserved
loop-i-preserved c = λ k d.
    let i = c.loop-i.i in
    let a = get_or_default c.args.some.now i (record { index = 0; size = 0; error = 0 }) d c.loop-i-test.true in
    let b = get_or_default c.args.others.now i (record { index = 0; size = 0; error = 0 }) d (omega (arith, c.loop-i-test.true, c.if-some-others.false)) in
    let same = granted c.same_entry.result c.same_entry.ensures c.if-not-same_entry.false in
    step (λ k. get_or c.args.some.now k d ≡ get_or c.args.others.now k d) i (λ k l. c.loop-i.invariant k d l) (sym a ∙ same ∙ b) k

pub returns : goal.returns
returns c = yes (same_lists c.args.some.now c.args.others.now c.if-some-others.false (λ k d l. c.loop-i.invariant k d (omega (arith, l, c.loop-i-test.false))))
