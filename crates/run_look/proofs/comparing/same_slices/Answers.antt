use Rattle.std.proofs.Common.{◌≡◌, get_or, sym, ap, ◌∙◌, arith}
use Rattle.std.proofs.lemmas.List.{same_lists, get_or_default}
use Rattle.rate_check.proofs.Answered.{yes, no, granted, denied}
use Rattle.run_look.proofs.Alike.{step}
use Rattle.run_look.proofs.comparing.same_slices.Goals as goal

pub returns-then-not-same_entries : goal.returns-then-not-same_entries
returns-then-not-same_entries c = no (λ e.
    let i = c.loop-i.i in
    let a = get_or_default c.args.some.now i c.index-some-i.result c.index-others-i.result c.loop-i-test.true in
    denied c.same_entries.result c.same_entries.ensures c.if-not-same_entries.true
    (c.entries.ensures.entries ∙ c.index-some-i.is ∙ a ∙ ap (λ l. get_or l i c.index-others-i.result) e ∙ sym c.index-others-i.is ∙ sym c.entries-in-loop-i.ensures.entries))

pub loop-i-preserved : goal.loop-i-preserved
loop-i-preserved c = λ k d.
    let i = c.loop-i.i in
    let a = get_or_default c.args.some.now i c.index-some-i.result d c.loop-i-test.true in
    let b = get_or_default c.args.others.now i c.index-others-i.result d (omega (arith, c.loop-i-test.true, c.if-some-others.false)) in
    let same = granted c.same_entries.result c.same_entries.ensures c.if-not-same_entries.false in
    let here = sym a ∙ sym c.index-some-i.is ∙ sym c.entries.ensures.entries ∙ same ∙ c.entries-in-loop-i.ensures.entries ∙ c.index-others-i.is ∙ b in
    step (λ k. get_or c.args.some.now k d ≡ get_or c.args.others.now k d) i (λ k l. c.loop-i.invariant k d l) here k

pub returns : goal.returns
returns c = yes (same_lists c.args.some.now c.args.others.now c.if-some-others.false (λ k d l. c.loop-i.invariant k d (omega (arith, l, c.loop-i-test.false))))
