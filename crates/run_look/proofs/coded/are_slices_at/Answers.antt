use Rattle.std.proofs.Common.{get_or, length, ap, sym, ◌∙◌, arith}
use Rattle.rate_build.specs.Coding.{coded_slice, weights_in}
use Rattle.rate_check.proofs.Answered.{yes, no, denied}
use Rattle.rate_build.proofs.Lengths.{coded_number}
use Rattle.rate_build.proofs.Straight.{coded_at}
use Rattle.run_look.proofs.Alike.{coded_whole}
use Rattle.run_look.proofs.coded.are_slices_at.Goals as goal

pub returns-then-coded-slices : goal.returns-then-coded-slices
returns-then-coded-slices c = no (λ e. c.if-coded-slices.true (ap length e ∙ coded_number (weights_in c.args.header.now) c.args.slices.now c.args.choice.now c.requires.number))

pub returns-then-not-is_slice_at : goal.returns-then-not-is_slice_at
returns-then-not-is_slice_at c = no (λ e.
    let w = weights_in c.args.header.now in
    let i = c.loop-i.i in
    let there = c.index-coded-i.is ∙ ap (λ l. get_or l i c.index-coded-i.result) e ∙ coded_at w c.args.slices.now c.args.choice.now i c.index-slices-i.result c.index-coded-i.result c.requires.number c.loop-i-test.true in
    denied c.is_slice_at.result c.is_slice_at.ensures c.if-not-is_slice_at.true (there ∙ ap (coded_slice w (get_or c.args.choice.now i 0)) (sym c.index-slices-i.is)))

pub returns : goal.returns
returns c = yes (coded_whole (weights_in c.args.header.now) c.args.slices.now c.args.choice.now c.args.coded.now c.requires.number c.if-coded-slices.false (λ k d x l. c.loop-i.invariant k d x (omega arith)))
