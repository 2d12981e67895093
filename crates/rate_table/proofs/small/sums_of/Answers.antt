use Rattle.std.proofs.Common.{◌≡◌, ℕ, List, ◌∷◌, ◌-◌, ◌+◌, ◌<◌, [], arith, drop, length, ◌∙◌, ap, sym}
use Rattle.std.proofs.lemmas.List.{drop_more, length-drop, get_or_read}
use Rattle.rate_table.specs.declared.entry.Entry.{Entry}
use Rattle.rate_table.specs.Table.{IsSliceTable}
use Rattle.rate_table.specs.Small.{all_sums}
use Rattle.std.proofs.lemmas.List.Elements.{All-drop}
use Rattle.rate_table.proofs.Numbered.{sums-small, all_sums-cons, length-all_sums}
use Rattle.rate_table.proofs.small.sums_of.Goals as goal

pub extended-requires : goal.extended-requires
extended-requires c =
    rw (c.deref.ensures.value, c.loop-i.invariant.1) (sums-small (drop c.loop-i.i c.args.slices.now) (All-drop IsSliceTable c.loop-i.i c.args.slices.now c.requires.each) (omega (arith, length-drop c.loop-i.i c.args.slices.now, c.requires.few)))

pub loop-i-preserved : goal.loop-i-preserved
loop-i-preserved c =
    let k = c.loop-i.i - 1 in
    let lt : k < length c.args.slices.now = omega (arith, c.loop-i.invariant.0, c.loop-i-test.true) in
    let item = get_or_read c.args.slices.now k c.index-slices-i.result lt c.index-slices-i.is [] in
    let up : k + 1 ≡ c.loop-i.i = omega (arith, c.loop-i-test.true) in
    let front : drop k c.args.slices.now ≡ c.index-slices-i.result ∷ drop c.loop-i.i c.args.slices.now = drop_more c.args.slices.now k [] lt ∙ ap (λ (x : List Entry). x ∷ drop (k + 1) c.args.slices.now) (sym item) ∙ ap (λ (n : ℕ). c.index-slices-i.result ∷ drop n c.args.slices.now) up in
    (omega arith, c.in_ok-all.ensures ∙ rw (c.deref.ensures.value, c.loop-i.invariant.1) (sym (ap all_sums front ∙ all_sums-cons c.index-slices-i.result (drop c.loop-i.i c.args.slices.now))))

pub returns-clause-small : goal.returns-clause-small
returns-clause-small c =
    let zero_left : c.loop-i.i ≡ 0 = omega (arith, c.loop-i-test.false) in
    let e : c.loop-i.all.items ≡ all_sums c.args.slices.now = c.loop-i.invariant.1 ∙ ap (λ (n : ℕ). all_sums (drop n c.args.slices.now)) zero_left in
    rw e (λ k d lt. (sums-small c.args.slices.now c.requires.each c.requires.few k d lt).0)

pub returns-clause-count : goal.returns-clause-count
returns-clause-count c =
    let zero_left : c.loop-i.i ≡ 0 = omega (arith, c.loop-i-test.false) in
    let e : c.loop-i.all.items ≡ all_sums c.args.slices.now = c.loop-i.invariant.1 ∙ ap (λ (n : ℕ). all_sums (drop n c.args.slices.now)) zero_left in
    ap length e ∙ length-all_sums c.args.slices.now
