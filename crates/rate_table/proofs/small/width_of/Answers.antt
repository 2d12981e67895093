use Rattle.std.proofs.Common.{arith, []}
use Rattle.std.proofs.lemmas.Grind.{common_steps}
use Rattle.std.proofs.lemmas.List.{get_or_read}
use Rattle.rate_table.proofs.Numbered.{width-ge}
use Rattle.rate_table.proofs.small.width_of.Goals as goal

pub returns-then-product-gt-MOST : goal.returns-then-product-gt-MOST
returns-then-product-gt-MOST c =
    let item = get_or_read c.args.slices.now c.loop-slice.slice-index c.slice-item.result c.loop-slice-test.true c.slice-item.is [] in
    let le = width-ge c.args.slices.now c.loop-slice.slice-index c.loop-slice.product _ c.slice-item.result c.loop-slice-test.true item c.loop-slice.invariant.each c.loop-slice.invariant.rest in
    grind (arith, common_steps, le, c.entries.ensures.entries, c.if-product-gt-MOST.true)
