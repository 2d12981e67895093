use Rattle.std.proofs.lemmas.List.Elements.{All-push}
use Rattle.pr_frame.specs.Coded.{IsWritableSlice}
use Rattle.rate_build.specs.Coding.{weights_in}
use Rattle.rate_build.proofs.Chosen.{coded_more}
use Rattle.rate_build.proofs.coding.slices_at.Goals as goal

pub loop-i-preserved : goal.loop-i-preserved
loop-i-preserved c =
    let s = c.in_ok-slice_at.ensures in
    let inv = c.loop-i.invariant in
    rw c.in_ok-push.ensures.items (record {
      value = coded_more (weights_in c.args.header.now) c.args.slices.now c.args.choice.now c.loop-i.i c.index-slices-i.result _ c.loop-i.coded.items _ c.loop-i-test.true c.requires.number c.index-slices-i.is s.value inv.value;
      small = All-push IsWritableSlice c.loop-i.coded.items _ inv.small s.small;
    })
