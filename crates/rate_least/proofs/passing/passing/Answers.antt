use Rattle.std.proofs.Common.{get_or, arith}
use Rattle.std.proofs.lemmas.List.Elements.{All-push}
use Rattle.rate_table.specs.declared.entry.Entry.{Entry}
use Rattle.rate_table.specs.Table.{IsEntry}
use Rattle.rate_least.proofs.Passings.{passing_kept, passing_left}
use Rattle.rate_least.proofs.passing.passing.Goals as goal
use Rattle.rate_least.proofs.passing.passing.Goals.{then-least-cost_of+in_ok-push, else-least-cost_of}

no_entry : Entry
no_entry = record { index = 0; size = 0; error = 0 }

pub loop-x-preserved : goal.loop-x-preserved
unfolding no_entry
loop-x-preserved c =
    let slice = c.args.slice.now in
    let k = c.loop-x.x-index in
    let i = c.loop-x.invariant in
    elim c.if-least-cost_of.branch [
      | then-least-cost_of+in_ok-push w ↦ rw (w.few-is, w.in_ok-push.ensures.items) (record {
        passing = passing_kept c.args.bound.now c.args.layer.now slice c.loop-x.few.items k no_entry c.loop-x-test.true i.passing;
        entries = All-push IsEntry c.loop-x.few.items (get_or slice k no_entry) i.entries (c.requires.entries k no_entry c.loop-x-test.true);
      })
      | else-least-cost_of w ↦ rw w.few-is (record {
        passing = passing_left c.args.bound.now c.args.layer.now slice c.loop-x.few.items k c.least_weight.result no_entry c.loop-x-test.true c.least_weight.ensures.below
            (omega (arith, w.if-least-cost_of.false, c.cost_of.ensures.value)) i.passing;
        entries = i.entries;
      })
    ]
