use Rattle.std.proofs.Common.{true, ◌∙◌}
use Rattle.std.proofs.lemmas.List.{length-set}
use Rattle.rate_table.specs.declared.entry.Entry.{Entry}
use Rattle.rate_layers.proofs.Marked.{more_marked, more_same}
use Rattle.rate_layers.proofs.marks.mark_sources.Goals as goal
use Rattle.rate_layers.proofs.marks.mark_sources.Goals.{in-Some, in_default}

no_entry : Entry
no_entry = record { index = 0; size = 0; error = 0 }

pub loop-x-preserved : goal.loop-x-preserved
unfolding no_entry
loop-x-preserved c =
    let i = c.loop-x.invariant in
    elim c.match-source_of.branch [
      | in-Some w ↦ rw (w.marks-is ∙ w.set.ensures) (record {
        count = length-set c.loop-x.marks w.in-Some.at true ∙ i.count;
        more = more_marked c.args.q c.args.layer.now c.args.marks.now c.args.slice.now c.loop-x.x-index no_entry c.loop-x.marks w.in-Some.at c.loop-x-test.true c.requires.layer i.count w.in-Some.ensures.some i.more;
      })
      | in_default w ↦ rw w.marks-is (record {
        count = i.count;
        more = more_same c.args.q c.args.layer.now c.args.marks.now c.args.slice.now c.loop-x.x-index no_entry c.loop-x.marks c.loop-x-test.true w.in_default.ensures.none i.more;
      })
    ]
