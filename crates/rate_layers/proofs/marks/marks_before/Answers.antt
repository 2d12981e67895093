use Rattle.std.proofs.Common.{get_or, sym, ◌∙◌, arith}
use Rattle.std.proofs.lemmas.List.{get_or_default}
use Rattle.rate_table.specs.declared.entry.Pair.{Pair}
use Rattle.rate_layers.proofs.Marked.{so_more, so_same, so_end}
use Rattle.rate_layers.proofs.marks.marks_before.Goals as goal
use Rattle.rate_layers.proofs.marks.marks_before.Goals.{then-get, else-get}

none : Pair
none = record { size = 0; error = 0 }

pub loop-i-preserved : goal.loop-i-preserved
unfolding none
loop-i-preserved c =
    let slice = c.args.slice.now in
    let next = c.args.next.now in
    let layer = c.args.layer.now in
    let old = c.loop-i.marks in
    let k = c.loop-i.i in
    elim c.if-get.branch [
      | then-get w ↦
          let q = get_or next k none in
          let done = w.mark_sources.ensures in
          rw w.marks-is (so_more slice next c.args.next_marks.now layer old w.mark_sources.new.marks k q c.loop-i-test.true (sym c.get.ensures ∙ w.if-get.true) (get_or_default next k none q c.loop-i-test.true) done.count done.more c.loop-i.invariant)
      | else-get w ↦ rw w.marks-is (so_same slice next c.args.next_marks.now layer old k (sym c.get.ensures ∙ w.if-get.false) c.loop-i.invariant)
    ]

pub returns : goal.returns
returns c = so_end c.args.slice.now c.args.next.now c.args.next_marks.now c.args.layer.now c.loop-i.marks c.loop-i.i (omega (arith, c.loop-i-test.false, c.loop-i.auto.i-end)) c.requires.layer c.loop-i.invariant
