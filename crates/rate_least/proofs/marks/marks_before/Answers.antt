use Rattle.std.proofs.Common.{◌≡◌, ◌+◌, length, get_or, ap, sym, ◌∙◌, subst, arith}
use Rattle.std.proofs.lemmas.List.{get_or_default, with_items_is}
use Rattle.rate_least.specs.declared.outcome.WidePair.{WidePair}
use Rattle.rate_least.specs.inner.Live.{MarkedMore}
use Rattle.rate_least.proofs.Marked.{MarkedSo, so_more, so_same, so_end}
use Rattle.rate_least.proofs.marks.marks_before.Goals as goal
use Rattle.rate_least.proofs.marks.marks_before.Goals.{then-next_marks-i, else-next_marks-i}

none : WidePair
none = record { size = 0; error = 0 }

pub loop-i-preserved : goal.loop-i-preserved
unfolding none
loop-i-preserved c =
    let slice = c.args.slice.now in
    let next = c.args.next.now in
    let layer = c.args.layer.now in
    let k = c.loop-i.i in
    elim c.if-next_marks-i.branch [
      | then-next_marks-i w ↦
          let old = c.loop-i.marks in
          let new = w.mark_sources.new.marks in
          let q = get_or next k none in
          let count = w.mark_sources.ensures.count in
          let items : c.if-next_marks-i.marks.items ≡ new = ap (λ v. v.items) w.marks-is ∙ with_items_is old new (omega (arith, count, c.loop-i.invariant.count, ap length w.deref_mut.ensures.value, w.deref_mut.ensures.len)) in
          let more = subst (λ l. MarkedMore slice q layer l new) w.deref_mut.ensures.value w.mark_sources.ensures.more in
          subst (λ l. MarkedSo slice next c.args.next_marks.now layer l (k + 1)) (sym items)
          (so_more slice next c.args.next_marks.now layer old.items new k q c.loop-i-test.true w.if-next_marks-i.true (get_or_default next k none q c.loop-i-test.true) count more c.loop-i.invariant)
      | else-next_marks-i w ↦
          subst (λ v. MarkedSo slice next c.args.next_marks.now layer v.items (k + 1)) (sym w.marks-is)
          (so_same slice next c.args.next_marks.now layer c.loop-i.marks.items k w.if-next_marks-i.false c.loop-i.invariant)
    ]

pub returns : goal.returns
returns c = so_end c.args.slice.now c.args.next.now c.args.next_marks.now c.args.layer.now c.loop-i.marks.items c.loop-i.i (omega (arith, c.loop-i-test.false, c.loop-i.auto.i-end)) c.requires.layer c.loop-i.invariant
