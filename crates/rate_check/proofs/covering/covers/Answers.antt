use Rattle.std.proofs.Common.{get_or, ap, ◌∙◌, subst, arith, ⊎_elim}
use Rattle.std.proofs.lemmas.Bool.{cases_lt}
use Rattle.std.proofs.lemmas.List.{get_or_default}
use Rattle.rate_table.specs.declared.entry.Entry.{Entry}
use Rattle.rate_check.specs.inner.Covering.{CoversEntry}
use Rattle.rate_check.proofs.Answered.{no, granted, denied}
use Rattle.rate_check.proofs.Covered.{passes}
use Rattle.rate_check.proofs.covering.covers.Goals as goal
use Rattle.rate_check.proofs.covering.covers.Goals.{else-not-passes-via-then-not-passes+else-not-covers_entry, else-not-passes-via-else-not-passes}

pub returns-then-not-covers_entry : goal.returns-then-not-covers_entry
returns-then-not-covers_entry c = no (λ h.
    denied c.covers_entry.result c.covers_entry.ensures c.if-not-covers_entry.true (h c.loop-entry.entry-index (record { index = 0; size = 0; error = 0 }) c.loop-entry-test.true))

pub loop-entry-preserved : goal.loop-entry-preserved
loop-entry-preserved c =
    let none : Entry = record { index = 0; size = 0; error = 0 } in
    let here : CoversEntry c.args.bound.now c.args.layer.now c.args.next.now (get_or c.args.slice.now c.loop-entry.entry-index none) =
    elim c.else-not-passes.branch [
      | else-not-passes-via-then-not-passes+else-not-covers_entry w ↦ granted w.covers_entry.result w.covers_entry.ensures w.if-not-covers_entry.false
      | else-not-passes-via-else-not-passes w ↦
          passes c.args.bound.now c.args.layer.now c.args.next.now (get_or c.args.slice.now c.loop-entry.entry-index none) c.least_weight-least.result c.least_weight-least.ensures.below
          (omega (arith, w.if-not-passes.false, c.cost_of.ensures.value))
    ] in
    λ k d m. ⊎_elim (λ l. c.loop-entry.invariant k d l)
    (λ l. subst (λ x. CoversEntry c.args.bound.now c.args.layer.now c.args.next.now x)
    (get_or_default c.args.slice.now c.loop-entry.entry-index none d c.loop-entry-test.true ∙ ap (λ k. get_or c.args.slice.now k d) (omega (arith, l, m))) here)
    (cases_lt k c.loop-entry.entry-index)
