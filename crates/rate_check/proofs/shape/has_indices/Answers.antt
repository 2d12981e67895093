use Rattle.std.proofs.Common.{subst, arith}
use Rattle.std.proofs.Math.Seq.{drop-cons}
use Rattle.rate_table.specs.declared.entry.Entry.{Entry}
use Rattle.rate_cert.specs.Records.{HasIndices}
use Rattle.rate_check.proofs.Answered.{no}
use Rattle.rate_check.proofs.shape.has_indices.Goals as goal

pub returns-then-from-next : goal.returns-then-from-next
returns-then-from-next c = no (λ h.
    let none : Entry = record { index = 0; size = 0; error = 0 } in
    let r = c.loop-entry.invariant.rest.0 h in
    let s = subst (λ l. HasIndices c.loop-entry.next c.args.hi l) (drop-cons c.args.entries.now c.loop-entry.entry-index none c.loop-entry-test.true) r in
    c.if-from-next.true (omega (arith, c.from.ensures, s.0)))
