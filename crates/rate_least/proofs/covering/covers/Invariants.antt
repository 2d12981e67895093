use Rattle.std.proofs.Common.{ℕ, ◌<◌, get_or}
use Rattle.rate_table.specs.declared.entry.Entry.{Entry}
use Rattle.rate_least.specs.inner.Covering.{CoversEntry}
use Rattle.rate_least.proofs.covering.covers.Given as goal

abbrev pub invariant-loop-entry : goal.invariant-loop-entry
invariant-loop-entry l = (k : ℕ) (d : Entry) → k < l.entry-index → CoversEntry l.bound l.layer l.next (get_or l.slice k d)
