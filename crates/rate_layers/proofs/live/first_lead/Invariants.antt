use Rattle.std.proofs.Common.{ℕ, ◌<◌, get_or}
use Rattle.std.specs.List.{Contains}
use Rattle.rate_table.specs.declared.entry.Entry.{Entry}
use Rattle.rate_table.specs.Pairs.{joined}
use Rattle.rate_layers.specs.inner.Live.{marked}
use Rattle.rate_layers.proofs.live.first_lead.Given as goal

-- the entries before lead to none of the marked pairs
abbrev pub invariant-loop-x : goal.invariant-loop-x
invariant-loop-x l = (i : ℕ) → i < l.x-index → (d : Entry) → Contains (marked l.marks l.next) (joined l.p (get_or l.slice i d)) → ⊥
