use Rattle.std.proofs.Common.{◌≡◌, ◌<◌, ℕ, get_or}
use Rattle.rate_table.specs.declared.entry.Entry.{Entry}
use Rattle.run_look.proofs.comparing.same_entries.Given as goal

abbrev pub invariant-loop-i : goal.invariant-loop-i
invariant-loop-i l = (k : ℕ) (d : Entry) → k < l.i → get_or l.some k d ≡ get_or l.others k d
