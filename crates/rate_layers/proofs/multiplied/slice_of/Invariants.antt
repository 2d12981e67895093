use Rattle.std.proofs.Common.{◌≡◌, ◌-◌, ◌≤◌, get_or, map, take}
use Rattle.rate_table.specs.declared.entry.Entry.{Entry}
use Rattle.rate_table.specs.Table.{IsSliceTable}
use Rattle.rate_table.specs.Body.{last_index}
use Rattle.rate_layers.specs.inner.Multiplied.{counted}
use Rattle.rate_layers.proofs.multiplied.slice_of.Given as goal

-- the entries so far are a slice, and its last index is that of the last entry taken
abbrev pub invariant-loop-i : goal.invariant-loop-i
invariant-loop-i l = record {
  from : 1 ≤ l.i;
  counted : l.slice ≡ map (counted l.times) (take l.i l.entries);
  slice : IsSliceTable l.slice;
  last : (d : Entry) → last_index l.slice ≡ (get_or l.entries (l.i - 1) d).index;
}
