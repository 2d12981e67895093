use Rattle.std.proofs.Common.{◌-◌, ◌≤◌, ◌^◌, ℕ, List}
use Rattle.rate_table.specs.declared.entry.Entry.{Entry}
use Rattle.rate_table.specs.Table.{size_of}
use Rattle.rate_layers.specs.Multiplier.{ArePicks}
use Rattle.rate_layers.proofs.multiplier.least_multiplier.Given as goal

-- the minimisers at the high end fit, and none below the low end do
abbrev pub invariant-loop-low : goal.invariant-loop-low
invariant-loop-low l = record {
  ends : l.low ≤ l.high;
  limit : l.high ≤ 2 ^ 43;
  fits : (c : List Entry) × ArePicks l.high l.slices c × (size_of c ≤ l.room);
  least : (n : ℕ) (c : List Entry) → ArePicks n l.slices c → size_of c ≤ l.room → l.low ≤ n;
}

abbrev pub decreases-loop-low : goal.decreases-loop-low
decreases-loop-low l = l.high - l.low
