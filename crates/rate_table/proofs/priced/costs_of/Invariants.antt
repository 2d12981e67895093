use Rattle.std.proofs.Common.{◌≡◌, ◌≤◌, ◌*◌, ◌^◌, take}
use Rattle.rate_table.specs.Pairs.{rest}
use Rattle.rate_table.proofs.priced.costs_of.Given as goal

abbrev pub invariant-loop-slice : goal.invariant-loop-slice
invariant-loop-slice l = record {
  value : l.costs ≡ rest l.multiplier (take l.slice-index l.slices);
  small : l.costs ≤ 2 ^ 81 * l.slice-index;
}
