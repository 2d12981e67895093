use Rattle.std.proofs.Common.{◌≡◌, ◌≤◌, ◌*◌, ◌^◌, List, take}
use Rattle.rate_table.specs.declared.entry.Entry.{Entry}
use Rattle.rate_table.specs.Table.{size_of, error_of}
use Rattle.rate_layers.specs.Multiplier.{ArePicks}
use Rattle.rate_layers.proofs.multiplier.sums_of.Given as goal

-- the sums of the minimisers so far
abbrev pub invariant-loop-slice : goal.invariant-loop-slice
invariant-loop-slice l = record {
  sizes : l.size ≤ 65535 * l.slice-index;
  errors : l.error ≤ 2 ^ 43 * l.slice-index;
  picks : (c : List Entry) × ArePicks l.multiplier (take l.slice-index l.slices) c × (l.size ≡ size_of c) × (l.error ≡ error_of c);
}
