use Rattle.std.proofs.Common.{◌≡◌, ◌≤◌, ◌*◌, ◌^◌, take}
use Rattle.rate_least.specs.Pairs.{least_error}
use Rattle.rate_least.proofs.errors.errors_of.Given as goal

abbrev pub invariant-loop-slice : goal.invariant-loop-slice
invariant-loop-slice l = record {
  value : l.errors ≡ least_error (take l.slice-index l.slices);
  small : l.errors ≤ 2 ^ 43 * l.slice-index;
}
