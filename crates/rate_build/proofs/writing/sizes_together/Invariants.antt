use Rattle.std.proofs.Common.{◌≡◌, ◌*◌, ◌≤◌, sum, take}
use Rattle.rate_build.specs.Chosen.{sizes_in}
use Rattle.rate_build.proofs.writing.sizes_together.Given as goal

abbrev pub invariant-loop-i : goal.invariant-loop-i
invariant-loop-i l = record {
  value : l.size ≡ sum (take l.i (sizes_in l.tables l.choice));
  short : l.size ≤ 65535 * l.i;
}
