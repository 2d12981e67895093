use Rattle.std.proofs.Common.{◌≡◌, ◌-◌, ◌*◌, ◌≤◌}
use Rattle.pw_bits.specs.Bits.{zeros}
use Rattle.pw_bits.specs.Places.{ahead}
use Rattle.pw_bits.proofs.places.behind_last_one.Given as goal

abbrev pub invariant-loop-last : goal.invariant-loop-last
invariant-loop-last l = record {
  within : l.last ≤ l.bytes;
  behind : ahead l.padded (8 * l.bytes) (8 * l.last) ≡ zeros (8 * l.bytes - 8 * l.last);
}

abbrev pub decreases-loop-last : goal.decreases-loop-last
decreases-loop-last l = l.last
