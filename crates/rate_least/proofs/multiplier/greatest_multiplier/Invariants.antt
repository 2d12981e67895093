use Rattle.std.proofs.Common.{◌-◌, ◌≤◌, ◌^◌, ℕ}
use Rattle.rate_least.specs.Held.{BendMeets}
use Rattle.rate_least.proofs.multiplier.greatest_multiplier.Given as goal

-- the minimisers at the low end meet the cap, and none above the high end do
abbrev pub invariant-loop-low : goal.invariant-loop-low
invariant-loop-low l = record {
  ends : l.low ≤ l.high;
  limit : l.high ≤ 2 ^ 43;
  meets : BendMeets l.slices l.cap l.low;
  greatest : (n : ℕ) → n ≤ 2 ^ 43 → BendMeets l.slices l.cap n → n ≤ l.high;
}

abbrev pub decreases-loop-low : goal.decreases-loop-low
decreases-loop-low l = l.high - l.low
