use Rattle.std.proofs.Common.{◌≡◌, ◌<◌, ℕ, [], get_or}
use Rattle.rate_build.specs.Measures.{quantised_block}
use Rattle.run_look.proofs.coded.is_part_at.Given as goal

abbrev pub invariant-loop-i : goal.invariant-loop-i
invariant-loop-i l = (k : ℕ) → k < l.i → get_or l.coded k [] ≡ quantised_block l.multipliers (get_or l.blocks k [])
