use Rattle.std.proofs.Common.{◌≡◌, ℕ, ◌<◌, get_or, []}
use Rattle.pr_coeff.proofs.SetLemmas.{zero_block}
use Rattle.pr_coeff.proofs.component.clear.Given as goal

abbrev pub invariant-loop-block : goal.invariant-loop-block
invariant-loop-block l = (k : ℕ) → k < l.block-index → get_or l.blocks k [] ≡ zero_block
