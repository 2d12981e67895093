use Rattle.std.proofs.Common.{◌≡◌, ◌*◌, length, replicate, ap, sym, ◌∙◌, subst, arith, pos}
use Rattle.pr_coeff.specs.Component.{AreBlocks, places, listed}
use Rattle.pr_coeff.proofs.WholeLemmas.{scan_of}
use Rattle.pr_coeff.proofs.SetLemmas.{zero_block, all_same, zero_blocks, listed_zeros}
use Rattle.pr_coeff.proofs.component.clear.Goals as goal

pub returns-clause-blocks : goal.returns-clause-blocks
returns-clause-blocks c =
    let blocks = c.loop-block.blocks in
    let same : blocks ≡ replicate (length blocks) zero_block = all_same zero_block blocks (λ k h. c.loop-block.invariant k (omega arith)) in
    subst AreBlocks (sym same) (zero_blocks (length blocks))

pub returns-clause-zeros : goal.returns-clause-zeros
returns-clause-zeros c = λ scan.
    let blocks = c.loop-block.blocks in
    let same : blocks ≡ replicate (length blocks) zero_block = all_same zero_block blocks (λ k h. c.loop-block.invariant k (omega arith)) in
    ap (listed (places scan)) same ∙ listed_zeros (places scan) (length blocks) ∙ ap (λ n. replicate (n * length blocks) (pos 0)) (scan_of scan).size
