use Rattle.std.proofs.Common.{arith, ◌∙◌}
use Rattle.std.proofs.lemmas.List.{length-replicate, length-set}
use Rattle.pr_pieces.specs.Shorts.{none}
use Rattle.pr_pieces.proofs.ShortLemmas.{more_levels}
use Rattle.pr_pieces.proofs.shorts.short_levels.Goals as goal

pub loop-index-init : goal.loop-index-init
loop-index-init c = record { size = length-replicate 1536 none; found = λ i h. absurd (omega arith) }

pub loop-index-preserved : goal.loop-index-preserved
loop-index-preserved c =
    let inv = c.loop-index.invariant in
    record {
      size = length-set c.loop-index.table c.loop-index.index c.short_level.result ∙ inv.size;
      found = more_levels c.loop-index.table c.loop-index.index c.short_level.result (omega (arith, inv.size, c.loop-index-test.true)) inv.found c.short_level.ensures;
    }

pub returns : goal.returns
returns c = λ i h. c.loop-index.invariant.found i (omega (arith, c.loop-index-test.false))
