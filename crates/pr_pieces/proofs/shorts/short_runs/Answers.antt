use Rattle.std.proofs.Common.{arith, ◌∙◌}
use Rattle.std.proofs.lemmas.List.{length-replicate, length-set}
use Rattle.pr_pieces.specs.Shorts.{none}
use Rattle.pr_pieces.proofs.ShortLemmas.{more_runs}
use Rattle.pr_pieces.proofs.shorts.short_runs.Goals as goal

pub loop-index-init : goal.loop-index-init
loop-index-init c = record { size = length-replicate 1536 none; found = λ i h. absurd (omega arith) }

pub loop-index-preserved : goal.loop-index-preserved
loop-index-preserved c =
    let inv = c.loop-index.invariant in
    record {
      size = length-set c.loop-index.table c.loop-index.index c.short_run.result ∙ inv.size;
      found = more_runs c.loop-index.table c.loop-index.index c.short_run.result (omega (arith, inv.size, c.loop-index-test.true)) inv.found c.short_run.ensures;
    }

pub returns : goal.returns
returns c = λ i h. c.loop-index.invariant.found i (omega (arith, c.loop-index-test.false))
