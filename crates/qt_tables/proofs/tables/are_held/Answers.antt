use Rattle.std.proofs.Common.{arith, ap, ◌∙◌, ◌==◌, length}
use Rattle.qt_tables.proofs.Chunks.{held-all}
use Rattle.qt_tables.proofs.tables.are_held.Goals as goal

pub returns : goal.returns
returns c =
    ap (λ m. m == c.args.count) (c.requires.each (length c.args.runs.now) (omega arith) ∙ held-all c.args.runs.now c.args.offsets.now)
