use Rattle.std.proofs.Common.{arith, ap, ◌∙◌, ◌==◌, length, sum_by}
use Rattle.std.proofs.lemmas.List.{take_all}
use Rattle.qt_tables.specs.declared.runs.TimeRun.{TimeRun}
use Rattle.qt_tables.proofs.tables.are_timed.Goals as goal

pub returns : goal.returns
returns c =
    ap (λ m. m == c.args.count) (c.requires.each (length c.args.times.now) (omega arith) ∙ ap (sum_by (λ (r : TimeRun). r.count)) (take_all (length c.args.times.now) c.args.times.now (omega arith)))
