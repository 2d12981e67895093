use Rattle.std.proofs.Common.{arith, ◌<◌, ◌+◌, length}
use Rattle.qt_tables.specs.declared.runs.TimeRun.{TimeRun}
use Rattle.qt_tables.proofs.Places.{duration-at}
use Rattle.qt_tables.proofs.finding.duration_of.Goals as goal

abbrev none : TimeRun
none = record { count = 0; duration = 0 }

pub returns : goal.returns
returns c =
    let k = c.last_begun.result in
    let within : k < length c.args.times.now = omega (arith, c.last_begun.ensures.in_range, c.requires.sums.count) in
    let here = c.requires.sums.each k (omega arith) in
    let next = c.requires.sums.each (k + 1) (omega arith) in
    duration-at c.args.times.now k c.args.i none within (omega (arith, here, c.last_begun.ensures.begun)) (omega (arith, next, c.last_begun.ensures.next))
