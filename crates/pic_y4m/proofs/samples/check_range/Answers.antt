use Rattle.std.proofs.Common.{sym, arith}
use Rattle.pic_y4m.proofs.Planes.{range-good, range-below, range-bad}
use Rattle.pic_y4m.proofs.samples.check_range.Goals as goal

pub returns-in-None-clause-answer : goal.returns-in-None-clause-answer
returns-in-None-clause-answer c = range-good c.args.size c.args.limit c.args.samples.now c.args.place (sym c.in-None.ensures.value)

pub returns-in-None-clause-below : goal.returns-in-None-clause-below
returns-in-None-clause-below c = range-below c.args.limit c.args.samples.now (sym c.in-None.ensures.value)

pub returns-in-Some-clause-answer : goal.returns-in-Some-clause-answer
returns-in-Some-clause-answer c =
    rw c.bad.ensures (rw c.bytes.ensures.value
    (range-bad c.args.size c.args.limit c.args.samples.now c.args.place c.in-Some.k _ (sym c.in-Some.ensures.value) (omega arith)))
