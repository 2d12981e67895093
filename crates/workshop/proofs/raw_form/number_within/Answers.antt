use Rattle.std.proofs.Common.{◌∙◌, sym, arith}
use Rattle.pic_y4m.proofs.Numbers.{number-read, number-unread, within-inside, within-above, within-below}
use Rattle.workshop.proofs.raw_form.number_within.Goals as goal

pub returns-in-Ok-clause-value : goal.returns-in-Ok-clause-value
returns-in-Ok-clause-value c =
    sym (number-read c.args.low c.args.high c.args.bytes.now c.in-Ok.number c.in-Ok.ensures.ok.0 c.in-Ok.ensures.ok.1 ∙ within-inside c.args.low c.args.high c.in-Ok.number c.if-low-number.true c.if-number-high.true)

pub returns-in_default-clause-value : goal.returns-in_default-clause-value
returns-in_default-clause-value c =
    sym (number-read c.args.low c.args.high c.args.bytes.now c.in-Ok.number c.in-Ok.ensures.ok.0 c.in-Ok.ensures.ok.1 ∙ within-above c.args.low c.args.high c.in-Ok.number c.if-number-high.false)

pub returns-in_default-2-clause-value : goal.returns-in_default-2-clause-value
returns-in_default-2-clause-value c =
    sym (number-read c.args.low c.args.high c.args.bytes.now c.in-Ok.number c.in-Ok.ensures.ok.0 c.in-Ok.ensures.ok.1 ∙ within-below c.args.low c.args.high c.in-Ok.number c.if-low-number.false)

pub returns-in_default-3-clause-value : goal.returns-in_default-3-clause-value
returns-in_default-3-clause-value c =
    sym (number-unread c.args.low c.args.high c.args.bytes.now (omega arith) c.in_default.ensures.bad)
