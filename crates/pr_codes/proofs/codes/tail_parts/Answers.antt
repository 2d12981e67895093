use Rattle.pr_codes.proofs.WordsLemmas.{plain, machine_tail, machine_tail_small, machine_first, machine_first_small}
use Rattle.pr_codes.proofs.codes.tail_parts.Goals as goal

pub overflow_sub-result : goal.overflow_sub-result
overflow_sub-result c = (machine_first c.args.book c.args.zeros c.from-last.result (plain c.args.book c.requires.book) c.from-last.ensures c.if-zeros-last.false c.requires.few).0

pub returns-then-zeros-last-clause-size : goal.returns-then-zeros-last-clause-size
returns-then-zeros-last-clause-size c = machine_tail_small c.args.book c.args.zeros c.from-last.result (plain c.args.book c.requires.book) c.from-last.ensures c.if-zeros-last.true

pub returns-then-zeros-last-clause-least : goal.returns-then-zeros-last-clause-least
returns-then-zeros-last-clause-least c = machine_first_small c.args.book c.args.zeros c.from-last.result (plain c.args.book c.requires.book) c.from-last.ensures c.if-zeros-last.true

pub returns-else-zeros-last-clause-size : goal.returns-else-zeros-last-clause-size
returns-else-zeros-last-clause-size c = machine_tail c.args.book c.args.zeros c.from-last.result (plain c.args.book c.requires.book) c.from-last.ensures c.if-zeros-last.false c.requires.few

pub returns-else-zeros-last-clause-least : goal.returns-else-zeros-last-clause-least
returns-else-zeros-last-clause-least c =
    let m = machine_first c.args.book c.args.zeros c.from-last.result (plain c.args.book c.requires.book) c.from-last.ensures c.if-zeros-last.false c.requires.few in
    (m.1, m.2)
