use Rattle.std.proofs.Common.{arith}
use Rattle.pw_bits.proofs.SpelledLemmas.{finish_none, finish_some}
use Rattle.pw_bits.proofs.spelled.finish.Goals as goal

pub returns-then-cursor-eq0-clause-bytes : goal.returns-then-cursor-eq0-clause-bytes
returns-then-cursor-eq0-clause-bytes c =
    let u = c.args.cursor in
    finish_none c.args.out.now u.at u.low u.count c.if-cursor-eq0.true (omega (arith, c.requires.room)) (λ i. (c.type_inv.out i).fits)

pub returns-clause-bytes : goal.returns-clause-bytes
returns-clause-bytes c =
    let u = c.args.cursor in
    let v = c.put_bits.result in
    finish_some c.args.out.now c.put_bits.new.out u.at u.low u.count v.at v.low v.count (omega (arith, c.if-cursor-eq0.false)) u.few v.few (omega (arith, c.requires.room)) (λ i. (c.type_inv.out i).fits) c.put_bits.ensures.place c.put_bits.ensures.bits
