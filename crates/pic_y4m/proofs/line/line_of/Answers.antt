use Rattle.std.proofs.Common.{arith, sym, length}
use Rattle.std.proofs.lemmas.Bool.{eqb-true, eqb-false}
use Rattle.pic_y4m.proofs.Lines.{line-ends, line-none, line-cut, line-long}
use Rattle.pic_y4m.proofs.line.line_of.Goals as goal

pub returns-in-Some-eq10-clause-bytes : goal.returns-in-Some-eq10-clause-bytes
returns-in-Some-eq10-clause-bytes g c = record {
  told = λ h. c.in_ok-next_byte.ensures.bytes.told (c.loop.invariant.told h);
  answer = λ h. line-ends c.args.most c.args.long_at c.args.place.now _ c.args.long _ c.loop.bytes.items _ _ c.in_ok-next_byte.field-0 c.in-Some-eq10.field-0 (omega arith) c.loop.invariant.none (c.loop.invariant.bytes h) c.in-Some-eq10.is c.in-Some-eq10.field-0-test (c.in_ok-next_byte.ensures.bytes.next (c.loop.invariant.told h)) (omega arith);
}

pub returns-in-None-clause-bytes : goal.returns-in-None-clause-bytes
returns-in-None-clause-bytes g c = record {
  told = λ h. c.in_ok-next_byte.ensures.bytes.told (c.loop.invariant.told h);
  answer = λ h. line-none c.args.most c.args.long_at c.args.place.now c.loop.place c.args.long _ c.loop.bytes.items _ _ c.in_ok-next_byte.field-0 (eqb-true _ 0 (sym c.if-is_empty.ensures)) (c.loop.invariant.bytes h) c.in-None.is (c.in_ok-next_byte.ensures.bytes.next (c.loop.invariant.told h)) c.loop.invariant.place;
}

pub returns-in-None-2-clause-bytes : goal.returns-in-None-2-clause-bytes
returns-in-None-2-clause-bytes g c =
    let some = eqb-false (length c.loop.bytes.items) 0 (sym c.if-is_empty.ensures) in
    rw c.bad.ensures (record {
      told = λ h. tt;
      answer = λ h. line-cut c.args.most c.args.long_at c.args.place.now _ c.args.long _ c.loop.bytes.items _ _ c.in_ok-next_byte.field-0 (omega arith) (omega arith) c.loop.invariant.none (c.loop.invariant.bytes h) c.in-None-2.is (c.in_ok-next_byte.ensures.bytes.next (c.loop.invariant.told h)) (omega arith);
    })

pub returns-clause-bytes : goal.returns-clause-bytes
returns-clause-bytes g c = rw c.bad-2.ensures (record {
  told = λ h. tt;
  answer = λ h. line-long c.args.most c.args.long_at c.args.place.now c.args.long _ c.loop.bytes.items _ (omega arith) c.requires.some c.loop.invariant.none (c.loop.invariant.bytes h);
})
