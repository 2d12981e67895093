use Rattle.std.proofs.Common.{◌≡◌, ◌-◌, ◌*◌, ◌/◌, ◌%◌, ◌^◌, [], length, arith, sym, ap, ◌∙◌, subst}
use Rattle.std.proofs.lemmas.Nat.{one_shl}
use Rattle.pw_bits.specs.Bits.{bits_of}
use Rattle.pw_bits.specs.Reading.{unread, Takes}
use Rattle.pw_bits.proofs.BitsLemmas.{length-bits_of}
use Rattle.pw_outside.proofs.Loops.{Lowers-then}
use Rattle.pw_bits.proofs.ReadingLemmas.{Takes-byte, Takes-front, Takes-short, pushed, split_bits, front_number}
use Rattle.pw_bits.proofs.reader.BitReader.bits.Goals as goal

pub loop-count-preserved : goal.loop-count-preserved
loop-count-preserved g c =
    let i = c.loop-count.invariant in
    let byte = c.in-Ok-Some.byte in
    let given = rw c.in-Ok-Some.field-0-is at c.in-Ok-Some.ensures.bytes in
    let one = rw c.in-Ok-Some.field-0-is at c.in-Ok-Some.ensures.most in
    let p = pushed c.loop-count.count c.loop-count.all byte c.from.result i.fits (omega arith) given.0 c.from.ensures in
    record {
      kept = i.kept;
      size = omega arith;
      fits = p.0;
      taken = subst (λ k. Takes (bits_of c.self.inside.count c.self.inside.low) (g.S.ByteSource.left c.args.source.now) k (g.S.ByteSource.left c.next_byte.new.source) []) (sym p.1) (Takes-byte byte i.told given.1 i.taken);
      told = λ t. c.in-Ok-Some.ensures.told (i.told t);
      most = Lowers-then (g.S.ByteSource.most c.args.source.now) (g.S.ByteSource.most c.loop-count.source) (g.S.ByteSource.most c.next_byte.new.source) 0 1 i.most one;
      becomes = λ first h. c.in-Ok-Some.ensures.becomes first (i.becomes first h);
      cause = c.in-Ok-Some.ensures.cause.kept ∙ i.cause;
    }

pub returns-in-Ok-None-clause-end : goal.returns-in-Ok-None-clause-end
returns-in-Ok-None-clause-end g c = λ e told.
    let i = c.loop-count.invariant in
    let given = rw c.in-Ok-None.field-0-is at c.in-Ok-None.ensures.bytes in
    let s = Takes-short i.told (λ t. (given t).0) i.taken told in
    let v = ap (λ k. length (unread k (g.S.ByteSource.left c.args.source.now))) c.self.view_is in
    omega (arith, s, v, length-bits_of c.loop-count.count c.loop-count.all, c.loop-count-test.true)

pub overflow_cast-result-2 : goal.overflow_cast-result-2
overflow_cast-result-2 g c = omega (arith, (front_number c.loop-count.count c.args.n c.loop-count.all c.loop-count-test.false c.requires c.loop-count.invariant.fits).1)

pub returns-clause-fits : goal.returns-clause-fits
returns-clause-fits g c = (front_number c.loop-count.count c.args.n c.loop-count.all c.loop-count-test.false c.requires c.loop-count.invariant.fits).0

pub returns-clause-bits : goal.returns-clause-bits
returns-clause-bits g c =
    let i = c.loop-count.invariant in
    let kept = c.loop-count.count - c.args.n in
    let mask = 1 * 2 ^ kept % 2 ^ 64 in
    let all = c.loop-count.all in
    let power : mask ≡ 2 ^ kept = one_shl kept 64 (omega (arith, i.size)) in
    let parts = split_bits c.loop-count.count c.args.n kept all mask (omega (arith, c.loop-count-test.false)) power in
    subst (λ k. Takes k (g.S.ByteSource.left c.args.source.now) (bits_of kept (all % mask)) (g.S.ByteSource.left c.loop-count.source) (bits_of c.args.n (all / 2 ^ kept))) c.self.view_is
    (Takes-front (bits_of c.args.n (all / 2 ^ kept)) (bits_of kept (all % mask)) parts i.taken)
