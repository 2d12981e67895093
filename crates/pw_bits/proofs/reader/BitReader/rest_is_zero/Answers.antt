use Rattle.std.proofs.Common.{◌≡◌, ◌+◌, ◌-◌, ◌*◌, ◌%◌, ◌^◌, ◌++◌, ◌∷◌, [], true, refl, arith, ap, ◌∙◌, subst}
use Rattle.std.proofs.lemmas.Nat.{one_shl}
use Rattle.pw_bits.specs.Bits.{bits_of, zeros, bits}
use Rattle.pw_bits.specs.Reading.{Takes}
use Rattle.pw_outside.proofs.Loops.{Lowers-then}
use Rattle.pw_bits.proofs.ReadingLemmas.{Takes-byte, Takes-end, takes_one, takes_kept, told-bound, bound-lt}
use Rattle.pw_bits.proofs.reader.BitReader.rest_is_zero.Goals as goal

pub returns-then-front-count-clause-rest : goal.returns-then-front-count-clause-rest
returns-then-front-count-clause-rest g c =
    let front = c.zeros_in_front-front in
    let i = c.loop-count.invariant in
    let run = i.taken.run in
    let k = c.loop-count.count - front.result - 1 in
    let mask = 1 * 2 ^ k % 2 ^ 8 in (
      run + front.result,
      subst (λ x. Takes x (g.S.ByteSource.left c.args.source.now) (bits_of k (c.loop-count.low % mask)) (g.S.ByteSource.left c.loop-count.source) (zeros (run + front.result) ++ true ∷ [])) c.self.view_is
          (takes_one c.loop-count.low c.loop-count.count run (g.S.ByteSource.left c.loop-count.source) i.taken.taken front.result front.result k mask refl refl (one_shl k 8 (omega (arith, i.size))) (front.ensures.one c.if-front-count.true)),
    )

pub loop-count-preserved : goal.loop-count-preserved
loop-count-preserved g c =
    let front = c.zeros_in_front-front in
    let i = c.loop-count.invariant in
    let run = i.taken.run in
    let byte = c.in-Ok-Some.byte in
    let given = rw c.in-Ok-Some.field-0-is at c.in-Ok-Some.ensures.bytes in
    let one = rw c.in-Ok-Some.field-0-is at c.in-Ok-Some.ensures.most in
    let all : front.result ≡ c.loop-count.count = omega (arith, front.ensures.within, c.if-front-count.false) in
    let kept = takes_kept c.loop-count.low c.loop-count.count run (g.S.ByteSource.left c.loop-count.source) i.taken.taken front.result all (front.ensures.none all) in
    record {
      kept = i.kept;
      size = omega arith;
      fits = given.0;
      taken = record { run = run + front.result; taken = Takes-byte byte i.told given.1 kept };
      bound = told-bound (g.S.ByteSource.most c.loop-count.source) (g.S.ByteSource.most c.next_byte.new.source) 1 one i.bound;
      told = λ t. c.in-Ok-Some.ensures.told (i.told t);
      lowers = Lowers-then (g.S.ByteSource.most c.args.source.now) (g.S.ByteSource.most c.loop-count.source) (g.S.ByteSource.most c.next_byte.new.source) 0 1 i.lowers one;
      becomes = λ first h. c.in-Ok-Some.ensures.becomes first (i.becomes first h);
      cause = c.in-Ok-Some.ensures.cause.kept ∙ i.cause;
    }

pub loop-count-smaller : goal.loop-count-smaller
loop-count-smaller g c =
    let one = rw c.in-Ok-Some.field-0-is at c.in-Ok-Some.ensures.most in
    bound-lt (g.S.ByteSource.most c.loop-count.source) (g.S.ByteSource.most c.next_byte.new.source) one c.loop-count.invariant.bound

pub returns-in-Ok-None-clause-rest : goal.returns-in-Ok-None-clause-rest
returns-in-Ok-None-clause-rest g c =
    let front = c.zeros_in_front-front in
    let i = c.loop-count.invariant in
    let run = i.taken.run in
    let given = rw c.in-Ok-None.field-0-is at c.in-Ok-None.ensures.bytes in
    let all : front.result ≡ c.loop-count.count = omega (arith, front.ensures.within, c.if-front-count.false) in
    let kept = takes_kept c.loop-count.low c.loop-count.count run (g.S.ByteSource.left c.loop-count.source) i.taken.taken front.result all (front.ensures.none all) in (
      run + front.result,
      subst (λ x. Takes x (g.S.ByteSource.left c.args.source.now) [] (g.S.ByteSource.left c.next_byte.new.source) (zeros (run + front.result))) c.self.view_is (Takes-end i.told given kept),
      λ t. ap bits (given (i.told t)).1,
    )
