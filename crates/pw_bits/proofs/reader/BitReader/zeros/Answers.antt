use Rattle.std.proofs.Common.{◌≡◌, ◌+◌, ◌-◌, ◌*◌, ◌%◌, ◌^◌, ◌<◌, ◌≤◌, ◌++◌, ◌∷◌, [], true, arith, ap, ◌∙◌, subst}
use Rattle.std.proofs.lemmas.Nat.{one_shl}
use Rattle.pw_bits.specs.Bits.{bits_of, zeros, bits}
use Rattle.pw_bits.specs.Reading.{Takes}
use Rattle.pw_bits.proofs.BitsLemmas.{pow_mono_at}
use Rattle.pw_outside.proofs.Loops.{Lowers-then}
use Rattle.pw_bits.proofs.ReadingLemmas.{Takes-byte, Takes-end, takes_many, takes_one, takes_kept}
use Rattle.pw_bits.proofs.reader.BitReader.zeros.Goals as goal

pub invariant_of-self : goal.invariant_of-self
invariant_of-self g c =
    let front = c.zeros_in_front-front in
    let k = c.loop-run.count - (c.args.most - c.loop-run.run) - 1 in
    let more : c.args.most - c.loop-run.run < front.result = omega (arith, c.from.ensures, c.if-from-most.true) in
    (omega (arith, c.loop-run.invariant.size, front.ensures.within), omega (arith, front.ensures.small, pow_mono_at (c.loop-run.count - front.result) k (omega arith)))

pub returns-then-from-most-clause-run : goal.returns-then-from-most-clause-run
returns-then-from-most-clause-run g c =
    let front = c.zeros_in_front-front in
    let i = c.loop-run.invariant in
    let k = c.loop-run.count - (c.args.most - c.loop-run.run) - 1 in
    subst (λ x. Takes x (g.S.ByteSource.left c.args.source.now) (bits_of k c.loop-run.low) (g.S.ByteSource.left c.loop-run.source) (zeros (c.args.most + 1))) c.self.view_is
    (takes_many c.loop-run.low c.loop-run.count c.loop-run.run (g.S.ByteSource.left c.loop-run.source) i.taken front.result c.args.most i.within (omega (arith, c.from.ensures, c.if-from-most.true)) front.ensures.within front.ensures.small)

pub returns-then-front-count-clause-run : goal.returns-then-front-count-clause-run
returns-then-front-count-clause-run g c =
    let front = c.zeros_in_front-front in
    let i = c.loop-run.invariant in
    let k = c.loop-run.count - (front.result + 1) in
    let mask = 1 * 2 ^ k % 2 ^ 8 in
    let within : c.loop-run.run + c.from-run.result ≤ c.args.most = omega (arith, i.within, c.from.ensures, c.from-run.ensures, c.if-from-most.false) in (
      within,
      subst (λ x. Takes x (g.S.ByteSource.left c.args.source.now) (bits_of k (c.loop-run.low % mask)) (g.S.ByteSource.left c.loop-run.source) (zeros (c.loop-run.run + c.from-run.result) ++ true ∷ [])) c.self.view_is
          (takes_one c.loop-run.low c.loop-run.count c.loop-run.run (g.S.ByteSource.left c.loop-run.source) i.taken front.result c.from-run.result k mask c.from-run.ensures (omega arith) (one_shl k 8 (omega (arith, i.size))) (front.ensures.one c.if-front-count.true)),
    )

pub loop-run-preserved : goal.loop-run-preserved
loop-run-preserved g c =
    let front = c.zeros_in_front-front in
    let i = c.loop-run.invariant in
    let byte = c.in-Ok-Some.byte in
    let given = rw c.in-Ok-Some.field-0-is at c.in-Ok-Some.ensures.bytes in
    let one = rw c.in-Ok-Some.field-0-is at c.in-Ok-Some.ensures.most in
    let all : front.result ≡ c.loop-run.count = omega (arith, front.ensures.within, c.if-front-count.false) in
    let kept = takes_kept c.loop-run.low c.loop-run.count c.loop-run.run (g.S.ByteSource.left c.loop-run.source) i.taken c.from-run.result (c.from-run.ensures ∙ all) (front.ensures.none all) in
    record {
      kept = i.kept;
      size = omega arith;
      fits = given.0;
      within = omega (arith, i.within, c.from.ensures, c.from-run.ensures, c.if-from-most.false);
      taken = Takes-byte byte i.told given.1 kept;
      told = λ t. c.in-Ok-Some.ensures.told (i.told t);
      lowers = Lowers-then (g.S.ByteSource.most c.args.source.now) (g.S.ByteSource.most c.loop-run.source) (g.S.ByteSource.most c.next_byte.new.source) 0 1 i.lowers one;
      becomes = λ first h. c.in-Ok-Some.ensures.becomes first (i.becomes first h);
      cause = c.in-Ok-Some.ensures.cause.kept ∙ i.cause;
    }

pub returns-in-Ok-None-clause-run : goal.returns-in-Ok-None-clause-run
returns-in-Ok-None-clause-run g c =
    let front = c.zeros_in_front-front in
    let i = c.loop-run.invariant in
    let given = rw c.in-Ok-None.field-0-is at c.in-Ok-None.ensures.bytes in
    let all : front.result ≡ c.loop-run.count = omega (arith, front.ensures.within, c.if-front-count.false) in
    let kept = takes_kept c.loop-run.low c.loop-run.count c.loop-run.run (g.S.ByteSource.left c.loop-run.source) i.taken c.from-run.result (c.from-run.ensures ∙ all) (front.ensures.none all) in
    let within : c.loop-run.run + c.from-run.result ≤ c.args.most = omega (arith, i.within, c.from.ensures, c.from-run.ensures, c.if-from-most.false) in (
      within,
      subst (λ x. Takes x (g.S.ByteSource.left c.args.source.now) [] (g.S.ByteSource.left c.next_byte.new.source) (zeros (c.loop-run.run + c.from-run.result))) c.self.view_is (Takes-end i.told given kept),
      λ t. ap bits (given (i.told t)).1,
    )
