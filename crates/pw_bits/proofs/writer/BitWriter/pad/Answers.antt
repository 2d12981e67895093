use Rattle.std.proofs.Common.{◌≡◌, ◌-◌, ◌%◌, length, arith, ap, ◌∙◌, subst}
use Rattle.std.proofs.lemmas.Result.{on_ok_weaker, on_err_weaker}
use Rattle.pw_bits.specs.Bits.{zeros}
use Rattle.pw_bits.specs.Writing.{Writes, Begins}
use Rattle.pw_bits.proofs.BitsLemmas.{bits_of-zero}
use Rattle.pw_bits.proofs.WritingLemmas.{left-padded}
use Rattle.pw_bits.proofs.writer.BitWriter.pad.Goals as goal

pub returns-clause-ok : goal.returns-clause-ok
returns-clause-ok g c =
    let count : (8 - c.pending.result) % 8 ≡ (8 - length c.args.self.now.pending % 8) % 8 = omega (arith, c.pending.ensures.count, c.pending.ensures.few) in
    let e = bits_of-zero ((8 - c.pending.result) % 8) ∙ ap zeros count in
    on_ok_weaker c.bits.result (λ w. subst (Writes _ _) e w) c.bits.ensures.ok

pub returns-clause-none : goal.returns-clause-none
returns-clause-none g c =
    let count : (8 - c.pending.result) % 8 ≡ (8 - length c.args.self.now.pending % 8) % 8 = omega (arith, c.pending.ensures.count, c.pending.ensures.few) in
    let e = bits_of-zero ((8 - c.pending.result) % 8) ∙ ap zeros count in
    on_ok_weaker c.bits.result (λ w. (subst (Writes _ _) e w).pending ∙ left-padded c.args.self.now.pending) c.bits.ensures.ok

pub returns-clause-err : goal.returns-clause-err
returns-clause-err g c =
    let count : (8 - c.pending.result) % 8 ≡ (8 - length c.args.self.now.pending % 8) % 8 = omega (arith, c.pending.ensures.count, c.pending.ensures.few) in
    let e = bits_of-zero ((8 - c.pending.result) % 8) ∙ ap zeros count in
    on_err_weaker c.bits.result (λ w. subst (Begins _ _) e w) c.bits.ensures.err
