use Rattle.std.proofs.Common.{◌+◌, Result, Ok, Err, OnErr, arith, sym, ◌∙◌, subst}
use Rattle.std.proofs.lemmas.Result.{on_ok_weaker, on_err_weaker}
use Rattle.pw_bits.specs.Bits.{bits_of, zeros}
use Rattle.pw_bits.specs.Writing.{written, Writes, Begins}
use Rattle.pw_bits.proofs.BitsLemmas.{bits_of_small, bits_of-zero, pow_mono_at}
use Rattle.pw_bits.proofs.WritingLemmas.{Writes-Writes, Begins-first, Begins-second}
use Rattle.pr_codes.proofs.codes.put_code.Goals as goal

pub bits-requires-clause-fits : goal.bits-requires-clause-fits
bits-requires-clause-fits g c =
    let p = c.word_parts-parts.result in
    omega (arith, c.word_parts-parts.ensures.fits, pow_mono_at p.size (p.zeros + p.size) (omega arith))

pub returns-then-parts-le32-clause-ok : goal.returns-then-parts-le32-clause-ok
returns-then-parts-le32-clause-ok g c =
    let p = c.word_parts-parts.result in
    let e = bits_of_small p.zeros p.size p.number c.word_parts-parts.ensures.fits ∙ sym c.word_parts-parts.ensures.word in
    on_ok_weaker c.bits.result (λ w. subst (Writes _ _) e w) c.bits.ensures.ok

pub returns-then-parts-le32-clause-err : goal.returns-then-parts-le32-clause-err
returns-then-parts-le32-clause-err g c =
    let p = c.word_parts-parts.result in
    let e = bits_of_small p.zeros p.size p.number c.word_parts-parts.ensures.fits ∙ sym c.word_parts-parts.ensures.word in
    on_err_weaker c.bits.result (λ w. subst (Begins _ _) e w) c.bits.ensures.err

any_err : {T E : Type 0} {P : Type 0} (r : Result T E) → P → OnErr r P
any_err (Ok x) p = tt
any_err (Err e) p = p

pub returns-in_err-bits-clause-err : goal.returns-in_err-bits-clause-err
returns-in_err-bits-clause-err g c =
    let p = c.word_parts-parts.result in
    let before = written (g.K.ByteSink.held c.args.sink.now) (g.K.ByteSink.taken c.args.sink.now) c.args.writer.now.pending in
    let after = written (g.K.ByteSink.held c.bits-2.new.sink) (g.K.ByteSink.taken c.bits-2.new.sink) c.bits-2.new.self.pending in
    let first : Begins before after (zeros p.zeros) = subst (Begins before after) (bits_of-zero p.zeros) c.in_err-bits.ensures.err in
    any_err c.from_residual.result (subst (Begins before after) (sym c.word_parts-parts.ensures.word) (Begins-first (bits_of p.size p.number) first))

pub returns-clause-ok : goal.returns-clause-ok
returns-clause-ok g c =
    let p = c.word_parts-parts.result in
    let before = written (g.K.ByteSink.held c.args.sink.now) (g.K.ByteSink.taken c.args.sink.now) c.args.writer.now.pending in
    let mid = written (g.K.ByteSink.held c.bits-2.new.sink) (g.K.ByteSink.taken c.bits-2.new.sink) c.bits-2.new.self.pending in
    let after = written (g.K.ByteSink.held c.bits-3.new.sink) (g.K.ByteSink.taken c.bits-3.new.sink) c.bits-3.new.self.pending in
    let first : Writes before mid (zeros p.zeros) = subst (Writes before mid) (bits_of-zero p.zeros) c.in_ok-bits.ensures.ok in
    on_ok_weaker c.bits-3.result (λ w. subst (Writes before after) (sym c.word_parts-parts.ensures.word) (Writes-Writes first w)) c.bits-3.ensures.ok

pub returns-clause-err : goal.returns-clause-err
returns-clause-err g c =
    let p = c.word_parts-parts.result in
    let before = written (g.K.ByteSink.held c.args.sink.now) (g.K.ByteSink.taken c.args.sink.now) c.args.writer.now.pending in
    let mid = written (g.K.ByteSink.held c.bits-2.new.sink) (g.K.ByteSink.taken c.bits-2.new.sink) c.bits-2.new.self.pending in
    let after = written (g.K.ByteSink.held c.bits-3.new.sink) (g.K.ByteSink.taken c.bits-3.new.sink) c.bits-3.new.self.pending in
    let first : Writes before mid (zeros p.zeros) = subst (Writes before mid) (bits_of-zero p.zeros) c.in_ok-bits.ensures.ok in
    on_err_weaker c.bits-3.result (λ w. subst (Begins before after) (sym c.word_parts-parts.ensures.word) (Begins-second first w)) c.bits-3.ensures.err
