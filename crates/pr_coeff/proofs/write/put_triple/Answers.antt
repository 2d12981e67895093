use Rattle.std.proofs.Common.{◌-◌, ◌++◌, refl, subst}
use mir.Val.{bool_byte}
use Rattle.std.proofs.lemmas.Result.{on_ok_weaker, on_err_weaker}
use Rattle.pw_bits.specs.Bits.{bits_of}
use Rattle.pw_bits.specs.Writing.{written, Writes, Begins}
use Rattle.pw_bits.proofs.WritingLemmas.{Writes-Writes, Begins-first, Begins-second}
use Rattle.pr_codes.specs.Words.{word}
use Rattle.pw_outside.proofs.Results.{any_err}
use Rattle.pr_coeff.proofs.CodingLemmas.{words_are}
use Rattle.pr_coeff.proofs.write.put_triple.Goals as goal

pub returns-in_err-put_code-clause-err : goal.returns-in_err-put_code-clause-err
returns-in_err-put_code-clause-err g c =
    let s = c.args.coding.now in
    let a = c.book_of_run-run.result in
    let b = c.book_of_level-level.result in
    let before = written (g.K.ByteSink.held c.args.sink.now) (g.K.ByteSink.taken c.args.sink.now) c.args.writer.now.pending in
    let after = written (g.K.ByteSink.held c.put_code.new.sink) (g.K.ByteSink.taken c.put_code.new.sink) c.put_code.new.writer.pending in
    any_err c.from_residual.result (subst (Begins before after) (words_are s.run s.magnitude s.zeros (c.args.magnitude - 1) (bool_byte c.args.negative) c.args.negative a b c.book_of_run-run.ensures.value c.book_of_level-level.ensures.value refl) (Begins-first (word b (c.args.magnitude - 1) ++ bits_of 1 (bool_byte c.args.negative)) c.in_err-put_code.ensures.err))

pub returns-in_err-put_code-2-clause-err : goal.returns-in_err-put_code-2-clause-err
returns-in_err-put_code-2-clause-err g c =
    let s = c.args.coding.now in
    let a = c.book_of_run-run.result in
    let b = c.book_of_level-level.result in
    let before = written (g.K.ByteSink.held c.args.sink.now) (g.K.ByteSink.taken c.args.sink.now) c.args.writer.now.pending in
    let after = written (g.K.ByteSink.held c.put_code-2.new.sink) (g.K.ByteSink.taken c.put_code-2.new.sink) c.put_code-2.new.writer.pending in
    any_err c.from_residual-in_err-put_code-2.result (subst (Begins before after) (words_are s.run s.magnitude s.zeros (c.args.magnitude - 1) (bool_byte c.args.negative) c.args.negative a b c.book_of_run-run.ensures.value c.book_of_level-level.ensures.value refl)
    (Begins-second c.in_ok-put_code.ensures.ok (Begins-first (bits_of 1 (bool_byte c.args.negative)) c.in_err-put_code-2.ensures.err)))

pub returns-clause-ok : goal.returns-clause-ok
returns-clause-ok g c =
    let s = c.args.coding.now in
    let a = c.book_of_run-run.result in
    let b = c.book_of_level-level.result in
    let before = written (g.K.ByteSink.held c.args.sink.now) (g.K.ByteSink.taken c.args.sink.now) c.args.writer.now.pending in
    let after = written (g.K.ByteSink.held c.bits.new.sink) (g.K.ByteSink.taken c.bits.new.sink) c.bits.new.self.pending in
    on_ok_weaker c.bits.result (λ w. subst (Writes before after) (words_are s.run s.magnitude s.zeros (c.args.magnitude - 1) (c.from.result) c.args.negative a b c.book_of_run-run.ensures.value c.book_of_level-level.ensures.value c.from.ensures) (Writes-Writes c.in_ok-put_code.ensures.ok (Writes-Writes c.in_ok-put_code-2.ensures.ok w))) c.bits.ensures.ok

pub returns-clause-err : goal.returns-clause-err
returns-clause-err g c =
    let s = c.args.coding.now in
    let a = c.book_of_run-run.result in
    let b = c.book_of_level-level.result in
    let before = written (g.K.ByteSink.held c.args.sink.now) (g.K.ByteSink.taken c.args.sink.now) c.args.writer.now.pending in
    let after = written (g.K.ByteSink.held c.bits.new.sink) (g.K.ByteSink.taken c.bits.new.sink) c.bits.new.self.pending in
    on_err_weaker c.bits.result (λ w. subst (Begins before after) (words_are s.run s.magnitude s.zeros (c.args.magnitude - 1) (c.from.result) c.args.negative a b c.book_of_run-run.ensures.value c.book_of_level-level.ensures.value c.from.ensures) (Begins-second c.in_ok-put_code.ensures.ok (Begins-second c.in_ok-put_code-2.ensures.ok w))) c.bits.ensures.err
