use Rattle.std.proofs.Common.{subst}
use Rattle.std.proofs.lemmas.Result.{on_ok_weaker, on_err_weaker}
use Rattle.pw_bits.specs.Writing.{written, Writes, Begins}
use Rattle.pw_bits.proofs.WritingLemmas.{Writes-Writes, Begins-first, Begins-second}
use Rattle.pr_alpha.specs.Alpha.{row_words, run_word, run_of}
use Rattle.pw_outside.proofs.Results.{any_err}
use Rattle.pr_alpha.proofs.write.put_row.Goals as goal

pub returns-in_err-bits-clause-err : goal.returns-in_err-bits-clause-err
unfolding row_words
returns-in_err-bits-clause-err g c =
    let before = written (g.K.ByteSink.held c.args.sink.now) (g.K.ByteSink.taken c.args.sink.now) c.args.writer.now.pending in
    let after = written (g.K.ByteSink.held c.bits.new.sink) (g.K.ByteSink.taken c.bits.new.sink) c.bits.new.self.pending in
    any_err c.from_residual.result (Begins-first (run_word (run_of c.args.row.further)) (subst (Begins before after) c.word_of_difference-difference.ensures.word c.in_err-bits.ensures.err))

pub returns-clause-ok : goal.returns-clause-ok
unfolding row_words
returns-clause-ok g c =
    let before = written (g.K.ByteSink.held c.args.sink.now) (g.K.ByteSink.taken c.args.sink.now) c.args.writer.now.pending in
    let mid = written (g.K.ByteSink.held c.bits.new.sink) (g.K.ByteSink.taken c.bits.new.sink) c.bits.new.self.pending in
    let after = written (g.K.ByteSink.held c.bits-2.new.sink) (g.K.ByteSink.taken c.bits-2.new.sink) c.bits-2.new.self.pending in
    on_ok_weaker c.bits-2.result (λ w. Writes-Writes (subst (Writes before mid) c.word_of_difference-difference.ensures.word c.in_ok-bits.ensures.ok) (subst (Writes mid after) c.word_of_run-run.ensures.word w)) c.bits-2.ensures.ok

pub returns-clause-err : goal.returns-clause-err
unfolding row_words
returns-clause-err g c =
    let before = written (g.K.ByteSink.held c.args.sink.now) (g.K.ByteSink.taken c.args.sink.now) c.args.writer.now.pending in
    let mid = written (g.K.ByteSink.held c.bits.new.sink) (g.K.ByteSink.taken c.bits.new.sink) c.bits.new.self.pending in
    let after = written (g.K.ByteSink.held c.bits-2.new.sink) (g.K.ByteSink.taken c.bits-2.new.sink) c.bits-2.new.self.pending in
    on_err_weaker c.bits-2.result (λ b. Begins-second (subst (Writes before mid) c.word_of_difference-difference.ensures.word c.in_ok-bits.ensures.ok) (subst (Begins mid after) c.word_of_run-run.ensures.word b)) c.bits-2.ensures.err
