use Rattle.std.proofs.Common.{◌≡◌, ◌++◌, [], length, refl, sym, ap, ◌∙◌, subst}
use Rattle.std.proofs.lemmas.Result.{on_ok_weaker, on_err_weaker}
use Rattle.std.specs.Io.KnownBytes.{Appends}
use Rattle.pw_outside.specs.Ports.{taken_more}
use Rattle.pw_bits.specs.Bits.{bytes, padding}
use Rattle.pw_bits.specs.Writing.{Writer, written, Writes, Begins}
use Rattle.pw_bits.proofs.WritingLemmas.{Writes-Writes, Writes-padded, Begins-first, Begins-second}
use Rattle.pr_alpha.specs.Alpha.{spelling, alpha, row_words}
use Rattle.pw_bits.proofs.Written.{padding_after, front_of, all_of}
use Rattle.pw_outside.proofs.Results.{any_err}
use Rattle.pr_alpha.proofs.CodingLemmas.{row, words_all, words_first}
use Rattle.pr_alpha.proofs.write.write_alpha.Goals as goal

pub returns-in_err-put_values-clause-err : goal.returns-in_err-put_values-clause-err
unfolding alpha
returns-in_err-put_values-clause-err g c =
    let vs = c.args.values.now in
    let n = c.args.bits in
    let all = words_first n c.greatest_value.result vs c.requires.count.0 c.greatest_value.ensures.value in
    let before = written (g.K.ByteSink.held c.args.sink.now) (g.K.ByteSink.taken c.args.sink.now) c.new-writer.result.pending in
    let none : before.pending ≡ [] = ap (λ (w : Writer). w.pending) c.new-writer.ensures in
    let w1 = written (g.K.ByteSink.held c.put_values.new.sink) (g.K.ByteSink.taken c.put_values.new.sink) c.put_values.new.writer.pending in
    any_err c.from_residual.result (front_of {before = before} {after = w1} (spelling n vs)
    (Begins-first (padding (spelling n vs)) (subst (Begins before w1) all c.in_err-put_values.ensures.err)) none refl)

pub returns-in_err-put_row-clause-err : goal.returns-in_err-put_row-clause-err
unfolding alpha
returns-in_err-put_row-clause-err g c =
    let vs = c.args.values.now in
    let n = c.args.bits in
    let t = c.put_values.new.coding in
    let first = c.in_ok-put_values.ensures.ok in
    let all : first.0 ++ row_words n t.before (row t) ≡ spelling n vs =
    sym (words_all first.1) ∙ words_first n c.greatest_value.result vs c.requires.count.0 c.greatest_value.ensures.value in
    let before = written (g.K.ByteSink.held c.args.sink.now) (g.K.ByteSink.taken c.args.sink.now) c.new-writer.result.pending in
    let none : before.pending ≡ [] = ap (λ (w : Writer). w.pending) c.new-writer.ensures in
    let w2 = written (g.K.ByteSink.held c.put_row.new.sink) (g.K.ByteSink.taken c.put_row.new.sink) c.put_row.new.writer.pending in
    any_err c.from_residual-in_err-put_row.result (front_of {before = before} {after = w2} (spelling n vs)
    (Begins-first (padding (spelling n vs)) (subst (Begins before w2) all (Begins-second first.2 c.in_err-put_row.ensures.err))) none refl)

pub returns-clause-ok : goal.returns-clause-ok
unfolding alpha
returns-clause-ok g c =
    let vs = c.args.values.now in
    let n = c.args.bits in
    let t = c.put_values.new.coding in
    let first = c.in_ok-put_values.ensures.ok in
    let all : first.0 ++ row_words n t.before (row t) ≡ spelling n vs =
    sym (words_all first.1) ∙ words_first n c.greatest_value.result vs c.requires.count.0 c.greatest_value.ensures.value in
    let before = written (g.K.ByteSink.held c.args.sink.now) (g.K.ByteSink.taken c.args.sink.now) c.new-writer.result.pending in
    let none : before.pending ≡ [] = ap (λ (w : Writer). w.pending) c.new-writer.ensures in
    let w2 = written (g.K.ByteSink.held c.put_row.new.sink) (g.K.ByteSink.taken c.put_row.new.sink) c.put_row.new.writer.pending in
    let both : Writes before w2 (spelling n vs) = subst (Writes before w2) all (Writes-Writes first.2 c.in_ok-put_row.ensures.ok) in
    let w3 = written (g.K.ByteSink.held c.pad.new.sink) (g.K.ByteSink.taken c.pad.new.sink) c.pad.new.self.pending in
    on_ok_weaker c.pad.result (λ w. all_of before w3 (spelling n vs)
    (subst (λ p. Appends (g.K.ByteSink.held c.args.sink.now) (g.K.ByteSink.held c.pad.new.sink) (bytes (p ++ spelling n vs))) none (Writes-padded both w).0)
    (subst (λ p. g.K.ByteSink.taken c.pad.new.sink ≡ taken_more (g.K.ByteSink.taken c.args.sink.now) (length (bytes (p ++ spelling n vs)))) none (Writes-padded both w).1)) c.pad.ensures.ok

pub returns-clause-err : goal.returns-clause-err
unfolding alpha
returns-clause-err g c =
    let vs = c.args.values.now in
    let n = c.args.bits in
    let t = c.put_values.new.coding in
    let first = c.in_ok-put_values.ensures.ok in
    let all : first.0 ++ row_words n t.before (row t) ≡ spelling n vs =
    sym (words_all first.1) ∙ words_first n c.greatest_value.result vs c.requires.count.0 c.greatest_value.ensures.value in
    let before = written (g.K.ByteSink.held c.args.sink.now) (g.K.ByteSink.taken c.args.sink.now) c.new-writer.result.pending in
    let none : before.pending ≡ [] = ap (λ (w : Writer). w.pending) c.new-writer.ensures in
    let w2 = written (g.K.ByteSink.held c.put_row.new.sink) (g.K.ByteSink.taken c.put_row.new.sink) c.put_row.new.writer.pending in
    let both : Writes before w2 (spelling n vs) = subst (Writes before w2) all (Writes-Writes first.2 c.in_ok-put_row.ensures.ok) in
    let w3 = written (g.K.ByteSink.held c.pad.new.sink) (g.K.ByteSink.taken c.pad.new.sink) c.pad.new.self.pending in
    on_err_weaker c.pad.result (λ b. front_of {before = before} {after = w3} (spelling n vs) (Begins-second both b) none
    (ap (λ p. spelling n vs ++ p) (padding_after both none))) c.pad.ensures.err
