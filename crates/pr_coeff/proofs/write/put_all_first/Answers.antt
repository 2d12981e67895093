use Rattle.std.proofs.Common.{◌++◌, [], pos, drop, get_or, false, sym, subst}
use Rattle.std.proofs.lemmas.Result.{on_ok_weaker, on_err_weaker}
use Rattle.pw_bits.specs.Writing.{written, Writes, Begins}
use Rattle.pw_bits.proofs.WritingLemmas.{Writes-short, Writes-Writes, Begins-first, Begins-second}
use mir.Val.{to_z, of_z}
use mir.Syntax.{w16}
use Rattle.pr_codes.specs.Words.{word, book}
use Rattle.pr_coeff.specs.Component.{AllSmall, column, folded, dc_words}
use Rattle.pw_outside.proofs.Results.{any_err}
use Rattle.pr_coeff.proofs.CodingLemmas.{all_first, column_drop, kept_value, small_at}
use Rattle.pr_coeff.proofs.write.put_all_first.Goals as goal

pub returns-in_err-put_first-clause-err : goal.returns-in_err-put_first-clause-err
returns-in_err-put_first-clause-err g c =
    let v = get_or (get_or c.args.blocks.now 0 []) 0 (pos 0) in
    let k = kept_value v (small_at c.args.blocks.now 0 0 c.requires.some c.requires.small) in
    let before = written (g.K.ByteSink.held c.args.sink.now) (g.K.ByteSink.taken c.args.sink.now) c.args.writer.now.pending in
    let after = written (g.K.ByteSink.held c.put_first.new.sink) (g.K.ByteSink.taken c.put_first.new.sink) c.put_first.new.writer.pending in
    any_err c.from_residual.result (subst (Begins before after) (all_first c.args.blocks.now c.requires.some)
    (Begins-first (dc_words v false 5 (column (drop 1 c.args.blocks.now) 0)) (subst (λ x. Begins before after (word (book 0 5 6) (folded x))) k c.in_err-put_first.ensures.err)))

pub put_differences-requires-clause-kept : goal.put_differences-requires-clause-kept
put_differences-requires-clause-kept g c = Writes-short c.in_ok-put_first.ensures.ok

pub returns-clause-ok : goal.returns-clause-ok
returns-clause-ok g c =
    let v = get_or (get_or c.args.blocks.now 0 []) 0 (pos 0) in
    let k = kept_value v (small_at c.args.blocks.now 0 0 c.requires.some c.requires.small) in
    let before = written (g.K.ByteSink.held c.args.sink.now) (g.K.ByteSink.taken c.args.sink.now) c.args.writer.now.pending in
    let mid = written (g.K.ByteSink.held c.put_first.new.sink) (g.K.ByteSink.taken c.put_first.new.sink) c.put_first.new.writer.pending in
    let after = written (g.K.ByteSink.held c.put_differences.new.sink) (g.K.ByteSink.taken c.put_differences.new.sink) c.put_differences.new.writer.pending in
    on_ok_weaker c.put_differences.result (λ w. subst (Writes before after) (all_first c.args.blocks.now c.requires.some)
    (subst (λ x. Writes before after (word (book 0 5 6) (folded x) ++ dc_words x false 5 (column (drop 1 c.args.blocks.now) 0))) k (Writes-Writes c.in_ok-put_first.ensures.ok (subst (λ l. Writes mid after (dc_words (to_z w16 (of_z w16 v)) false 5 (column l 0))) c.behind_first.ensures w)))) c.put_differences.ensures.ok

pub returns-clause-err : goal.returns-clause-err
returns-clause-err g c =
    let v = get_or (get_or c.args.blocks.now 0 []) 0 (pos 0) in
    let k = kept_value v (small_at c.args.blocks.now 0 0 c.requires.some c.requires.small) in
    let before = written (g.K.ByteSink.held c.args.sink.now) (g.K.ByteSink.taken c.args.sink.now) c.args.writer.now.pending in
    let mid = written (g.K.ByteSink.held c.put_first.new.sink) (g.K.ByteSink.taken c.put_first.new.sink) c.put_first.new.writer.pending in
    let after = written (g.K.ByteSink.held c.put_differences.new.sink) (g.K.ByteSink.taken c.put_differences.new.sink) c.put_differences.new.writer.pending in
    on_err_weaker c.put_differences.result (λ w. subst (Begins before after) (all_first c.args.blocks.now c.requires.some)
    (subst (λ x. Begins before after (word (book 0 5 6) (folded x) ++ dc_words x false 5 (column (drop 1 c.args.blocks.now) 0))) k (Begins-second c.in_ok-put_first.ensures.ok (subst (λ l. Begins mid after (dc_words (to_z w16 (of_z w16 v)) false 5 (column l 0))) c.behind_first.ensures w)))) c.put_differences.ensures.err

pub put_differences-requires-clause-small : goal.put_differences-requires-clause-small
put_differences-requires-clause-small g c = subst (λ l. AllSmall (column l 0)) (sym c.behind_first.ensures) (column_drop c.args.blocks.now 0 c.requires.small)
