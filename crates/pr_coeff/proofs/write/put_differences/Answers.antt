use Rattle.std.proofs.Common.{◌≡◌, ◌+◌, ◌≤◌, ◌++◌, [], pos, nat_abs, take, drop, get_or, length, false, arith, refl, sym, ap, ◌∙◌, subst}
use mir.Val.{to_z, of_z}
use mir.Syntax.{w16}
use Rattle.std.proofs.lemmas.List.{take_all}
use Rattle.pw_bits.specs.Writing.{written, Writes, Begins}
use Rattle.pw_bits.proofs.WritingLemmas.{Writes-nil, Writes-Writes}
use Rattle.pr_coeff.specs.Component.{column, dc_words, dc_book, folded, turned, is_negative}
use Rattle.std.proofs.Common.{◌-ℤ◌}
use Rattle.pr_codes.specs.Words.{word}
use Rattle.pr_coeff.specs.inner.Writing.{CodesDc}
use Rattle.pr_coeff.specs.declared.write.Differences.{Differences}
use Rattle.pr_coeff.proofs.WovenLemmas.{length-column}
use Rattle.pw_outside.proofs.Results.{any_err}
use Rattle.pr_coeff.proofs.CodingLemmas.{CodesDc-nil, CodesDc-more, CodesDc-all, cut_differences, column_more, column_cut, kept_value, small_at}
use Rattle.pr_coeff.proofs.write.put_differences.Goals as goal

pub loop-block-init : goal.loop-block-init
loop-block-init g c =
    let s : Differences = record { last = to_z w16 (of_z w16 c.args.first); negative = false; code = 5 } in
    let start : c.behind-differences.result ≡ s = c.behind-differences.ensures in
    let small = subst (λ x. nat_abs x ≤ 32767) (sym (kept_value c.args.first c.requires.first)) c.requires.first in
    record {
      words = [];
      codes = subst (λ d. CodesDc s d [] []) (sym start) (CodesDc-nil s);
      small = subst (λ (d : Differences). nat_abs d.last ≤ 32767) (sym start) small;
      writes = Writes-nil (written (g.K.ByteSink.held c.args.sink.now) (g.K.ByteSink.taken c.args.sink.now) c.args.writer.now.pending) c.requires.kept (g.met.K.ByteSink.counts c.args.sink.now).1;
      usable = c.requires.usable;
      settled = omega arith;
      kept = refl;
    }

pub put_difference-requires-clause-small : goal.put_difference-requires-clause-small
put_difference-requires-clause-small g c =
    let v = get_or (get_or c.args.blocks.now c.loop-block.block-index []) 0 (pos 0) in
    let h = small_at c.args.blocks.now 0 c.loop-block.block-index c.loop-block-test.true c.requires.small in
    subst (λ x. nat_abs x ≤ 32767) (sym (kept_value v h)) h

pub returns-in_err-put_difference-clause-err : goal.returns-in_err-put_difference-clause-err
returns-in_err-put_difference-clause-err g c =
    let t = c.loop-block.differences in
    let i = c.loop-block.block-index in
    let col = column c.args.blocks.now 0 in
    let v = get_or (get_or c.args.blocks.now i []) 0 (pos 0) in
    let before = written (g.K.ByteSink.held c.args.sink.now) (g.K.ByteSink.taken c.args.sink.now) c.args.writer.now.pending in
    let mid = written (g.K.ByteSink.held c.loop-block.sink) (g.K.ByteSink.taken c.loop-block.sink) c.loop-block.writer.pending in
    let after = written (g.K.ByteSink.held c.put_difference.new.sink) (g.K.ByteSink.taken c.put_difference.new.sink) c.put_difference.new.writer.pending in
    let first = kept_value c.args.first c.requires.first in
    any_err c.from_residual.result (subst (λ x. Begins before after (dc_words x false 5 col)) first (
    subst (λ l. Begins before after (dc_words (to_z w16 (of_z w16 c.args.first)) false 5 l)) (column_cut c.args.blocks.now 0 i c.loop-block-test.true)
    (cut_differences v (drop (i + 1) col) c.loop-block.invariant.codes c.loop-block.invariant.writes
    (subst (λ x. Begins mid after (word (dc_book t.code) (folded (turned t.negative (x -ℤ t.last)))))
    (kept_value v (small_at c.args.blocks.now 0 i c.loop-block-test.true c.requires.small)) c.in_err-put_difference.ensures.err))))

pub loop-block-preserved : goal.loop-block-preserved
loop-block-preserved g c =
    let i = c.loop-block.block-index in
    let s : Differences = record { last = to_z w16 (of_z w16 c.args.first); negative = false; code = 5 } in
    let t = c.loop-block.differences in
    let u = c.put_difference.new.differences in
    let col = column c.args.blocks.now 0 in
    let v = get_or (get_or c.args.blocks.now i []) 0 (pos 0) in
    let h = small_at c.args.blocks.now 0 i c.loop-block-test.true c.requires.small in
    let k = kept_value v h in
    let mid = written (g.K.ByteSink.held c.loop-block.sink) (g.K.ByteSink.taken c.loop-block.sink) c.loop-block.writer.pending in
    let after = written (g.K.ByteSink.held c.put_difference.new.sink) (g.K.ByteSink.taken c.put_difference.new.sink) c.put_difference.new.writer.pending in
    let state : u ≡ record { last = v; negative = is_negative (v -ℤ t.last); code = folded (turned t.negative (v -ℤ t.last)) } =
    c.put_difference.ensures.state ∙ ap (λ x. (let d : Differences = record { last = x; negative = is_negative (x -ℤ t.last); code = folded (turned t.negative (x -ℤ t.last)) } in d)) k in
    let w = word (dc_book t.code) (folded (turned t.negative (v -ℤ t.last))) in
    let one : Writes mid after w = subst (λ x. Writes mid after (word (dc_book t.code) (folded (turned t.negative (x -ℤ t.last))))) k c.in_ok-put_difference.ensures.ok in
    record {
      words = c.loop-block.invariant.words ++ w;
      codes = subst (λ l. CodesDc s u l (c.loop-block.invariant.words ++ w)) (sym (column_more c.args.blocks.now 0 i c.loop-block-test.true))
          (CodesDc-more u v c.loop-block.invariant.codes state);
      small = subst (λ (d : Differences). nat_abs d.last ≤ 32767) (sym state) h;
      writes = Writes-Writes c.loop-block.invariant.writes one;
      usable = c.in_ok-put_difference.ensures.spoiled;
      settled = omega (arith, c.put_difference.ensures.settled, c.loop-block.invariant.settled);
      kept = c.in_ok-put_difference.ensures.cause.kept ∙ c.loop-block.invariant.kept;
    }

pub returns-clause-ok : goal.returns-clause-ok
returns-clause-ok g c =
    let before = written (g.K.ByteSink.held c.args.sink.now) (g.K.ByteSink.taken c.args.sink.now) c.args.writer.now.pending in
    let after = written (g.K.ByteSink.held c.loop-block.sink) (g.K.ByteSink.taken c.loop-block.sink) c.loop-block.writer.pending in
    let all : length (column c.args.blocks.now 0) ≤ c.loop-block.block-index = omega (arith, length-column c.args.blocks.now 0, c.loop-block-test.false) in
    let first = kept_value c.args.first c.requires.first in
    subst (Writes before after) (CodesDc-all c.loop-block.invariant.codes ∙ ap (λ x. dc_words x false 5 (take c.loop-block.block-index (column c.args.blocks.now 0))) first ∙ ap (dc_words c.args.first false 5) (take_all c.loop-block.block-index (column c.args.blocks.now 0) all)) c.loop-block.invariant.writes
