use Rattle.std.proofs.Common.{◌+◌, ◌≤◌, ◌++◌, ◌∷◌, [], pos, nat_abs, drop, get_or, arith, refl, sym, ◌∙◌, subst}
use Rattle.pw_bits.specs.Writing.{written, Begins}
use Rattle.pw_bits.proofs.WritingLemmas.{Writes-nil, Writes-short, Writes-Writes}
use Rattle.pr_coeff.specs.Component.{column, ac_words}
use Rattle.pr_coeff.specs.inner.Writing.{Codes}
use Rattle.pw_outside.proofs.Results.{any_err}
use Rattle.pr_coeff.proofs.CodingLemmas.{Codes-nil, Codes-Codes, cut_values, column_more, column_split, kept_value, small_at}
use Rattle.pr_coeff.proofs.write.put_place.Goals as goal

pub loop-block-init : goal.loop-block-init
loop-block-init g c = record {
  words = [];
  codes = Codes-nil c.args.coding.now;
  zeros = omega arith;
  writes = Writes-nil (written (g.K.ByteSink.held c.args.sink.now) (g.K.ByteSink.taken c.args.sink.now) c.args.writer.now.pending) c.requires.kept (g.met.K.ByteSink.counts c.args.sink.now).1;
  usable = c.requires.usable;
  settled = omega arith;
  kept = refl;
}

pub put_value-requires-clause-kept : goal.put_value-requires-clause-kept
put_value-requires-clause-kept g c = Writes-short c.loop-block.invariant.writes

pub put_value-requires-clause-small : goal.put_value-requires-clause-small
put_value-requires-clause-small g c =
    let v = get_or (get_or c.args.blocks.now c.loop-block.block-index []) c.args.place (pos 0) in
    let h = small_at c.args.blocks.now c.args.place c.loop-block.block-index c.loop-block-test.true c.requires.small in
    subst (λ x. nat_abs x ≤ 32767) (sym (kept_value v h)) h

pub returns-in_err-put_value-clause-err : goal.returns-in_err-put_value-clause-err
returns-in_err-put_value-clause-err g c =
    let s = c.args.coding.now in
    let t = c.loop-block.coding in
    let i = c.loop-block.block-index in
    let col = column c.args.blocks.now c.args.place in
    let v = get_or (get_or c.args.blocks.now i []) c.args.place (pos 0) in
    let before = written (g.K.ByteSink.held c.args.sink.now) (g.K.ByteSink.taken c.args.sink.now) c.args.writer.now.pending in
    let mid = written (g.K.ByteSink.held c.loop-block.sink) (g.K.ByteSink.taken c.loop-block.sink) c.loop-block.writer.pending in
    let after = written (g.K.ByteSink.held c.put_value.new.sink) (g.K.ByteSink.taken c.put_value.new.sink) c.put_value.new.writer.pending in
    any_err c.from_residual.result (λ rest.
    let more = drop (i + 1) col ++ rest in
    subst (λ l. Begins before after (ac_words s.run s.magnitude s.zeros l)) (column_split c.args.blocks.now c.args.place i rest c.loop-block-test.true)
    (cut_values (v ∷ more) c.loop-block.invariant.codes c.loop-block.invariant.writes
    (subst (λ x. Begins mid after (ac_words t.run t.magnitude t.zeros (x ∷ more)))
    (kept_value v (small_at c.args.blocks.now c.args.place i c.loop-block-test.true c.requires.small)) (c.in_err-put_value.ensures.err more))))

pub loop-block-preserved : goal.loop-block-preserved
loop-block-preserved g c =
    let x = c.in_ok-put_value.ensures.ok in
    let i = c.loop-block.block-index in
    let s = c.args.coding.now in
    let t = c.loop-block.coding in
    let u = c.put_value.new.coding in
    let col = column c.args.blocks.now c.args.place in
    let v = get_or (get_or c.args.blocks.now i []) c.args.place (pos 0) in
    let k = kept_value v (small_at c.args.blocks.now c.args.place i c.loop-block-test.true c.requires.small) in
    let one : Codes t u (v ∷ []) x.0 = subst (λ y. Codes t u (y ∷ []) x.0) k x.1 in
    record {
      words = c.loop-block.invariant.words ++ x.0;
      codes = subst (λ l. Codes s u l (c.loop-block.invariant.words ++ x.0)) (sym (column_more c.args.blocks.now c.args.place i c.loop-block-test.true))
          (Codes-Codes c.loop-block.invariant.codes one);
      zeros = omega (arith, c.put_value.ensures.zeros, c.loop-block.invariant.zeros);
      writes = Writes-Writes c.loop-block.invariant.writes x.2;
      usable = c.in_ok-put_value.ensures.spoiled;
      settled = omega (arith, c.put_value.ensures.settled, c.loop-block.invariant.settled);
      kept = c.in_ok-put_value.ensures.cause.kept ∙ c.loop-block.invariant.kept;
    }
