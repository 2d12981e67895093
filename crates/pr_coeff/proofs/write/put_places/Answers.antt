use Rattle.std.proofs.Common.{◌≡◌, ◌+◌, ◌*◌, ◌++◌, [], drop, get_or, length, arith, refl, sym, ap, ◌∙◌, subst}
use Rattle.std.proofs.lemmas.List.{take_all}
use Rattle.pw_bits.specs.Writing.{written, Writes, Begins}
use Rattle.pw_bits.proofs.WritingLemmas.{Writes-nil, Writes-short, Writes-Writes}
use Rattle.pr_coeff.specs.Component.{column, listed, ac_words}
use Rattle.pr_coeff.specs.inner.Writing.{Codes}
use Rattle.pr_coeff.specs.declared.write.Coding.{Coding}
use Rattle.pr_coeff.proofs.WovenLemmas.{column_small}
use Rattle.pw_outside.proofs.Results.{any_err}
use Rattle.pr_coeff.proofs.CodingLemmas.{Codes-nil, Codes-Codes, Codes-all, cut_values, listed_more, listed_cut}
use Rattle.pr_coeff.proofs.write.put_places.Goals as goal

pub loop-place-init : goal.loop-place-init
loop-place-init g c = record {
  words = [];
  codes = Codes-nil (record { run = 4; magnitude = 2; zeros = 0 });
  zeros = omega arith;
  writes = Writes-nil (written (g.K.ByteSink.held c.args.sink.now) (g.K.ByteSink.taken c.args.sink.now) c.args.writer.now.pending) c.requires.kept (g.met.K.ByteSink.counts c.args.sink.now).1;
  usable = c.requires.usable;
  settled = omega arith;
  kept = refl;
}

pub put_place-requires-clause-kept : goal.put_place-requires-clause-kept
put_place-requires-clause-kept g c = Writes-short c.loop-place.invariant.writes

pub put_place-requires-clause-small : goal.put_place-requires-clause-small
put_place-requires-clause-small g c = column_small c.args.blocks.now c.from.result c.requires.small

pub returns-in_err-put_place-clause-err : goal.returns-in_err-put_place-clause-err
returns-in_err-put_place-clause-err g c =
    let i = c.loop-place.place-index in
    let ps = c.args.places.now in
    let before = written (g.K.ByteSink.held c.args.sink.now) (g.K.ByteSink.taken c.args.sink.now) c.args.writer.now.pending in
    let after = written (g.K.ByteSink.held c.put_place.new.sink) (g.K.ByteSink.taken c.put_place.new.sink) c.put_place.new.writer.pending in
    let t = c.loop-place.coding in
    let mid = written (g.K.ByteSink.held c.loop-place.sink) (g.K.ByteSink.taken c.loop-place.sink) c.loop-place.writer.pending in
    let rest = listed (drop (i + 1) ps) c.args.blocks.now in
    any_err c.from_residual.result (subst (λ l. Begins before after (ac_words 4 2 0 l)) (listed_cut ps c.args.blocks.now i c.loop-place-test.true)
    (cut_values (column c.args.blocks.now (get_or ps i 0) ++ rest) c.loop-place.invariant.codes c.loop-place.invariant.writes
    (subst (λ p. Begins mid after (ac_words t.run t.magnitude t.zeros (column c.args.blocks.now p ++ rest))) c.from.ensures (c.in_err-put_place.ensures.err rest))))

pub loop-place-preserved : goal.loop-place-preserved
loop-place-preserved g c =
    let x = c.in_ok-put_place.ensures.ok in
    let i = c.loop-place.place-index in
    let s : Coding = record { run = 4; magnitude = 2; zeros = 0 } in
    let u = c.put_place.new.coding in
    let ps = c.args.places.now in
    let one : Codes c.loop-place.coding u (column c.args.blocks.now (get_or ps i 0)) x.0 = subst (λ p. Codes c.loop-place.coding u (column c.args.blocks.now p) x.0) c.from.ensures x.1 in
    let more : (i + 1) * length c.args.blocks.now ≡ i * length c.args.blocks.now + length c.args.blocks.now = omega arith in
    record {
      words = c.loop-place.invariant.words ++ x.0;
      codes = subst (λ l. Codes s u l (c.loop-place.invariant.words ++ x.0)) (sym (listed_more ps c.args.blocks.now i c.loop-place-test.true))
          (Codes-Codes c.loop-place.invariant.codes one);
      zeros = omega (arith, more, c.put_place.ensures.zeros, c.loop-place.invariant.zeros);
      writes = Writes-Writes c.loop-place.invariant.writes x.2;
      usable = c.in_ok-put_place.ensures.spoiled;
      settled = omega (arith, c.put_place.ensures.settled, c.loop-place.invariant.settled);
      kept = c.in_ok-put_place.ensures.cause.kept ∙ c.loop-place.invariant.kept;
    }

pub returns-clause-ok : goal.returns-clause-ok
returns-clause-ok g c =
    let ps = c.args.places.now in
    let before = written (g.K.ByteSink.held c.args.sink.now) (g.K.ByteSink.taken c.args.sink.now) c.args.writer.now.pending in
    let after = written (g.K.ByteSink.held c.loop-place.sink) (g.K.ByteSink.taken c.loop-place.sink) c.loop-place.writer.pending in
    subst (Writes before after) (Codes-all c.loop-place.invariant.codes ∙ ap (λ l. ac_words 4 2 0 (listed l c.args.blocks.now)) (take_all c.loop-place.place-index ps c.loop-place-test.false)) c.loop-place.invariant.writes
