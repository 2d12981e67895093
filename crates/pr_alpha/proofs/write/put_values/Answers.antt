use Rattle.std.proofs.Common.{◌≡◌, ◌+◌, ◌++◌, ◌∷◌, [], take, drop, get_or, arith, refl, sym, ◌∙◌, subst}
use Rattle.std.proofs.lemmas.List.{take_all, take_more}
use Rattle.pw_bits.specs.Writing.{written, Begins}
use Rattle.pw_bits.proofs.WritingLemmas.{Writes-nil, Writes-Writes, Writes-short}
use Rattle.pr_alpha.specs.inner.Writing.{words_behind, Codes}
use Rattle.pw_outside.proofs.Results.{any_err}
use Rattle.pr_alpha.proofs.CodingLemmas.{Codes-nil, Codes-Codes, cut_values, value_cut}
use Rattle.pr_alpha.proofs.write.put_values.Goals as goal

pub loop-value-init : goal.loop-value-init
loop-value-init g c = record {
  words = [];
  codes = Codes-nil c.args.bits c.args.coding.now;
  before = c.requires.coded.0;
  value = c.requires.coded.1;
  further = omega (arith, c.requires.first);
  writes = Writes-nil (written (g.K.ByteSink.held c.args.sink.now) (g.K.ByteSink.taken c.args.sink.now) c.args.writer.now.pending) c.requires.kept (g.met.K.ByteSink.counts c.args.sink.now).1;
  usable = c.requires.usable;
  settled = omega arith;
  kept = refl;
}

pub put_value-requires-clause-kept : goal.put_value-requires-clause-kept
put_value-requires-clause-kept g c = Writes-short c.loop-value.invariant.writes

pub put_value-requires-clause-value : goal.put_value-requires-clause-value
put_value-requires-clause-value g c = c.requires.below c.loop-value.value-index

pub returns-in_err-put_value-clause-err : goal.returns-in_err-put_value-clause-err
returns-in_err-put_value-clause-err g c =
    let i = c.loop-value.value-index in
    let vs = c.args.values.now in
    let before = written (g.K.ByteSink.held c.args.sink.now) (g.K.ByteSink.taken c.args.sink.now) c.args.writer.now.pending in
    let after = written (g.K.ByteSink.held c.put_value.new.sink) (g.K.ByteSink.taken c.put_value.new.sink) c.put_value.new.writer.pending in
    any_err c.from_residual.result (subst (λ l. Begins before after (words_behind c.args.bits c.args.coding.now l)) (value_cut vs i c.loop-value-test.true)
    (cut_values (get_or vs i 0 ∷ drop (i + 1) vs) c.loop-value.invariant.codes c.loop-value.invariant.writes (c.in_err-put_value.ensures.err (drop (i + 1) vs))))

pub loop-value-preserved : goal.loop-value-preserved
loop-value-preserved g c =
    let i = c.loop-value.value-index in
    let vs = c.args.values.now in
    let inv = c.loop-value.invariant in
    let one = c.in_ok-put_value.ensures.ok in
    record {
      words = inv.words ++ one.0;
      codes = subst (λ l. Codes c.args.bits c.args.coding.now c.put_value.new.coding l (inv.words ++ one.0)) (sym (take_more vs i 0 c.loop-value-test.true)) (Codes-Codes inv.codes one.1);
      before = c.put_value.ensures.coded.0;
      value = c.put_value.ensures.coded.1;
      further = omega (arith, c.put_value.ensures.further, inv.further);
      writes = Writes-Writes inv.writes one.2;
      usable = c.in_ok-put_value.ensures.spoiled;
      settled = omega (arith, c.put_value.ensures.settled, inv.settled);
      kept = c.in_ok-put_value.ensures.cause.kept ∙ inv.kept;
    }

pub returns-clause-ok : goal.returns-clause-ok
returns-clause-ok g c =
    let i = c.loop-value.value-index in
    let vs = c.args.values.now in
    let inv = c.loop-value.invariant in
    let all : take i vs ≡ vs = take_all i vs (omega (arith, c.loop-value-test.false)) in
    (inv.words, subst (λ l. Codes c.args.bits c.args.coding.now c.loop-value.coding l inv.words) all inv.codes, inv.writes)
