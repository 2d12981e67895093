use mir.Val.{to_z, of_z}
use mir.Syntax.{w16}
use lib.Signed.{lt_z}
use Rattle.pr_coeff.specs.declared.write.Coding.{Coding}
use Rattle.std.proofs.Common.{suc, rules, ◌≡◌, ◌+◌, ◌-◌, ◌<◌, [], pos, nat_abs, arith, refl, sym, ap, ◌∙◌, subst}
use Rattle.std.proofs.lemmas.Int.{ints, to_z-of_z}
use Rattle.std.proofs.lemmas.Result.{on_ok_weaker, on_err_weaker}
use Rattle.pw_bits.specs.Writing.{written, Writes, Begins}
use Rattle.pw_bits.proofs.WritingLemmas.{Writes-nil}
use Rattle.pr_coeff.specs.Component.{is_negative}
use Rattle.pr_coeff.specs.inner.Writing.{triple_words}
use Rattle.pr_coeff.proofs.CodingLemmas.{Codes-nil, Codes-zero, Codes-triple, cut_triple, signed_parts, lt_zero}
use Rattle.pr_coeff.proofs.write.put_value.Goals as goal

pub returns-then-value-eq0-clause-ok : goal.returns-then-value-eq0-clause-ok
returns-then-value-eq0-clause-ok g c =
    let s = c.args.coding.now in
    let z : c.args.value ≡ pos 0 = grind (arith, ints) in
    let at = written (g.K.ByteSink.held c.args.sink.now) (g.K.ByteSink.taken c.args.sink.now) c.args.writer.now.pending in
    let counts = g.met.K.ByteSink.counts c.args.sink.now in
    ([], Codes-zero s s (record { run = s.run; magnitude = s.magnitude; zeros = s.zeros + 1 }) [] [] c.args.value z refl (Codes-nil s), Writes-nil at c.requires.kept counts.1)

pub returns-clause-ok : goal.returns-clause-ok
returns-clause-ok g c =
    let s = c.args.coding.now in
    let v = c.args.value in
    let m = c.from-magnitude.result in
    let t : to_z w16 (of_z w16 v) ≡ v = search (rules, to_z-of_z) in
    let neg : lt_z (to_z w16 (of_z w16 v)) (pos 0) ≡ is_negative v = ap (λ x. lt_z x (pos 0)) t ∙ lt_zero v in
    let mag : nat_abs v ≡ m = sym (c.from-magnitude.ensures ∙ c.unsigned_abs.ensures.value ∙ ap nat_abs t) in
    let some : 0 < m = grind (arith, ints) in
    let e = signed_parts v m mag some in
    let before = written (g.K.ByteSink.held c.args.sink.now) (g.K.ByteSink.taken c.args.sink.now) c.args.writer.now.pending in
    let after = written (g.K.ByteSink.held c.put_triple.new.sink) (g.K.ByteSink.taken c.put_triple.new.sink) c.put_triple.new.writer.pending in
    let next : c.put_triple.new.coding ≡ record { run = s.zeros; magnitude = suc (m - 1); zeros = 0 } =
    c.put_triple.ensures.state ∙ ap (λ x. (let r : Coding = record { run = s.zeros; magnitude = x; zeros = 0 } in r)) (let u : m ≡ suc (m - 1) = omega arith in u) in
    on_ok_weaker c.put_triple.result (λ x. (
      triple_words s.run s.magnitude s.zeros (m - 1) (is_negative v),
      Codes-triple s c.put_triple.new.coding v (m - 1) (is_negative v) e next,
      subst (λ n. Writes before after (triple_words s.run s.magnitude s.zeros (m - 1) n)) neg x,
    )) c.put_triple.ensures.ok

pub returns-clause-err : goal.returns-clause-err
returns-clause-err g c =
    let s = c.args.coding.now in
    let v = c.args.value in
    let m = c.from-magnitude.result in
    let t : to_z w16 (of_z w16 v) ≡ v = search (rules, to_z-of_z) in
    let neg : lt_z (to_z w16 (of_z w16 v)) (pos 0) ≡ is_negative v = ap (λ x. lt_z x (pos 0)) t ∙ lt_zero v in
    let mag : nat_abs v ≡ m = sym (c.from-magnitude.ensures ∙ c.unsigned_abs.ensures.value ∙ ap nat_abs t) in
    let some : 0 < m = grind (arith, ints) in
    let e = signed_parts v m mag some in
    let before = written (g.K.ByteSink.held c.args.sink.now) (g.K.ByteSink.taken c.args.sink.now) c.args.writer.now.pending in
    let after = written (g.K.ByteSink.held c.put_triple.new.sink) (g.K.ByteSink.taken c.put_triple.new.sink) c.put_triple.new.writer.pending in
    on_err_weaker c.put_triple.result (λ b rest. cut_triple s rest v (m - 1) (is_negative v) before after e
    (subst (λ n. Begins before after (triple_words s.run s.magnitude s.zeros (m - 1) n)) neg b)) c.put_triple.ensures.err
