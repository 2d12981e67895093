use Rattle.std.proofs.Common.{◌≡◌, ℕ, ◌<◌, ◌++◌, [], drop, get_or, length, arith, sym, ap, subst}
use Rattle.std.proofs.lemmas.Result.{on_ok_weaker, on_err_weaker}
use Rattle.pw_bits.specs.Writing.{written, Writes, Begins}
use Rattle.pw_bits.proofs.WritingLemmas.{Writes-short, Writes-Writes, Writes-padded, Begins-first, Begins-second}
use Rattle.pw_bits.specs.Writing.{Writer}
use Rattle.pw_bits.specs.Bits.{bytes, padding}
use Rattle.std.specs.Io.KnownBytes.{Appends}
use Rattle.pw_outside.specs.Ports.{taken_more}
use Rattle.pr_coeff.specs.Component.{places, column, listed, all_dc_words, ac_words, spelling, component}
use Rattle.pr_coeff.proofs.WovenLemmas.{column_small}
use Rattle.pr_coeff.proofs.WholeLemmas.{scan_of, places_inside}
use Rattle.pw_bits.proofs.Written.{padding_after, front_of, all_of}
use Rattle.pw_outside.proofs.Results.{any_err}
use Rattle.pr_coeff.proofs.CodingLemmas.{three_parts}
use Rattle.pr_coeff.proofs.write.write_component.Goals as goal

pub put_all_first-requires-clause-small : goal.put_all_first-requires-clause-small
put_all_first-requires-clause-small g c = column_small c.args.blocks.now 0 c.requires.small

pub returns-in_err-put_all_first-clause-err : goal.returns-in_err-put_all_first-clause-err
unfolding component spelling
returns-in_err-put_all_first-clause-err g c =
    let scan = places c.args.scan in
    let blocks = c.args.blocks.now in
    let dc = all_dc_words (column blocks 0) in
    let ac = ac_words 4 2 0 (listed (drop 1 scan) blocks) in
    let before = written (g.K.ByteSink.held c.args.sink.now) (g.K.ByteSink.taken c.args.sink.now) c.new-writer.result.pending in
    let none : before.pending ≡ [] = ap (λ (w : Writer). w.pending) c.new-writer.ensures in
    let w1 = written (g.K.ByteSink.held c.put_all_first.new.sink) (g.K.ByteSink.taken c.put_all_first.new.sink) c.put_all_first.new.writer.pending in
    any_err c.from_residual.result (front_of {before = before} {after = w1} (dc ++ ac) (Begins-first (ac ++ padding (dc ++ ac)) c.in_err-put_all_first.ensures.err) none (three_parts dc ac (padding (dc ++ ac))))

pub put_places-requires-clause-inside : goal.put_places-requires-clause-inside
put_places-requires-clause-inside g c =
    let inside = subst (λ l. (k : ℕ) → k < 63 → get_or l k 0 < 64) (sym c.other_places.ensures.value) (places_inside (places c.args.scan) (scan_of c.args.scan)) in
    λ k h. inside k (omega (arith, c.other_places.ensures.count))

pub put_places-requires-clause-kept : goal.put_places-requires-clause-kept
put_places-requires-clause-kept g c = Writes-short c.in_ok-put_all_first.ensures.ok

pub returns-in_err-put_places-clause-err : goal.returns-in_err-put_places-clause-err
unfolding component spelling
returns-in_err-put_places-clause-err g c =
    let scan = places c.args.scan in
    let blocks = c.args.blocks.now in
    let dc = all_dc_words (column blocks 0) in
    let ac = ac_words 4 2 0 (listed (drop 1 scan) blocks) in
    let before = written (g.K.ByteSink.held c.args.sink.now) (g.K.ByteSink.taken c.args.sink.now) c.new-writer.result.pending in
    let none : before.pending ≡ [] = ap (λ (w : Writer). w.pending) c.new-writer.ensures in
    let w1 = written (g.K.ByteSink.held c.put_all_first.new.sink) (g.K.ByteSink.taken c.put_all_first.new.sink) c.put_all_first.new.writer.pending in
    let w2 = written (g.K.ByteSink.held c.put_places.new.sink) (g.K.ByteSink.taken c.put_places.new.sink) c.put_places.new.writer.pending in
    let cut : Begins w1 w2 ac = subst (λ l. Begins w1 w2 (ac_words 4 2 0 (listed l blocks))) c.other_places.ensures.value c.in_err-put_places.ensures.err in
    any_err c.from_residual-in_err-put_places.result (front_of {before = before} {after = w2} (dc ++ ac)
    (Begins-second c.in_ok-put_all_first.ensures.ok (Begins-first (padding (dc ++ ac)) cut)) none (three_parts dc ac (padding (dc ++ ac))))

pub returns-clause-ok : goal.returns-clause-ok
unfolding component spelling
returns-clause-ok g c =
    let scan = places c.args.scan in
    let blocks = c.args.blocks.now in
    let dc = all_dc_words (column blocks 0) in
    let ac = ac_words 4 2 0 (listed (drop 1 scan) blocks) in
    let before = written (g.K.ByteSink.held c.args.sink.now) (g.K.ByteSink.taken c.args.sink.now) c.new-writer.result.pending in
    let none : before.pending ≡ [] = ap (λ (w : Writer). w.pending) c.new-writer.ensures in
    let w1 = written (g.K.ByteSink.held c.put_all_first.new.sink) (g.K.ByteSink.taken c.put_all_first.new.sink) c.put_all_first.new.writer.pending in
    let w2 = written (g.K.ByteSink.held c.put_places.new.sink) (g.K.ByteSink.taken c.put_places.new.sink) c.put_places.new.writer.pending in
    let second : Writes w1 w2 ac = subst (λ l. Writes w1 w2 (ac_words 4 2 0 (listed l blocks))) c.other_places.ensures.value c.in_ok-put_places.ensures.ok in
    let both : Writes before w2 (dc ++ ac) = Writes-Writes c.in_ok-put_all_first.ensures.ok second in
    let w3 = written (g.K.ByteSink.held c.pad.new.sink) (g.K.ByteSink.taken c.pad.new.sink) c.pad.new.self.pending in
    on_ok_weaker c.pad.result (λ w. all_of before w3 (dc ++ ac)
    (subst (λ p. Appends (g.K.ByteSink.held c.args.sink.now) (g.K.ByteSink.held c.pad.new.sink) (bytes (p ++ (dc ++ ac)))) none (Writes-padded both w).0)
    (subst (λ p. g.K.ByteSink.taken c.pad.new.sink ≡ taken_more (g.K.ByteSink.taken c.args.sink.now) (length (bytes (p ++ (dc ++ ac))))) none (Writes-padded both w).1)) c.pad.ensures.ok

pub returns-clause-err : goal.returns-clause-err
unfolding component spelling
returns-clause-err g c =
    let scan = places c.args.scan in
    let blocks = c.args.blocks.now in
    let dc = all_dc_words (column blocks 0) in
    let ac = ac_words 4 2 0 (listed (drop 1 scan) blocks) in
    let before = written (g.K.ByteSink.held c.args.sink.now) (g.K.ByteSink.taken c.args.sink.now) c.new-writer.result.pending in
    let none : before.pending ≡ [] = ap (λ (w : Writer). w.pending) c.new-writer.ensures in
    let w1 = written (g.K.ByteSink.held c.put_all_first.new.sink) (g.K.ByteSink.taken c.put_all_first.new.sink) c.put_all_first.new.writer.pending in
    let w2 = written (g.K.ByteSink.held c.put_places.new.sink) (g.K.ByteSink.taken c.put_places.new.sink) c.put_places.new.writer.pending in
    let second : Writes w1 w2 ac = subst (λ l. Writes w1 w2 (ac_words 4 2 0 (listed l blocks))) c.other_places.ensures.value c.in_ok-put_places.ensures.ok in
    let both : Writes before w2 (dc ++ ac) = Writes-Writes c.in_ok-put_all_first.ensures.ok second in
    let w3 = written (g.K.ByteSink.held c.pad.new.sink) (g.K.ByteSink.taken c.pad.new.sink) c.pad.new.self.pending in
    on_err_weaker c.pad.result (λ b. front_of {before = before} {after = w3} (dc ++ ac) (Begins-second both b) none
    (ap (λ p. (dc ++ ac) ++ p) (padding_after both none))) c.pad.ensures.err
