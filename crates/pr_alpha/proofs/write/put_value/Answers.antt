use Rattle.std.proofs.Common.{◌+◌, [], refl, arith}
use Rattle.std.proofs.lemmas.Result.{on_ok_weaker, on_err_weaker}
use Rattle.pw_bits.specs.Writing.{written}
use Rattle.pw_bits.proofs.WritingLemmas.{Writes-nil}
use Rattle.pr_alpha.specs.Alpha.{row_words}
use Rattle.pr_alpha.proofs.CodingLemmas.{row, Codes-same, Codes-next, cut_next}
use Rattle.pr_alpha.proofs.write.put_value.Goals as goal

pub returns-then-value-coding-clause-ok : goal.returns-then-value-coding-clause-ok
returns-then-value-coding-clause-ok g c =
    let s = c.args.coding.now in
    let at = written (g.K.ByteSink.held c.args.sink.now) (g.K.ByteSink.taken c.args.sink.now) c.args.writer.now.pending in
    let counts = g.met.K.ByteSink.counts c.args.sink.now in
    ([], Codes-same c.args.bits s (record { before = s.before; value = s.value; further = s.further + 1 }) c.args.value (omega arith) refl, Writes-nil at c.requires.kept counts.1)

pub returns-clause-ok : goal.returns-clause-ok
returns-clause-ok g c =
    let s = c.args.coding.now in
    on_ok_weaker c.put_row.result (λ w. (
      row_words c.args.bits s.before (row s),
      Codes-next c.args.bits s (record { before = s.value; value = c.args.value; further = 0 }) c.args.value (λ e. omega arith) refl,
      w,
    )) c.put_row.ensures.ok

pub returns-clause-err : goal.returns-clause-err
returns-clause-err g c =
    let s = c.args.coding.now in
    let before = written (g.K.ByteSink.held c.args.sink.now) (g.K.ByteSink.taken c.args.sink.now) c.args.writer.now.pending in
    let after = written (g.K.ByteSink.held c.put_row.new.sink) (g.K.ByteSink.taken c.put_row.new.sink) c.put_row.new.writer.pending in
    on_err_weaker c.put_row.result (λ b rest. cut_next c.args.bits s c.args.value rest before after (λ e. omega arith) b) c.put_row.ensures.err
