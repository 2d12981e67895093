use Rattle.std.proofs.Common.{rules, ◌≡◌, subst}
use Rattle.std.proofs.lemmas.Result.{on_ok_weaker, on_err_weaker}
use Rattle.pw_outside.specs.Writing.{sink_state, Puts, PutsPart}
use Rattle.pw_outside.proofs.Puts.{puts_then, part_front, front_more, then_front}
use Rattle.pw_outside.proofs.Results.{any_err}
use Rattle.qt_tables.specs.Samples.{samples}
use Rattle.run_look.specs.Listing.{track_line, sample_lines}
use Rattle.run_look.proofs.listing.put_list.Goals as goal

pub returns-in_err-put_all-clause-err : goal.returns-in_err-put_all-clause-err
returns-in_err-put_all-clause-err g c =
    let piece : c.deref.result.now ≡ track_line c.args.reader.now = search rules in
    any_err c.from_residual-in_err-put_all.result (front_more (sample_lines 0 (samples c.args.reader.now.tables))
    (part_front (subst (λ l. PutsPart (sink_state (g.K.ByteSink.held c.args.sink.now) (g.K.ByteSink.taken c.args.sink.now)) (sink_state (g.K.ByteSink.held c.put_all.new.sink) (g.K.ByteSink.taken c.put_all.new.sink)) l)
    piece c.in_err-put_all.ensures.err)))

pub returns-clause-ok : goal.returns-clause-ok
returns-clause-ok g c =
    let piece : c.deref.result.now ≡ track_line c.args.reader.now = search rules in
    let first = subst (λ l. Puts (sink_state (g.K.ByteSink.held c.args.sink.now) (g.K.ByteSink.taken c.args.sink.now)) (sink_state (g.K.ByteSink.held c.put_all.new.sink) (g.K.ByteSink.taken c.put_all.new.sink)) l)
    piece c.in_ok-put_all.ensures.ok in
    on_ok_weaker c.put_all_samples.result (λ p. puts_then first p) c.put_all_samples.ensures.ok

pub returns-clause-err : goal.returns-clause-err
returns-clause-err g c =
    let piece : c.deref.result.now ≡ track_line c.args.reader.now = search rules in
    let first = subst (λ l. Puts (sink_state (g.K.ByteSink.held c.args.sink.now) (g.K.ByteSink.taken c.args.sink.now)) (sink_state (g.K.ByteSink.held c.put_all.new.sink) (g.K.ByteSink.taken c.put_all.new.sink)) l)
    piece c.in_ok-put_all.ensures.ok in
    on_err_weaker c.put_all_samples.result (λ p. then_front first p) c.put_all_samples.ensures.err
