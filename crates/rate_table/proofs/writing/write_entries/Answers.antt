use Rattle.std.proofs.Common.{subst, arith, rules}
use Rattle.std.proofs.lemmas.Result.{err_from_is_err_and}
use Rattle.pw_outside.specs.Writing.{sink_state, Puts, PutsFront}
use Rattle.rate_table.specs.Body.{entry_bytes}
use Rattle.pw_outside.proofs.Puts.{part_front}
use Rattle.rate_table.proofs.Parts.{parts-more, parts-end}
use Rattle.rate_table.proofs.writing.write_entries.Goals as goal

pub returns-in_err-put_all-clause-front : goal.returns-in_err-put_all-clause-front
returns-in_err-put_all-clause-front g c =
    let p = err_from_is_err_and c.from_residual.result c.from_residual.ensures.1 in
    rw (p.1) (parts-end entry_bytes c.args.entries.now c.loop-entry.entry-index (record { index = 0; size = 0; error = 0 }) (omega arith) c.loop-entry.invariant.all
    (subst (PutsFront (sink_state (g.K.ByteSink.held c.loop-entry.sink) (g.K.ByteSink.taken c.loop-entry.sink)) (sink_state (g.K.ByteSink.held c.put_all.new.sink) (g.K.ByteSink.taken c.put_all.new.sink))) c.bytes_of_entry.ensures (part_front c.in_err-put_all.ensures.err)))

pub loop-entry-preserved : goal.loop-entry-preserved
loop-entry-preserved g c = record {
  all = parts-more entry_bytes c.args.entries.now c.loop-entry.entry-index (record { index = 0; size = 0; error = 0 }) (omega arith) c.loop-entry.invariant.all
      (subst (Puts (sink_state (g.K.ByteSink.held c.loop-entry.sink) (g.K.ByteSink.taken c.loop-entry.sink)) (sink_state (g.K.ByteSink.held c.put_all.new.sink) (g.K.ByteSink.taken c.put_all.new.sink))) c.bytes_of_entry.ensures c.in_ok-put_all.ensures.ok);
  settled = search rules;
  cause = search rules;
}
