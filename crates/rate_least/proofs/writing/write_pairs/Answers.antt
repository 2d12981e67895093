use Rattle.std.proofs.Common.{subst, arith, rules}
use Rattle.std.proofs.lemmas.Result.{err_from_is_err_and}
use Rattle.pw_outside.specs.Writing.{sink_state, Puts, PutsFront}
use Rattle.rate_least.specs.Files.{pair_bytes}
use Rattle.pw_outside.proofs.Puts.{part_front}
use Rattle.rate_table.proofs.Parts.{parts-more, parts-end}
use Rattle.rate_least.proofs.writing.write_pairs.Goals as goal

pub returns-in_err-put_all-clause-front : goal.returns-in_err-put_all-clause-front
returns-in_err-put_all-clause-front g c =
    let p = err_from_is_err_and c.from_residual.result c.from_residual.ensures.1 in
    rw (p.1) (parts-end pair_bytes c.args.pairs.now c.loop-pair.pair-index (record { size = 0; error = 0 }) (omega arith) c.loop-pair.invariant.all
    (subst (PutsFront (sink_state (g.K.ByteSink.held c.loop-pair.sink) (g.K.ByteSink.taken c.loop-pair.sink)) (sink_state (g.K.ByteSink.held c.put_all.new.sink) (g.K.ByteSink.taken c.put_all.new.sink))) c.bytes_of_pair.ensures (part_front c.in_err-put_all.ensures.err)))

pub loop-pair-preserved : goal.loop-pair-preserved
loop-pair-preserved g c = record {
  all = parts-more pair_bytes c.args.pairs.now c.loop-pair.pair-index (record { size = 0; error = 0 }) (omega arith) c.loop-pair.invariant.all
      (subst (Puts (sink_state (g.K.ByteSink.held c.loop-pair.sink) (g.K.ByteSink.taken c.loop-pair.sink)) (sink_state (g.K.ByteSink.held c.put_all.new.sink) (g.K.ByteSink.taken c.put_all.new.sink))) c.bytes_of_pair.ensures c.in_ok-put_all.ensures.ok);
  settled = search rules;
  cause = search rules;
}
