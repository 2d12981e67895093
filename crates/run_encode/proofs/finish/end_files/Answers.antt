use Rattle.pw_outside.proofs.Puts.{puts_none, puts_front, part_front, front_none}
use Rattle.pw_outside.proofs.Results.{any_err}
use Rattle.run_encode.proofs.Sinks.{all_then_none, all_fronts}
use Rattle.run_encode.proofs.finish.end_files.Goals as goal

pub returns-in_err-end-clause-err : goal.returns-in_err-end-clause-err
returns-in_err-end-clause-err g c = any_err c.from_residual.result (record {
  movie = front_none _ _ (g.met.K.ByteSink.counts c.args.out.now).1;
  proof = c.in_err-end.ensures.err;
  text = front_none _ _ (g.met.K.ByteSink.counts c.args.text.now).1;
})

pub returns-in_err-put_all-clause-err : goal.returns-in_err-put_all-clause-err
returns-in_err-put_all-clause-err g c = any_err c.from_residual-in_err-put_all.result (record {
  movie = front_none _ _ (g.met.K.ByteSink.counts c.args.out.now).1;
  proof = puts_front c.in_ok-end.ensures.ok;
  text = part_front c.in_err-put_all.ensures.err;
})

pub returns-clause-err : goal.returns-clause-err
returns-clause-err g c = any_err c.settle.result (all_fronts (all_then_none (record {
  movie = puts_none _ (g.met.K.ByteSink.counts c.args.out.now).1;
  proof = c.in_ok-end.ensures.ok;
  text = c.in_ok-put_all.ensures.ok;
}) c.settle.ensures.same))
