use Rattle.std.proofs.Common.{ap, ◌∙◌}
use Rattle.std.proofs.lemmas.Result.{on_ok_weaker, on_err_weaker}
use Rattle.pw_outside.proofs.Puts.{part_front, puts_front, front_none}
use Rattle.pw_outside.proofs.Results.{any_err, any_ok}
use Rattle.rate_table.specs.Records.{Printed}
use Rattle.rate_cert.specs.Files.{further}
use Rattle.run_encode.proofs.Printing.{movie-all, movie-front, proof-all, proof-front}
use Rattle.run_encode.proofs.Opening.{still-open}
use Rattle.run_encode.proofs.coding.write_group.Goals as goal

pub returns-in_err-write_frames-clause-err : goal.returns-in_err-write_frames-clause-err
returns-in_err-write_frames-clause-err g c =
    let choice = c.deref.ensures.value ∙ ap (λ (r : Printed). r.choice) c.fit.view_is in
    any_err c.from_residual.result (record {
      movie = movie-front _ _ c.args.job.now c.args.frames.now _ _ choice c.in_err-write_frames.ensures.err;
      proof = front_none _ _ (g.met.K.ByteSink.counts c.args.cert.now).1;
      text = front_none _ _ (g.met.K.ByteSink.counts c.args.text.now).1;
    })

pub returns-in_err-put-clause-err : goal.returns-in_err-put-clause-err
returns-in_err-put-clause-err g c =
    let choice = c.deref.ensures.value ∙ ap (λ (r : Printed). r.choice) c.fit.view_is in
    any_err c.from_residual-in_err-put.result (record {
      movie = puts_front (movie-all _ _ c.args.job.now c.args.frames.now _ _ choice c.in_ok-write_frames.ensures.ok);
      proof = proof-front _ _ _ _ c.requires.open.format _ _ c.args.fit c.requires.table _ c.into_proof-record.ensures c.in_err-put.ensures.err;
      text = front_none _ _ (g.met.K.ByteSink.counts c.args.text.now).1;
    })

pub returns-clause-ok : goal.returns-clause-ok
returns-clause-ok g c =
    let choice = c.deref.ensures.value ∙ ap (λ (r : Printed). r.choice) c.fit.view_is in
    on_ok_weaker c.put_all.result (λ p. record {
      movie = movie-all _ _ c.args.job.now c.args.frames.now _ _ choice c.in_ok-write_frames.ensures.ok;
      proof = proof-all _ _ _ _ c.requires.open.format _ _ c.args.fit c.requires.table _ c.into_proof-record.ensures c.in_ok-put.ensures.ok;
      text = p;
    }) c.put_all.ensures.ok

pub returns-clause-err : goal.returns-clause-err
returns-clause-err g c =
    let choice = c.deref.ensures.value ∙ ap (λ (r : Printed). r.choice) c.fit.view_is in
    on_err_weaker c.put_all.result (λ p. record {
      movie = puts_front (movie-all _ _ c.args.job.now c.args.frames.now _ _ choice c.in_ok-write_frames.ensures.ok);
      proof = puts_front (proof-all _ _ _ _ c.requires.open.format _ _ c.args.fit c.requires.table _ c.into_proof-record.ensures c.in_ok-put.ensures.ok);
      text = part_front p;
    }) c.put_all.ensures.err

pub returns-clause-open : goal.returns-clause-open
returns-clause-open g c = any_ok c.put_all.result (λ whole. still-open c.args.job.now c.args.frames.now c.args.table c.args.fit c.args.proof.now c.put.new.self c.requires.job c.requires.frames c.requires.table c.requires.open
    (c.in_ok-put.ensures.after ∙ ap (λ r. record { settings = c.args.proof.now.settings; format = c.args.proof.now.format; progress = further c.args.proof.now.settings c.args.proof.now.progress r }) c.into_proof-record.ensures) whole)
