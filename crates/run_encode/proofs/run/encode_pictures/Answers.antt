use Rattle.std.proofs.Common.{[], sym, subst}
use Rattle.pw_outside.proofs.Puts.{puts_none, puts_front, part_front, front_none}
use Rattle.rate_cert.specs.Settings.{IsSettings}
use Rattle.pw_outside.specs.Writing.{Puts, PutsFront}
use Rattle.rate_cert.specs.Head.{head_bytes}
use Rattle.run_encode.specs.Outputs.{state_of, outputs, PutsAll}
use Rattle.run_encode.specs.inner.Steps.{left_by, counts_of, EndedBehind}
use Rattle.run_encode.proofs.Layouts.{settings-are}
use Rattle.run_encode.proofs.Running.{begun, ran-ended, ran-closed, ran-finished, ran-unbegun}
use Rattle.run_encode.proofs.Extending.{all-extends, fronts-extend, then-extends, finish-extends, close-extends}
use Rattle.run_encode.proofs.run.encode_pictures.Goals as goal

pub returns-in-Err-clause-ran : goal.returns-in-Err-clause-ran
returns-in-Err-clause-ran g c = λ h. ran-unbegun _ _ _ _ (record {
  movie = part_front c.in-Err.ensures.part;
  proof = front_none _ _ (g.met.K.ByteSink.counts c.args.cert.now).1;
  text = front_none _ _ (g.met.K.ByteSink.counts c.args.text.now).1;
})

pub begin-requires-2-clause-settings : goal.begin-requires-2-clause-settings
begin-requires-2-clause-settings g c = subst IsSettings (sym c.settings_for.ensures) (settings-are c.args.job.now c.requires.job)

pub returns-in-Err-begin-clause-ran : goal.returns-in-Err-begin-clause-ran
returns-in-Err-begin-clause-ran g c = λ h. ran-unbegun _ _ _ _ (record {
  movie = puts_front c.in-Ok.ensures.all;
  proof = subst (λ s. PutsFront (state_of g.K.ByteSink.held g.K.ByteSink.taken c.args.cert.now) (state_of g.K.ByteSink.held g.K.ByteSink.taken c.begin-2.new.sink) (head_bytes c.args.job.now.format s))
      c.settings_for.ensures c.in-Err-begin.ensures.err;
  text = front_none _ _ (g.met.K.ByteSink.counts c.args.text.now).1;
})

pub returns-in-Ok-encode_groups-clause-ran : goal.returns-in-Ok-encode_groups-clause-ran
returns-in-Ok-encode_groups-clause-ran g c = λ h.
    let start : PutsAll (outputs g.K.ByteSink.held g.K.ByteSink.taken c.args.out.now c.args.cert.now c.args.text.now)
    (outputs g.K.ByteSink.held g.K.ByteSink.taken c.begin.new.sink c.begin-2.new.sink c.args.text.now) (begun c.args.job.now) =
    record {
      movie = c.in-Ok.ensures.all;
      proof = subst (λ s. Puts (state_of g.K.ByteSink.held g.K.ByteSink.taken c.args.cert.now) (state_of g.K.ByteSink.held g.K.ByteSink.taken c.begin-2.new.sink) (head_bytes c.args.job.now.format s))
          c.settings_for.ensures c.in-Ok-begin.ensures.ok;
      text = puts_none _ (g.met.K.ByteSink.counts c.args.text.now).1;
    } in
    ran-finished _ _ _ _ start _ _ _ _ (c.in-Ok-encode_groups.ensures.ended h) c.finish.ensures.ends

pub returns-in-Some-clause-ran : goal.returns-in-Some-clause-ran
returns-in-Some-clause-ran g c = λ h.
    let start : PutsAll (outputs g.K.ByteSink.held g.K.ByteSink.taken c.args.out.now c.args.cert.now c.args.text.now)
    (outputs g.K.ByteSink.held g.K.ByteSink.taken c.begin.new.sink c.begin-2.new.sink c.args.text.now) (begun c.args.job.now) =
    record {
      movie = c.in-Ok.ensures.all;
      proof = subst (λ s. Puts (state_of g.K.ByteSink.held g.K.ByteSink.taken c.args.cert.now) (state_of g.K.ByteSink.held g.K.ByteSink.taken c.begin-2.new.sink) (head_bytes c.args.job.now.format s))
          c.settings_for.ensures c.in-Ok-begin.ensures.ok;
      text = puts_none _ (g.met.K.ByteSink.counts c.args.text.now).1;
    } in
    ran-closed _ _ _ _ start (counts_of c.encode_groups.new.movie c.encode_groups.new.proof) _ _ _ _ _
    (subst (λ end. EndedBehind c.args.job.now (left_by c.args.reader.now (g.S.ByteSource.left c.args.pictures.now)) (counts_of c.encode_groups.new.movie c.encode_groups.new.proof) end
    (outputs g.K.ByteSink.held g.K.ByteSink.taken c.begin.new.sink c.begin-2.new.sink c.args.text.now) (outputs g.K.ByteSink.held g.K.ByteSink.taken c.encode_groups.new.out c.encode_groups.new.cert c.encode_groups.new.text))
    c.in-Some.ensures.some (c.in-Err-encode_groups.ensures.ended h)) c.close.ensures.ends

pub returns-clause-ran : goal.returns-clause-ran
returns-clause-ran g c = λ h.
    let start : PutsAll (outputs g.K.ByteSink.held g.K.ByteSink.taken c.args.out.now c.args.cert.now c.args.text.now)
    (outputs g.K.ByteSink.held g.K.ByteSink.taken c.begin.new.sink c.begin-2.new.sink c.args.text.now) (begun c.args.job.now) =
    record {
      movie = c.in-Ok.ensures.all;
      proof = subst (λ s. Puts (state_of g.K.ByteSink.held g.K.ByteSink.taken c.args.cert.now) (state_of g.K.ByteSink.held g.K.ByteSink.taken c.begin-2.new.sink) (head_bytes c.args.job.now.format s))
          c.settings_for.ensures c.in-Ok-begin.ensures.ok;
      text = puts_none _ (g.met.K.ByteSink.counts c.args.text.now).1;
    } in
    ran-ended _ _ _ _ start _ _ _ c.in-None.ensures.none (c.in-Err-encode_groups.ensures.ended h)

pub returns-in-Err-clause-extends : goal.returns-in-Err-clause-extends
returns-in-Err-clause-extends g c = fronts-extend _ _ _ (record {
  movie = part_front c.in-Err.ensures.part;
  proof = front_none _ [] (g.met.K.ByteSink.counts c.args.cert.now).1;
  text = front_none _ [] (g.met.K.ByteSink.counts c.args.text.now).1;
})

pub returns-in-Err-begin-clause-extends : goal.returns-in-Err-begin-clause-extends
returns-in-Err-begin-clause-extends g c = fronts-extend _ _ _ (record {
  movie = puts_front c.in-Ok.ensures.all;
  proof = c.in-Err-begin.ensures.err;
  text = front_none _ [] (g.met.K.ByteSink.counts c.args.text.now).1;
})

pub returns-in-Ok-encode_groups-clause-extends : goal.returns-in-Ok-encode_groups-clause-extends
returns-in-Ok-encode_groups-clause-extends g c =
    let start = all-extends (outputs g.K.ByteSink.held g.K.ByteSink.taken c.args.out.now c.args.cert.now c.args.text.now)
    (outputs g.K.ByteSink.held g.K.ByteSink.taken c.begin.new.sink c.begin-2.new.sink c.args.text.now) _ (record {
      movie = c.in-Ok.ensures.all;
      proof = c.in-Ok-begin.ensures.ok;
      text = puts_none _ (g.met.K.ByteSink.counts c.args.text.now).1;
    }) in
    then-extends _ _ _ start (then-extends _ _ _ c.in-Ok-encode_groups.ensures.extends (finish-extends c.args.job.now (counts_of c.encode_groups.new.movie c.encode_groups.new.proof) _ _ _ c.finish.ensures.ends))

pub returns-in-Some-clause-extends : goal.returns-in-Some-clause-extends
returns-in-Some-clause-extends g c =
    let start = all-extends (outputs g.K.ByteSink.held g.K.ByteSink.taken c.args.out.now c.args.cert.now c.args.text.now)
    (outputs g.K.ByteSink.held g.K.ByteSink.taken c.begin.new.sink c.begin-2.new.sink c.args.text.now) _ (record {
      movie = c.in-Ok.ensures.all;
      proof = c.in-Ok-begin.ensures.ok;
      text = puts_none _ (g.met.K.ByteSink.counts c.args.text.now).1;
    }) in
    then-extends _ _ _ start (then-extends _ _ _ c.in-Err-encode_groups.ensures.extends (close-extends _ _ _ _ _ _ c.close.ensures.ends))

pub returns-clause-extends : goal.returns-clause-extends
returns-clause-extends g c =
    let start = all-extends (outputs g.K.ByteSink.held g.K.ByteSink.taken c.args.out.now c.args.cert.now c.args.text.now)
    (outputs g.K.ByteSink.held g.K.ByteSink.taken c.begin.new.sink c.begin-2.new.sink c.args.text.now) _ (record {
      movie = c.in-Ok.ensures.all;
      proof = c.in-Ok-begin.ensures.ok;
      text = puts_none _ (g.met.K.ByteSink.counts c.args.text.now).1;
    }) in
    then-extends _ _ _ start c.in-Err-encode_groups.ensures.extends
