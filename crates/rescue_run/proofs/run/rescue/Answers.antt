use Rattle.std.proofs.Common.{refl, subst, length}
use Rattle.pw_outside.specs.Reading.{bytes_of}
use Rattle.pw_outside.specs.Writing.{sink_state}
use Rattle.pw_outside.proofs.Puts.{none_extends, then_extends}
use Rattle.rescue_run.specs.Rescuing.{world}
use Rattle.rescue_run.specs.inner.Steps.{AreKept, GatheredUpTo}
use Rattle.rescue_run.proofs.Ending.{ran_finished, ran_none, ran_halted, finish_out, finish_text}
use Rattle.rescue_run.proofs.run.rescue.Goals as goal

pub returns-in-Ok-Some-clause-ran : goal.returns-in-Ok-Some-clause-ran
returns-in-Ok-Some-clause-ran g c = λ told.
    let file = bytes_of (g.M.ByteStore.bytes c.args.movie.now) in
    let before = sink_state (g.K.ByteSink.held c.args.out.now) (g.K.ByteSink.taken c.args.out.now) in
    let after = sink_state (g.K.ByteSink.held c.gather.new.out) (g.K.ByteSink.taken c.gather.new.out) in
    let kept = subst (AreKept c.args.rate.now) c.in-Ok-Some.field-0-is c.in-Ok-Some.ensures.kept in
    let all = subst (λ o. GatheredUpTo file (length file) o before after) c.in-Ok-Some.field-0-is (c.in-Ok-Some.ensures.gathers told) in
    ran_finished c.args.rate.now file c.in-Ok-Some.gathered kept.0 kept.1 before after all c.finish.result
    (world g.K.ByteSink.held g.K.ByteSink.taken c.gather.new.out c.args.text.now) (world g.K.ByteSink.held g.K.ByteSink.taken c.finish.new.out c.finish.new.text) refl c.finish.ensures.finish

pub returns-in-Ok-None-clause-ran : goal.returns-in-Ok-None-clause-ran
returns-in-Ok-None-clause-ran g c = λ told.
    let file = bytes_of (g.M.ByteStore.bytes c.args.movie.now) in
    let before = sink_state (g.K.ByteSink.held c.args.out.now) (g.K.ByteSink.taken c.args.out.now) in
    let after = sink_state (g.K.ByteSink.held c.gather.new.out) (g.K.ByteSink.taken c.gather.new.out) in
    let all = subst (λ o. GatheredUpTo file (length file) o before after) c.in-Ok-None.field-0-is (c.in-Ok-None.ensures.gathers told) in
    ran_none c.args.rate.now file before after _ (g.met.K.ByteSink.counts c.args.text.now).1 all

pub returns-in-Err-clause-ran : goal.returns-in-Err-clause-ran
returns-in-Err-clause-ran g c = λ told.
    ran_halted c.args.rate.now (bytes_of (g.M.ByteStore.bytes c.args.movie.now)) c.in-Err.end _ _ _ (g.met.K.ByteSink.counts c.args.text.now).1 (c.in-Err.ensures.gathers told)

pub returns-in-Ok-Some-clause-out_extends : goal.returns-in-Ok-Some-clause-out_extends
returns-in-Ok-Some-clause-out_extends g c = then_extends _ _ _ c.gather.ensures.extends (finish_out c.finish.result _ _ (world g.K.ByteSink.held g.K.ByteSink.taken c.gather.new.out c.args.text.now) (world g.K.ByteSink.held g.K.ByteSink.taken c.finish.new.out c.finish.new.text) c.finish.ensures.finish)

pub returns-in-Ok-Some-clause-text_extends : goal.returns-in-Ok-Some-clause-text_extends
returns-in-Ok-Some-clause-text_extends g c = finish_text c.finish.result _ _ (world g.K.ByteSink.held g.K.ByteSink.taken c.gather.new.out c.args.text.now) (world g.K.ByteSink.held g.K.ByteSink.taken c.finish.new.out c.finish.new.text) c.finish.ensures.finish

pub returns-in-Ok-None-clause-text_extends : goal.returns-in-Ok-None-clause-text_extends
returns-in-Ok-None-clause-text_extends g c = none_extends _ (g.met.K.ByteSink.counts c.args.text.now).1

pub returns-in-Err-clause-text_extends : goal.returns-in-Err-clause-text_extends
returns-in-Err-clause-text_extends g c = none_extends _ (g.met.K.ByteSink.counts c.args.text.now).1
