use Rattle.std.proofs.Common.{rules, refl, arith, subst}
use Rattle.std.specs.Prelude.{IsSome, None}
use Rattle.pw_outside.specs.Reading.{bytes_of}
use Rattle.pw_outside.specs.Writing.{SinkState, sink_state}
use Rattle.pw_outside.proofs.Puts.{none_extends, then_extends}
use Rattle.rescue_run.specs.inner.Windows.{Shows}
use Rattle.rescue_run.specs.inner.Steps.{GatheredUpTo}
use Rattle.rescue_run.proofs.Marks.{empty_shows}
use Rattle.rescue_run.proofs.Turning.{none_gathered, stopped_here}
use Rattle.rescue_run.proofs.gather.gather_all.Goals as goal

pub returns-in-Err-clause-gathers : goal.returns-in-Err-clause-gathers
returns-in-Err-clause-gathers g c = λ told. stopped_here _ 0 None _ _ (omega arith) (none_gathered _ _ (g.met.K.ByteSink.counts c.args.out.now).1)

pub loop-place-init : goal.loop-place-init
loop-place-init g c = record {
  within = omega arith;
  kept = tt;
  shows = empty_shows _ c.args.total c.in-Ok.window c.in-Ok.ensures.room c.in-Ok.ensures.from c.in-Ok.ensures.held;
  gathered = λ told. none_gathered _ _ (g.met.K.ByteSink.counts c.args.out.now).1;
  extends = none_extends _ (g.met.K.ByteSink.counts c.args.out.now).1;
  bytes = refl;
  source = refl;
  sink = refl;
}

pub returns-in_err-place-clause-extends : goal.returns-in_err-place-clause-extends
returns-in_err-place-clause-extends g c = then_extends _ _ _ c.loop-place.invariant.extends c.step.ensures.extends

pub loop-place-preserved : goal.loop-place-preserved
loop-place-preserved g c =
    let before = sink_state (g.K.ByteSink.held c.loop-place.out) (g.K.ByteSink.taken c.loop-place.out) in
    let after = sink_state (g.K.ByteSink.held c.step.new.out) (g.K.ByteSink.taken c.step.new.out) in
    let goes = subst (λ x. IsSome x → (start : SinkState) → GatheredUpTo (bytes_of x) c.loop-place.place c.loop-place.gathering start before → GatheredUpTo (bytes_of x) c.in_ok-place.place c.step.new.gathering start after)
    c.loop-place.invariant.bytes c.in_ok-place.ensures.goes in
    record {
      within = c.in_ok-place.ensures.on.1;
      kept = c.in_ok-place.ensures.kept;
      shows = subst (λ b. Shows b c.args.total c.step.new.window) c.loop-place.invariant.bytes c.in_ok-place.ensures.shows;
      gathered = λ told. goes told _ (c.loop-place.invariant.gathered told);
      extends = then_extends _ _ _ c.loop-place.invariant.extends c.step.ensures.extends;
      bytes = search rules;
      source = search rules;
      sink = search rules;
    }
