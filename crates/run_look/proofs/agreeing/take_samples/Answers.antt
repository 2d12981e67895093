use Rattle.std.proofs.Common.{rules, ◌≡◌, [], ◌∷◌, ◌++◌, ◌<◌, arith}
use Rattle.std.proofs.lemmas.Result.{err_from_is_err_and}
use Rattle.qt_tables.specs.Samples.{samples}
use Rattle.run_look.specs.Checking.{frames_in}
use Rattle.run_look.proofs.Agreed.{samples_stop, samples_further, frames_further}
use Rattle.run_look.proofs.agreeing.take_samples.Goals as goal

pub returns-in_err-frame-clause-stops : goal.returns-in_err-frame-clause-stops
returns-in_err-frame-clause-stops g c =
    let p = err_from_is_err_and c.from_residual.result c.from_residual.ensures.1 in
    let lt : c.loop-k.k < frames_in c.args.settings.now c.args.group.now = search rules in
    rw (p.1, p.2) (samples_stop _ _ (samples c.args.reader.now.tables) c.args.settings.now c.args.group.now c.args.first c.loop-k.k c.in_err-frame.field-0.0 c.loop-k.invariant.bytes lt c.loop-k.invariant.agree c.in_err-frame.ensures.takes)

pub loop-k-preserved : goal.loop-k-preserved
loop-k-preserved g c =
    let items : c.push.new.self.items ≡ c.loop-k.frames.items ++ c.in_ok-frame.frame ∷ [] = search rules in
    record {
      end = search rules;
      few = search rules;
      number = search rules;
      agree = samples_further _ _ (samples c.args.reader.now.tables) c.args.settings.now c.args.group.now c.args.first c.loop-k.k c.in_ok-frame.frame c.loop-k.invariant.bytes c.loop-k.invariant.agree c.in_ok-frame.ensures.takes;
      frames = frames_further _ _ (samples c.args.reader.now.tables) c.args.settings.now c.args.group.now c.args.first c.loop-k.k _ _ c.in_ok-frame.frame c.loop-k.invariant.bytes c.loop-k.invariant.number items c.loop-k.invariant.frames c.in_ok-frame.ensures.takes;
      bytes = search rules;
      cause = search rules;
    }

pub returns-clause-takes : goal.returns-clause-takes
returns-clause-takes g c = λ told ps.
    (λ k l. c.loop-k.invariant.agree told ps k (omega (arith, l, c.loop-k-test.false, c.loop-k.invariant.end)), c.loop-k.invariant.frames told ps, omega (arith, c.loop-k-test.false, c.loop-k.invariant.end, c.loop-k.invariant.number))
