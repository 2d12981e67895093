use Rattle.std.proofs.Common.{sym, subst}
use Rattle.run_synth.specs.Synthesis.{PrintsOn}
use Rattle.run_synth.proofs.Telling.{ran-so}
use Rattle.run_synth.proofs.run.synth_run.Goals as goal

pub returns-in-Ok-clause-ran : goal.returns-in-Ok-clause-ran
returns-in-Ok-clause-ran g c =
    let prints = subst (λ t. PrintsOn c.args.words.now c.in-Ok.said.end t) (sym c.bytes.ensures) c.in-Ok.ensures in
    ran-so c.args.words.now c.in-Ok.said.end c.tell.result c.bytes.result.now _ _ prints c.tell.ensures.whole c.tell.ensures.front
