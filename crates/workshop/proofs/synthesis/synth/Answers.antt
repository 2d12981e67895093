use Rattle.std.proofs.Common.{sym, subst}
use Rattle.workshop.specs.Synthesis.{CompletesSynth}
use Rattle.workshop.proofs.Synthesised.{complete}
use Rattle.workshop.proofs.synthesis.synth.Goals as goal

pub returns-clause-complete : goal.returns-clause-complete
returns-clause-complete g c = λ nt.
    subst (CompletesSynth c.args.words.now) (sym c.status_of.ensures) (complete c.args.words.now c.synth_run.result (c.synth_run.ensures.complete nt))
