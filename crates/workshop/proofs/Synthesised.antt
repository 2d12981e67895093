-- If no port failed, and each picture has a fitting choice, a run of `synth` is done.
use Rattle.std.proofs.Common.{◌≡◌, ap, ◌⊎◌, inl, inr}
use Rattle.run_synth.specs.declared.words.SynthWords.{SynthWords}
use Rattle.run_synth.specs.declared.end.SynthEnd.{SynthEnd}
use Rattle.run_synth.specs.declared.end.SynthEnd.TheVariants as ends
use Rattle.run_synth.specs.Synthesis as run
use Rattle.workshop.specs.declared.status.Status.TheVariants as s
use Rattle.workshop.specs.Synthesis.{status_of, CompletesSynth}

-- the same for the status
answered : (end : SynthEnd) → (end ≡ ends.Done) ⊎ (end ≡ ends.NoMemory) → (status_of end ≡ s.Done) ⊎ (status_of end ≡ s.NoMemory)
answered end (inl e) = inl (ap status_of e)
answered end (inr e) = inr (ap status_of e)

pub complete : (w : SynthWords) (end : SynthEnd) → run.CompletesSynth w end → CompletesSynth w (status_of end)
complete w end h = λ fits. answered end (h fits)
