-- Status and output of `synth`. Our own definitions.
use Rattle.std.specs.Prelude.{◌≡◌, ◌⊎◌}
use Rattle.pw_outside.specs.Writing.{SinkState}
use Rattle.run_encode.specs.declared.job.Job.{Job}
use Rattle.run_encode.specs.Groups.{IsJobOf}
use Rattle.run_encode.specs.Completing.{EachFits}
use Rattle.run_synth.specs.declared.words.SynthWords.{SynthWords}
use Rattle.run_synth.specs.declared.end.SynthEnd.{SynthEnd}
use Rattle.run_synth.specs.declared.end.SynthEnd.TheVariants as ends
use Rattle.run_synth.specs.Synthesis.{RanOn, encode_words, head_in, pictures_read}
use Rattle.workshop.specs.declared.status.Status.{Status}
use Rattle.workshop.specs.declared.status.Status.TheVariants as s

-- the status of a run's outcome
abbrev pub status_of : SynthEnd → Status
status_of ends.Done = s.Done
status_of ends.NoMemory = s.NoMemory
status_of ends.WriteFault = s.WriteFault
status_of (ends.TooSmall frame least) = s.TooSmall frame least
status_of (ends.LayersFull frame) = s.LayersFull frame

-- The status and the output are those of a run with these operands.
abbrev pub AnswersSynth : SynthWords → Status → SinkState → SinkState → Type 0
AnswersSynth w status before after = (end : SynthEnd) × (status ≡ status_of end) × RanOn w end before after

-- If each picture has a fitting choice and Pareto frontiers without too many pairs, the run is done, unless memory
-- runs out.
abbrev pub CompletesSynth : SynthWords → Status → Type 0
CompletesSynth w status = ((j : Job) → IsJobOf (encode_words w) (head_in w) j → EachFits j (pictures_read w)) → (status ≡ s.Done) ⊎ (status ≡ s.NoMemory)
