-- Status and output of `rescue`. Our own definitions.
use Rattle.std.specs.Prelude.{◌≡◌, ℕ, ◌⊎◌, List}
use Rattle.rescue_run.specs.declared.end.RescueEnd.{RescueEnd}
use Rattle.rescue_run.specs.declared.end.RescueEnd.TheVariants as ends
use Rattle.rescue_run.specs.Chain.{Taken}
use Rattle.rescue_run.specs.Laws.{WritesFronts}
use Rattle.rescue_run.specs.Rescuing.{Rescues, World, Ran}
use Rattle.workshop.specs.declared.options.Rate.{Rate}
use Rattle.workshop.specs.declared.status.Status.{Status}
use Rattle.workshop.specs.declared.status.Status.TheVariants as s
use Rattle.workshop.specs.Options.{rate_of}

-- the status of a run's outcome
abbrev pub status_of : RescueEnd → Status
status_of ends.Done = s.Done
status_of ends.NoMemory = s.NoMemory
status_of ends.ReadFault = s.ReadFault
status_of ends.WriteFault = s.WriteFault
status_of (ends.BadMovie kind place) = s.BadMovie kind place

-- The status and the output are those of a run over this file.
abbrev pub AnswersRescue : Rate → List ℕ → Status → World → World → Type 0
AnswersRescue rate file status before after = (end : RescueEnd) × (status ≡ status_of end) × Ran (rate_of rate) file end before after

-- The same; and after every status both sinks have prefixes of the result of rescuing.
abbrev pub RunsRescue : Rate → List ℕ → Status → World → World → Type 0
RunsRescue rate file status before after = AnswersRescue rate file status before after × WritesFronts (rate_of rate) file before after

-- The status is the result of rescuing, unless memory runs out.
abbrev pub CompletesRescue : List ℕ → Status → Type 0
CompletesRescue file status = (ts : List Taken) (known : RescueEnd) → Rescues file ts known → (status ≡ status_of known) ⊎ (status ≡ s.NoMemory)
