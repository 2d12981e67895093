-- Status and output of `least`, `checkleast` and `curve`. Our own definitions.
use Rattle.std.specs.Prelude.{◌≡◌, ℕ, ◌⊎◌, Result, Ok, Err}
use Rattle.pw_outside.specs.Reading.{Fault}
use Rattle.pw_outside.specs.Writing.{SinkState}
use Rattle.rate_table.specs.declared.fault.ProofKind.{ProofKind}
use Rattle.rate_table.specs.Table.{Table}
use Rattle.rate_least.specs.declared.end.LeastEnd.{LeastEnd}
use Rattle.rate_least.specs.declared.end.LeastEnd.TheVariants as ends
use Rattle.rate_least.specs.Records.{Certificate, IsGood}
use Rattle.rate_least.specs.Answers.{PassesByBend, IsWide}
use Rattle.rate_least.specs.Curve.{CurvesPass}
use Rattle.rate_least.specs.Ends.{PrintsLines}
use Rattle.rate_least.specs.Leasting as run
use Rattle.rate_least.specs.Runs as runs
use Rattle.workshop.specs.declared.status.Status.{Status}
use Rattle.workshop.specs.declared.status.Status.TheVariants as s

-- the status of a run's outcome; the frame of a table or a certificate is 0
abbrev pub status_of : LeastEnd → Status
status_of ends.Done = s.Done
status_of ends.NoMemory = s.NoMemory
status_of ends.ReadFault = s.ReadFault
status_of ends.WriteFault = s.WriteFault
status_of ends.LayersFull = s.LayersFull 0
status_of (ends.BadProof kind place) = s.BadProof kind place
status_of (ends.Refused clause) = s.Refused 0 clause

-- The status is that of an outcome with the property `Is`.
abbrev pub Ended : Status → (LeastEnd → Type 0) → Type 0
Ended status Is = (end : LeastEnd) × (status ≡ status_of end) × Is end

-- The status and the output are those of a run of `least` over a file.
abbrev pub AnswersLeast : ℕ → Result Table (Fault ProofKind) → Status → (cert cert' text text' : SinkState) → Type 0
AnswersLeast cap input status cert cert' text text' =
    Ended status (λ end. run.AnswersLeast cap input end × run.WritesLeast end (run.IsCertificateOf cap input) cert cert' text text')

-- the status for a certificate
abbrev pub AnswersCheckLeast : Result Certificate (Fault ProofKind) → Status → Type 0
AnswersCheckLeast input status = Ended status (λ end. runs.AnswersCheck input end)

-- After Done the whole line was appended; after a write fault a prefix of it, after every other status nothing.
abbrev pub PrintsYes : Status → SinkState → SinkState → Type 0
PrintsYes status before after = Ended status (λ end. PrintsLines end runs.yes_text before after)

-- The status and the lines are those of a run of `curve` over a file.
abbrev pub RunsCurve : Result Table (Fault ProofKind) → Status → SinkState → SinkState → Type 0
RunsCurve input status before after = Ended status (λ end. runs.AnswersCurve input end)
    × Ended status (λ end. runs.PrintsText end (runs.IsCurveText input) before after)

-- done, or memory ran out
abbrev pub IsDone : Status → Type 0
IsDone status = (status ≡ s.Done) ⊎ (status ≡ s.NoMemory)

-- A table is done, unless memory runs out, if the Pareto frontiers bounded by the size of the Lagrangian minimisers
-- have at most 2^25 pairs, or there are too few sizes and slices for more.
abbrev pub CompletesLeast : ℕ → Result Table (Fault ProofKind) → Status → Type 0
CompletesLeast cap (Err f) status = Unit {0}
CompletesLeast cap (Ok t) status = (PassesByBend t.slices cap × IsWide t.slices → ⊥) → IsDone status

-- A good certificate is done, unless memory runs out.
abbrev pub CompletesCheckLeast : Result Certificate (Fault ProofKind) → Status → Type 0
CompletesCheckLeast (Err f) status = Unit {0}
CompletesCheckLeast (Ok c) status = IsGood c.table.slices c.cap c.said → IsDone status

-- A table is done, unless memory runs out, if the curves of its first slices have at most 2^25 points together.
abbrev pub CompletesCurve : Result Table (Fault ProofKind) → Status → Type 0
CompletesCurve (Err f) status = Unit {0}
CompletesCurve (Ok t) status = (CurvesPass t.slices → ⊥) → IsDone status
