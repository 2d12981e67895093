-- Status and output of `plan`. Our own definitions.
use Rattle.std.specs.Prelude.{◌≡◌, ℕ, List, ◌++◌, length, ◌+◌, ◌*◌, ◌^◌, ◌<◌, ◌⊎◌, Result, Ok, Err, codes}
use Rattle.std.specs.Bool.{OnTrue}
use Rattle.std.specs.List.{flat_map}
use Rattle.std.specs.Fmt.{decimal}
use Rattle.pw_outside.specs.Reading.{Fault}
use Rattle.pw_outside.specs.Writing.{SinkState, Puts, PutsFront}
use Rattle.rate_table.specs.declared.entry.Entry.{Entry}
use Rattle.rate_table.specs.declared.fault.ProofKind.{ProofKind}
use Rattle.rate_table.specs.Table.{Table, IsBest, HasNoFit, indices, size_of, error_of, least_bytes}
use Rattle.rate_layers.specs.Best.{PassesByPicks, PassesByBest}
use Rattle.workshop.specs.declared.status.Status.{Status}
use Rattle.workshop.specs.declared.status.Status.TheVariants as s
use Rattle.workshop.specs.Status.{is_done, is_write_fault, AnswersUnlessOutside}
use Rattle.rate_layers.specs.declared.outcome.Outcome.{Outcome}
use Rattle.rate_layers.specs.declared.outcome.Outcome.TheVariants as outcomes

-- ---- the text

-- indices, each after a space
abbrev pub spaced : List ℕ → List ℕ
spaced choice = flat_map (λ i. codes " " ++ decimal i) choice

-- the lines of a fitting choice: one index for each slice, the size and the error
abbrev pub fits_text : List ℕ → ℕ → ℕ → List ℕ
fits_text choice size error = codes "choice" ++ spaced choice ++ codes "\nsize " ++ decimal size ++ codes "\nerror " ++ decimal error ++ codes "\n"

-- the line that says that no choice fits, and the least number of bytes
abbrev pub none_text : ℕ → List ℕ
none_text least = codes "none least " ++ decimal least ++ codes "\n"

-- the lines of an outcome
abbrev pub outcome_text : Outcome → List ℕ
outcome_text (outcomes.Fits choice size error layers multiplier) = fits_text choice.items size error
outcome_text (outcomes.None least) = none_text least

-- The text of the table's best choice; or, if no choice fits, that line with the table's least bytes.
abbrev pub IsPlanText : Table → List ℕ → Type 0
IsPlanText t text =
    ((best : List Entry) × IsBest t best × (text ≡ fits_text (indices best) (size_of best) (error_of best)))
    ⊎ (HasNoFit t × (text ≡ none_text (least_bytes t)))

-- ---- the status, by the result of reading the table file

-- The budget plus one, times the slices plus one, is above 2^25: only then can the Pareto frontiers have more pairs
-- than that.
abbrev pub IsWide : Table → Type 0
IsWide t = 2 ^ 25 < (t.budget + 1) * (length t.slices + 1)

-- The status for a table, if no port failed and memory didn't run out. It is LayersFull if the Pareto frontiers
-- bounded by the best choice's error have more than 2^25 pairs, and only if those bounded by the error of the
-- Lagrangian minimisers do.
abbrev pub AnswersTable : Table → Status → Type 0
AnswersTable t s.Done = PassesByBest t → ⊥
AnswersTable t (s.LayersFull frame) = (frame ≡ 0) × PassesByPicks t × IsWide t
AnswersTable t s.NoMemory = Unit {0}
AnswersTable t s.ReadFault = Unit {0}
AnswersTable t s.WriteFault = Unit {0}
AnswersTable t _ = ⊥

-- the status for a file: its first error, if it isn't a table, and otherwise that for its table
abbrev pub AnswersPlan : Result Table (Fault ProofKind) → Status → Type 0
AnswersPlan (Err f) status = AnswersUnlessOutside status (s.BadProof f.kind f.place)
AnswersPlan (Ok t) status = AnswersTable t status

-- The text of the table's best choice was appended.
abbrev pub PrintsPlan : Result Table (Fault ProofKind) → SinkState → SinkState → Type 0
PrintsPlan (Err f) before after = ⊥
PrintsPlan (Ok t) before after = (text : List ℕ) × IsPlanText t text × Puts before after text

-- A prefix of that text was appended.
abbrev pub PrintsPart : Result Table (Fault ProofKind) → SinkState → SinkState → Type 0
PrintsPart (Err f) before after = ⊥
PrintsPart (Ok t) before after = (text : List ℕ) × IsPlanText t text × PutsFront before after text

-- The status for a file, and the text that was appended: all of it after Done, a prefix after a write fault.
pub record RunsPlan (input : Result Table (Fault ProofKind)) (status : Status) (before after : SinkState) : Type 0 where
  pub answer : AnswersPlan input status
  pub text : OnTrue (is_done status) (PrintsPlan input before after)
  pub part : OnTrue (is_write_fault status) (PrintsPart input before after)

-- The status is Done or NoMemory for a table whose Pareto frontiers, bounded by the error of the Lagrangian
-- minimisers, have at most 2^25 pairs.
abbrev pub CompletesPlan : Status → Result Table (Fault ProofKind) → Type 0
CompletesPlan status (Err f) = Unit {0}
CompletesPlan status (Ok t) = (PassesByPicks t → ⊥) → (status ≡ s.Done) ⊎ (status ≡ s.NoMemory)
