-- The outcome and the outputs of the run for the smallest choice under a cap, by the bytes of the table file. Our
-- own definitions.
use Rattle.std.specs.Prelude.{◌≡◌, ℕ, List, [], ◌++◌, Result, Ok, Err, codes}
use Rattle.std.specs.List.{flat_map}
use Rattle.std.specs.Fmt.{decimal}
use Rattle.pw_outside.specs.Reading.{Fault}
use Rattle.pw_outside.specs.Writing.{SinkState, Puts, PutsFront}
use Rattle.rate_table.specs.declared.fault.ProofKind.{ProofKind}
use Rattle.rate_table.specs.Table.{Table}
use Rattle.rate_least.specs.declared.end.LeastEnd.{LeastEnd}
use Rattle.rate_least.specs.declared.end.LeastEnd.TheVariants as ends
use Rattle.rate_least.specs.Records.{Said, fits, none, Certificate}
use Rattle.rate_least.specs.Files.{cert_bytes}
use Rattle.rate_least.specs.Answers.{IsAnswer, PassesByBend, PassesBySmallest, IsWide}
use Rattle.rate_least.specs.Ends.{AnswersUnlessOutside}

-- indices, each after a space
abbrev pub spaced : List ℕ → List ℕ
spaced choice = flat_map (λ i. codes " " ++ decimal i) choice

-- the lines of a choice: one index for each slice, the size and the error; or the line that none meets the cap,
-- with the least error
abbrev pub least_text : Said → List ℕ
least_text (fits r) = codes "choice" ++ spaced r.choice ++ codes "\nsize " ++ decimal r.size ++ codes "\nerror " ++ decimal r.error ++ codes "\n"
least_text (none least) = codes "none least-error " ++ decimal least ++ codes "\n"

-- The outcome for a table, unless a port failed or memory ran out. It is LayersFull if the frontiers held under the
-- size of the smallest choice have more than 2^25 pairs, and only if those held under the size of the Lagrangian
-- minimisers do.
abbrev pub AnswersTable : ℕ → Table → LeastEnd → Type 0
AnswersTable cap t ends.Done = PassesBySmallest t.slices cap → ⊥
AnswersTable cap t ends.LayersFull = PassesByBend t.slices cap × IsWide t.slices
AnswersTable cap t ends.NoMemory = Unit {0}
AnswersTable cap t ends.ReadFault = Unit {0}
AnswersTable cap t ends.WriteFault = Unit {0}
AnswersTable cap t _ = ⊥

-- the outcome for a file: the first error of an invalid file, or the outcome for its table
abbrev pub AnswersLeast : ℕ → Result Table (Fault ProofKind) → LeastEnd → Type 0
AnswersLeast cap (Err f) end = AnswersUnlessOutside end (ends.BadProof f.kind f.place)
AnswersLeast cap (Ok t) end = AnswersTable cap t end

-- the certificate of the file's table and this cap, with the smallest choice or none
abbrev pub IsCertificateOf : ℕ → Result Table (Fault ProofKind) → Certificate → Type 0
IsCertificateOf cap (Err f) c = ⊥
IsCertificateOf cap (Ok t) c = (c.table ≡ t) × (c.cap ≡ cap) × IsAnswer t.slices cap c.said

-- The certificate and its lines were appended whole.
pub record AppendsAll (Is : Certificate → Type 0) (cert cert' text text' : SinkState) : Type 0 where
  pub certificate : Certificate
  pub is : Is certificate
  pub bytes : Puts cert cert' (cert_bytes certificate)
  pub lines : Puts text text' (least_text certificate.said)

-- A prefix of each was appended.
pub record AppendsFronts (Is : Certificate → Type 0) (cert cert' text text' : SinkState) : Type 0 where
  pub certificate : Certificate
  pub is : Is certificate
  pub bytes : PutsFront cert cert' (cert_bytes certificate)
  pub lines : PutsFront text text' (least_text certificate.said)

-- After Done, the certificate and its lines were appended; after WriteFault, a prefix of each; otherwise nothing.
abbrev pub WritesLeast : LeastEnd → (Certificate → Type 0) → SinkState → SinkState → SinkState → SinkState → Type 0
WritesLeast ends.Done Is cert cert' text text' = AppendsAll Is cert cert' text text'
WritesLeast ends.WriteFault Is cert cert' text text' = AppendsFronts Is cert cert' text text'
WritesLeast _ Is cert cert' text text' = Puts cert cert' [] × Puts text text' []
