-- Checking a proof: its outcome, and what is printed. Our own definitions. Faults and clauses come in the order of
-- checking.
use Rattle.std.specs.Prelude.{◌≡◌, ℕ, zero, suc, ◌+◌, ◌/◌, ◌⊎◌, List, [], ◌++◌, length, Option, None, Some, Result, Ok, Err, codes}
use Rattle.std.specs.Fmt.{decimal}
use Rattle.pw_outside.specs.Reading.{Fault, Rest}
use Rattle.pw_outside.specs.Writing.{SinkState, Puts, PutsFront}
use Rattle.rate_table.specs.declared.fault.ProofKind.{ProofKind}
use Rattle.rate_cert.specs.declared.settings.Settings.{Settings}
use Rattle.rate_cert.specs.Settings.{frame_slices}
use Rattle.rate_cert.specs.Records.{Record, IsGood, Fails}
use Rattle.rate_cert.specs.Head.{head_at}
use Rattle.rate_cert.specs.Files.{Progress, no_records, after, next_at, most_records}
use Rattle.run_look.specs.declared.end.LookEnd.{LookEnd}
use Rattle.run_look.specs.declared.end.LookEnd.TheVariants as ends
use Rattle.run_look.specs.Ends.{AnswersEnd}

-- ---- the records

-- the number of frames of a record
abbrev pub frames_in : Settings → Record → ℕ
frames_in s r = length r.table.slices / frame_slices s

-- checking ends with this outcome, or continues with this value
pub data Step (X : Type 0) : Type 0 where
  ended : LookEnd → Step X
  went : X → Step X

abbrev pub Goes : {X : Type 0} → LookEnd → (X → Type 0) → Step X → Type 0
Goes end Behind (ended e) = end ≡ e
Goes end Behind (went x) = Behind x

-- A record with `frames` frames before it ends checking with the first of its clauses that fails, at its first
-- frame. A good one continues with what is checked beside it.
abbrev pub RecordIs : {X : Type 0} → Settings → ℕ → LookEnd → Record → (Step X → Type 0) → (X → Type 0) → Type 0
RecordIs {X} s frames end r Beside Behind =
    ((clause : ℕ) × Fails s r clause × (end ≡ ends.Refused frames clause))
    ⊎ (IsGood s r × (step : Step X) × Beside step × Goes end Behind step)

-- the result of reading the next record, and what is checked then
abbrev pub NextIs : LookEnd → Type 0 → (Record → Rest → Type 0) → Result (Option Record × Rest) (Fault ProofKind) → Type 0
NextIs end Whole Behind (Err f) = end ≡ ends.BadProof f.kind f.place
NextIs end Whole Behind (Ok (None, rest)) = Whole
NextIs end Whole Behind (Ok (Some r, rest)) = Behind r rest

-- The records from here on, at most this number, with `frames` frames before them: each is read, then validated by
-- its clauses, then by `Beside`, a relation between `x` and the step from it. At the end `at_end` determines the
-- outcome, and `records` is the number of records that were read.
unfoldable pub RecordsAre : {X : Type 0} → (Settings → Record → ℕ → X → Step X → Type 0) → (ℕ → X → LookEnd) → ℕ → ℕ → Settings → Progress → ℕ → Rest → X → LookEnd → ℕ → Type 0
RecordsAre Beside at_end zero format s p frames rest x end records = ⊥
RecordsAre Beside at_end (suc most) format s p frames rest x end records =
    NextIs end ((end ≡ at_end frames x) × (records ≡ p.count))
    (λ r behind. RecordIs s frames end r (Beside s r frames x)
    (λ more. RecordsAre Beside at_end most format s (after s p (Some r)) (frames + frames_in s r) behind more end records))
    (next_at format p rest)

-- ---- a proof by itself

-- a proof by itself has nothing beside its records
abbrev pub Alone : Settings → Record → ℕ → Unit {0} → Step (Unit {0}) → Type 0
Alone s r frames x step = step ≡ went tt

abbrev pub done_at_end : ℕ → Unit {0} → LookEnd
done_at_end frames x = ends.Done

-- a proof's records, by themselves, from the first one on
abbrev pub RecordsAlone : ℕ → Settings → Rest → LookEnd → ℕ → Type 0
RecordsAlone format s rest end records = RecordsAre Alone done_at_end (suc most_records) format s no_records 0 rest tt end records

abbrev pub HeadIs : LookEnd → (ℕ × Settings → Rest → Type 0) → Result ((ℕ × Settings) × Rest) (Fault ProofKind) → Type 0
HeadIs end Behind (Err f) = end ≡ ends.BadProof f.kind f.place
HeadIs end Behind (Ok (head, rest)) = Behind head rest

-- The outcome of checking the bytes of a proof by themselves, if no port fails and memory lasts; if it is done,
-- with the number of records.
abbrev pub ChecksAlone : List ℕ → LookEnd → ℕ → Type 0
ChecksAlone bytes end records = HeadIs end (λ head rest. RecordsAlone head.0 head.1 rest end records) (head_at (record { place = 0; bytes = bytes }))

-- ---- what is printed

abbrev pub check_text : ℕ → List ℕ
check_text records = codes "records " ++ decimal records ++ codes " yes\n"

-- After Done the line with the number of records was appended, after a fault of writing a prefix of it, and after
-- any other result nothing.
abbrev pub PrintsCheck : LookEnd → (ℕ → Type 0) → SinkState → SinkState → Type 0
PrintsCheck ends.Done Of before after = (records : ℕ) × Of records × Puts before after (check_text records)
PrintsCheck ends.WriteFault Of before after = (records : ℕ) × Of records × PutsFront before after (check_text records)
PrintsCheck _ Of before after = Puts before after []

-- ---- the parts of a run

-- The count is the number of records if checking is done; an error is the outcome, unless a port failed or memory
-- ran out.
abbrev pub Counts : (LookEnd → ℕ → Type 0) → Result ℕ LookEnd → Type 0
Counts Is (Ok records) = Is ends.Done records
Counts Is (Err end) = AnswersEnd end (λ e. (records : ℕ) × Is e records)

-- the outcome at the next record, with `frames` frames before it
abbrev pub EndsThere : Settings → ℕ → Result (Option Record × Rest) (Fault ProofKind) → LookEnd → Type 0
EndsThere s frames (Err f) end = end ≡ ends.BadProof f.kind f.place
EndsThere s frames (Ok (None, behind)) end = ⊥
EndsThere s frames (Ok (Some r, behind)) end = (clause : ℕ) × Fails s r clause × (end ≡ ends.Refused frames clause)

abbrev pub IsGoodIf : Settings → Option Record → Type 0
IsGoodIf s None = Unit {0}
IsGoodIf s (Some r) = IsGood s r

-- The result of reading the next record: a good one or none, and the rest after it; or the outcome there.
abbrev pub NextGood : ℕ → Settings → Progress → ℕ → Rest → Result (Option Record) LookEnd → Rest → Type 0
NextGood format s p frames rest (Ok next) behind = (next_at format p rest ≡ Ok (next, behind)) × IsGoodIf s next
NextGood format s p frames rest (Err end) behind = AnswersEnd end (EndsThere s frames (next_at format p rest))

-- ---- laws

-- Checking a proof ends in only one way; if it is done, the number of records is unique.
abbrev pub EndsOnce : Type 0
EndsOnce = (bytes : List ℕ) (e f : LookEnd) (m n : ℕ) → ChecksAlone bytes e m → ChecksAlone bytes f n → (e ≡ f) × (e ≡ ends.Done → m ≡ n)

-- A proof without a fault whose records are good is done, unless memory runs out.
abbrev pub CompletesCheck : LookEnd → Type 0
CompletesCheck answer = (answer ≡ ends.Done) ⊎ (answer ≡ ends.NoMemory)
