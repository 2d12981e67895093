-- The outcomes and the outputs of the runs over table files and certificates, by the bytes that they read. Our own
-- definitions.
use Rattle.std.specs.Prelude.{◌≡◌, ℕ, List, [], ◌++◌, length, Result, Ok, Err, codes}
use Rattle.std.specs.List.{flat_map}
use Rattle.std.specs.Fmt.{decimal}
use Rattle.pw_outside.specs.Reading.{Fault}
use Rattle.pw_outside.specs.Writing.{SinkState, Puts, PutsFront}
use Rattle.rate_table.specs.declared.fault.ProofKind.{ProofKind}
use Rattle.rate_table.specs.Table.{Table}
use Rattle.rate_least.specs.declared.outcome.WidePair.{WidePair}
use Rattle.rate_least.specs.declared.end.LeastEnd.{LeastEnd}
use Rattle.rate_least.specs.declared.end.LeastEnd.TheVariants as ends
use Rattle.rate_least.specs.Records.{Certificate, IsGood, Fails, IsTrueOf}
use Rattle.rate_least.specs.Curve.{IsCurve, CurvesPass}
use Rattle.rate_least.specs.Ends.{AnswersUnlessOutside}

-- ---- checking a certificate

abbrev pub yes_text : List ℕ
yes_text = codes "yes\n"

-- the outcome for a certificate, unless a port failed or memory ran out: Done if it is good, otherwise the first
-- clause that fails
abbrev pub Judges : Certificate → LeastEnd → Type 0
Judges c ends.Done = IsGood c.table.slices c.cap c.said
Judges c (ends.Refused clause) = Fails c.table.slices c.cap c.said clause
Judges c ends.NoMemory = Unit {0}
Judges c ends.ReadFault = Unit {0}
Judges c ends.WriteFault = IsGood c.table.slices c.cap c.said
Judges c _ = ⊥

-- the outcome for a file: the first error of an invalid file, or the outcome for its certificate
abbrev pub AnswersCheck : Result Certificate (Fault ProofKind) → LeastEnd → Type 0
AnswersCheck (Err f) end = AnswersUnlessOutside end (ends.BadProof f.kind f.place)
AnswersCheck (Ok c) end = Judges c end

-- The file is a certificate, and what it says is true.
abbrev pub SaysTrue : Result Certificate (Fault ProofKind) → Type 0
SaysTrue (Err f) = ⊥
SaysTrue (Ok c) = IsTrueOf c.table.slices c.cap c.said

-- ---- the Pareto frontier

-- the line of a pair
abbrev pub point_line : WidePair → List ℕ
point_line p = codes "point " ++ decimal p.size ++ codes " " ++ decimal p.error ++ codes "\n"

-- a line for each pair, and one with their number
abbrev pub curve_text : List WidePair → List ℕ
curve_text points = flat_map point_line points ++ codes "points " ++ decimal (length points) ++ codes "\n"

-- the outcome for a table, unless a port failed or memory ran out: LayersFull exactly if the curves of the first
-- slices have more than 2^25 points together
abbrev pub AnswersPoints : Table → LeastEnd → Type 0
AnswersPoints t ends.Done = CurvesPass t.slices → ⊥
AnswersPoints t ends.LayersFull = CurvesPass t.slices
AnswersPoints t ends.NoMemory = Unit {0}
AnswersPoints t ends.ReadFault = Unit {0}
AnswersPoints t ends.WriteFault = Unit {0}
AnswersPoints t _ = ⊥

abbrev pub AnswersCurve : Result Table (Fault ProofKind) → LeastEnd → Type 0
AnswersCurve (Err f) end = AnswersUnlessOutside end (ends.BadProof f.kind f.place)
AnswersCurve (Ok t) end = AnswersPoints t end

-- the lines are those of the curve of the file's table
abbrev pub IsCurveText : Result Table (Fault ProofKind) → List ℕ → Type 0
IsCurveText (Err f) text = ⊥
IsCurveText (Ok t) text = (points : List WidePair) × IsCurve t.slices points × (text ≡ curve_text points)

-- After Done, such lines were appended; after WriteFault, a prefix of them; otherwise nothing.
abbrev pub PrintsText : LeastEnd → (List ℕ → Type 0) → SinkState → SinkState → Type 0
PrintsText ends.Done Is before after = (text : List ℕ) × Is text × Puts before after text
PrintsText ends.WriteFault Is before after = (text : List ℕ) × Is text × PutsFront before after text
PrintsText _ Is before after = Puts before after []
