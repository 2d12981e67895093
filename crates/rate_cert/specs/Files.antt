-- The records of a proof file and its end, in both formats, for the writer and for the reader: the bytes that are
-- written, and what bytes stand for, or their first error and its offset. Our own formats.
use Rattle.std.specs.Prelude.{◌≡◌, ℕ, zero, suc, ◌+◌, ◌*◌, ◌^◌, ◌<◌, ◌≤◌, Bool, true, false, not, ◌==◌, ◌&&◌, ◌||◌, nat_le, nat_lt, if◌then◌else◌, List, [], ◌∷◌, ◌++◌, length, Option, None, Some, Result, Ok, Err, IsTrue}
use Rattle.std.specs.Int.{w8, w32, w64, to_be_bytes}
use Rattle.std.specs.List.{flat_map, All, sum_by}
use Rattle.pw_outside.specs.Reading.{Fault, Rest, Read, ◌>>=◌, refuse, number_at}
use Rattle.rate_table.specs.declared.entry.Pair.{Pair}
use Rattle.rate_table.specs.declared.fault.ProofKind.{ProofKind}
use Rattle.rate_table.specs.declared.fault.ProofKind.TheVariants.{ProofShape, ProofShort, ProofTrailing}
use Rattle.rate_table.specs.declared.fault.TableFault.{TableFault}
use Rattle.rate_table.specs.Table.{Table, IsTable}
use Rattle.rate_table.specs.Pairs.{RisesAndFalls}
use Rattle.rate_table.specs.Body.{body_bytes}
use Rattle.rate_table.specs.Nested.{table_at, indices_at}
use Rattle.rate_table.specs.Records.{Printed}
use Rattle.rate_cert.specs.declared.progress.TheConstants.{MAX_RECORDS}
use Rattle.rate_cert.specs.declared.settings.Settings.{Settings}
use Rattle.rate_cert.specs.Settings.{frame_slices}
use Rattle.rate_cert.specs.Records.{Record, Said, fits, none}
use Rattle.rate_cert.specs.Layers.{most_pairs, layer_bytes, layers_at}
use Rattle.rate_cert.specs.Head.{head_bytes, head_at}

-- the largest number of records of a proof
abbrev pub most_records : ℕ
most_records = MAX_RECORDS

abbrev pub IsFormat : ℕ → Type 0
IsFormat format = (1 ≤ format) × (format ≤ 2)

-- ---- writing

-- size, error and multiplier of a choice
abbrev pub sums_bytes : ℕ → ℕ → ℕ → List ℕ
sums_bytes size error multiplier = to_be_bytes w32 size ++ (to_be_bytes w64 error ++ to_be_bytes w64 multiplier)

unfoldable pub fit_bytes : ℕ → Printed → List ℕ
fit_bytes format r = r.choice ++ (sums_bytes r.size r.error r.multiplier ++ flat_map (layer_bytes format) r.layers)

unfoldable pub said_bytes : ℕ → Table → Said → List ℕ
said_bytes format t (fits r) = 1 ∷ (body_bytes t ++ fit_bytes format r)
said_bytes format t (none least) = 0 ∷ (body_bytes t ++ to_be_bytes w64 least)

-- a record after its mark
unfoldable pub record_bytes : ℕ → Record → List ℕ
record_bytes format r = 0x52 ∷ said_bytes format r.table r.said

-- the end after its mark: the number of records
abbrev pub end_bytes : ℕ → List ℕ
end_bytes records = 0x45 ∷ to_be_bytes w32 records

unfoldable pub proof_bytes : ℕ → Settings → List Record → List ℕ
proof_bytes format s records = head_bytes format s ++ (flat_map (record_bytes format) records ++ end_bytes (length records))

-- ---- valid verdicts

-- a verdict that can be written: it has the right counts, at most `most_pairs` pairs, and in format 2 layers whose
-- sizes rise and whose errors fall
pub record IsPrintable (format : ℕ) (t : Table) (r : Printed) : Type 0 where
  pub choice : length r.choice ≡ length t.slices
  pub layers : length r.layers ≡ suc (length t.slices)
  pub few : sum_by length r.layers ≤ most_pairs
  pub order : format ≡ 2 → All RisesAndFalls r.layers

abbrev pub CanBeSaid : ℕ → Table → Said → Type 0
CanBeSaid format t (fits r) = IsPrintable format t r
CanBeSaid format t (none least) = Unit {0}

-- a pair that fits its fields of four and eight bytes
abbrev pub IsPair : Pair → Type 0
IsPair p = (p.size < 2 ^ 32) × (p.error < 2 ^ 64)

-- the numbers of a verdict fit their fields
pub record HasWidths (r : Printed) : Type 0 where
  pub indices : All (λ index. index < 256) r.choice
  pub size : r.size < 2 ^ 32
  pub error : r.error < 2 ^ 64
  pub multiplier : r.multiplier < 2 ^ 64
  pub pairs : All (λ layer. All IsPair layer) r.layers

abbrev pub AreWide : Said → Type 0
AreWide (fits r) = HasWidths r
AreWide (none least) = least < 2 ^ 64

-- a record that can be written in a format
pub record IsWritten (format : ℕ) (r : Record) : Type 0 where
  pub table : IsTable r.table
  pub said : CanBeSaid format r.table r.said
  pub widths : AreWide r.said

-- ---- reading

unfoldable pub fit_at : ℕ → ℕ → Rest → Read ProofKind Said
fit_at format slices s = do
  choice ← indices_at slices s
  size ← number_at ProofShort w32 choice.1
  error ← number_at ProofShort w64 size.1
  multiplier ← number_at ProofShort w64 error.1
  layers ← layers_at format (suc slices) 0 multiplier.1
  Ok (fits (record { choice = choice.0; size = size.0; error = error.0; multiplier = multiplier.0; layers = layers.0 }), layers.1)

unfoldable pub none_at : Rest → Read ProofKind Said
none_at s = number_at ProofShort w64 s >>= λ n. Ok (none n.0, n.1)

-- the verdict on a table of `slices` slices
unfoldable pub said_at : ℕ → ℕ → ℕ → Rest → Read ProofKind Said
said_at format verdict slices s = if verdict == 1 then fit_at format slices s else none_at s

-- a record after its mark
unfoldable pub record_at : ℕ → Rest → Read ProofKind Record
record_at format s = do
  verdict ← number_at ProofShort w8 s
  _ ← refuse (nat_lt 1 verdict.0) ProofShape s.place
  table ← table_at verdict.1
  said ← said_at format verdict.0 (length table.0.slices) table.1
  Ok (record { table = table.0; said = said.0 }, said.1)

-- the progress of writing or reading a proof: the number of records, and whether a further one may follow
pub record Progress : Type 0 where
  pub count : ℕ
  pub more : Bool

abbrev pub no_records : Progress
no_records = record { count = 0; more = true }

-- A further record may follow.
abbrev pub MayStand : Progress → Type 0
MayStand p = IsTrue p.more × (p.count < most_records)

abbrev pub is_fit : Said → Bool
is_fit (fits p) = true
is_fit (none n) = false

-- No record may follow one whose verdict is none, nor one with fewer slices than a whole group.
abbrev pub goes_on : Settings → Record → Bool
goes_on s r = is_fit r.said && nat_le (s.group * frame_slices s) (length r.table.slices)

abbrev pub further : Settings → Progress → Record → Progress
further s p r = record { count = p.count + 1; more = goes_on s r }

-- the mark of a record or of the end; whether it is a record's
unfoldable pub mark_at : Progress → Rest → Read ProofKind Bool
mark_at p s = do
  mark ← number_at ProofShort w8 s
  _ ← refuse (not (mark.0 == 0x52 || mark.0 == 0x45)) ProofShape s.place
  _ ← refuse (mark.0 == 0x52 && (not p.more || nat_le most_records p.count)) ProofShape s.place
  Ok (mark.0 == 0x52, mark.1)

-- the end after its mark, after `count` records
unfoldable pub end_at : ℕ → Rest → Read ProofKind (Option Record)
end_at count s = do
  number ← number_at ProofShort w32 s
  _ ← refuse (not (number.0 == count)) ProofShape s.place
  _ ← refuse (not (length number.1.bytes == 0)) ProofTrailing number.1.place
  Ok (None, number.1)

unfoldable pub some_at : ℕ → Rest → Read ProofKind (Option Record)
some_at format s = record_at format s >>= λ r. Ok (Some r.0, r.1)

-- the next record; none at the end of the proof, which is the end of the file
unfoldable pub next_at : ℕ → Progress → Rest → Read ProofKind (Option Record)
next_at format p s = mark_at p s >>= λ mark. if mark.0 then some_at format mark.1 else end_at p.count mark.1

-- a record and those after it; none at the end
abbrev pub with_others : Option Record → Result (List Record) (Fault ProofKind) → Result (List Record) (Fault ProofKind)
with_others None others = Ok []
with_others (Some r) others = others >>= λ rs. Ok (r ∷ rs)

-- the progress after what was read
abbrev pub after : Settings → Progress → Option Record → Progress
after s p None = p
after s p (Some r) = further s p r

-- the records from here to the end of the file, at most n
unfoldable pub records_at : ℕ → ℕ → Settings → Progress → Rest → Result (List Record) (Fault ProofKind)
records_at zero format s p rest = Ok []
records_at (suc n) format s p rest = next_at format p rest >>= λ next. with_others next.0 (records_at n format s (after s p next.0) next.1)

-- the state of a writer, and that of a reader
pub record Writing : Type 0 where
  pub settings : Settings
  pub format : ℕ
  pub progress : Progress

pub record Reading : Type 0 where
  pub settings : Settings
  pub format : ℕ
  pub progress : Progress
  pub ended : Bool
  pub place : ℕ

-- the offset up to which a proof was read
abbrev pub place_of : Result Reading TableFault → ℕ
place_of (Ok r) = r.place
place_of (Err _) = 0

-- ---- a whole file

pub record Proved : Type 0 where
  pub format : ℕ
  pub settings : Settings
  pub records : List Record

-- The format, the settings and the records of a proof, or its first error. After `most_records` records the next
-- mark is an error or the end, so the number given to `records_at` suffices.
unfoldable pub proved : List ℕ → Result Proved (Fault ProofKind)
proved bytes = do
  head ← head_at (record { place = 0; bytes = bytes })
  records ← records_at (suc most_records) head.0.0 head.0.1 no_records head.1
  Ok (record { format = head.0.0; settings = head.0.1; records = records })
