-- The certificate file, for the writer and for the reader: the bytes that are written, and what bytes stand for, or
-- their first error and its offset. Our own format.
use Rattle.std.specs.Prelude.{ℕ, zero, suc, ◌+◌, ◌^◌, ◌<◌, ◌≤◌, not, ◌==◌, nat_le, nat_lt, if◌then◌else◌, List, [], ◌∷◌, ◌++◌, length, Result, Ok, codes}
use Rattle.std.specs.Int.{w8, w32, w64, to_be_bytes}
use Rattle.std.specs.List.{flat_map, All, sum_by}
use Rattle.pw_outside.specs.Reading.{Fault, Rest, Read, ◌>>=◌, refuse, number_at}
use Rattle.rate_table.specs.declared.fault.ProofKind.{ProofKind}
use Rattle.rate_table.specs.declared.fault.ProofKind.TheVariants.{ProofMagic, ProofShape, ProofShort, ProofTrailing}
use Rattle.rate_table.specs.Table.{Table, IsTable}
use Rattle.rate_table.specs.Body.{body_bytes}
use Rattle.rate_cert.specs.Layers.{most_pairs}
use Rattle.rate_table.specs.Nested.{table_at, indices_at}
use Rattle.rate_least.specs.declared.outcome.WidePair.{WidePair}
use Rattle.rate_least.specs.Records.{Printed, Said, fits, none, Certificate, HasCounts}

-- ---- writing

unfoldable pub pair_bytes : WidePair → List ℕ
pair_bytes p = to_be_bytes w64 p.size ++ to_be_bytes w64 p.error

unfoldable pub layer_bytes : List WidePair → List ℕ
layer_bytes layer = to_be_bytes w32 (length layer) ++ flat_map pair_bytes layer

-- size, error and multiplier of a choice
abbrev pub sums_bytes : ℕ → ℕ → ℕ → List ℕ
sums_bytes size error multiplier = to_be_bytes w64 size ++ (to_be_bytes w64 error ++ to_be_bytes w64 multiplier)

unfoldable pub fit_bytes : Printed → List ℕ
fit_bytes r = r.choice ++ (sums_bytes r.size r.error r.multiplier ++ flat_map layer_bytes r.layers)

-- the part after the table: the verdict and the outcome
unfoldable pub said_bytes : Said → List ℕ
said_bytes (fits r) = 1 ∷ fit_bytes r
said_bytes (none least) = 0 ∷ to_be_bytes w64 least

-- a certificate: the magic number `PWLC`, the version 1, the cap, the table, and the outcome for them
unfoldable pub cert_bytes : Certificate → List ℕ
cert_bytes c = codes "PWLC" ++ (1 ∷ (to_be_bytes w64 c.cap ++ (body_bytes c.table ++ said_bytes c.said)))

-- ---- valid outcomes

-- a choice that can be written: it has the right counts and at most `most_pairs` pairs
pub record IsPrintable (t : Table) (r : Printed) : Type 0 where
  pub counts : HasCounts t.slices r
  pub few : sum_by length r.layers ≤ most_pairs

abbrev pub CanBeSaid : Table → Said → Type 0
CanBeSaid t (fits r) = IsPrintable t r
CanBeSaid t (none least) = Unit {0}

-- a pair that fits its fields; sizes are below 2^34
abbrev pub IsPair : WidePair → Type 0
IsPair p = (p.size < 2 ^ 34) × (p.error < 2 ^ 64)

-- the numbers of an outcome fit their fields
pub record HasWidths (r : Printed) : Type 0 where
  pub indices : All (λ index. index < 256) r.choice
  pub size : r.size < 2 ^ 34
  pub error : r.error < 2 ^ 64
  pub multiplier : r.multiplier < 2 ^ 64
  pub pairs : All (λ layer. All IsPair layer) r.layers

abbrev pub AreWide : Said → Type 0
AreWide (fits r) = HasWidths r
AreWide (none least) = least < 2 ^ 64

-- a certificate that can be written
pub record IsWritten (c : Certificate) : Type 0 where
  pub table : IsTable c.table
  pub cap : c.cap < 2 ^ 64
  pub said : CanBeSaid c.table c.said
  pub widths : AreWide c.said

-- ---- reading

-- a size below 2^34
unfoldable pub size_at : Rest → Read ProofKind ℕ
size_at s = do
  size ← number_at ProofShort w64 s
  _ ← refuse (nat_le (2 ^ 34) size.0) ProofShape s.place
  Ok (size.0, size.1)

unfoldable pub pair_at : Rest → Read ProofKind WidePair
pair_at s = do
  size ← size_at s
  error ← number_at ProofShort w64 size.1
  Ok (record { size = size.0; error = error.0 }, error.1)

unfoldable pub pairs_at : ℕ → Rest → Read ProofKind (List WidePair)
pairs_at zero s = Ok ([], s)
pairs_at (suc n) s = do
  first ← pair_at s
  others ← pairs_at n first.1
  Ok (first.0 ∷ others.0, others.1)

-- a layer after `held` pairs of its certificate
unfoldable pub layer_at : ℕ → Rest → Read ProofKind (List WidePair)
layer_at held s = do
  count ← number_at ProofShort w32 s
  _ ← refuse (nat_lt most_pairs (held + count.0)) ProofShape s.place
  pairs_at count.0 count.1

-- n layers, after `held` pairs
unfoldable pub layers_at : ℕ → ℕ → Rest → Read ProofKind (List (List WidePair))
layers_at zero held s = Ok ([], s)
layers_at (suc n) held s = do
  first ← layer_at held s
  others ← layers_at n (held + length first.0) first.1
  Ok (first.0 ∷ others.0, others.1)

unfoldable pub fit_at : ℕ → Rest → Read ProofKind Said
fit_at slices s = do
  choice ← indices_at slices s
  size ← size_at choice.1
  error ← number_at ProofShort w64 size.1
  multiplier ← number_at ProofShort w64 error.1
  layers ← layers_at (suc slices) 0 multiplier.1
  Ok (fits (record { choice = choice.0; size = size.0; error = error.0; multiplier = multiplier.0; layers = layers.0 }), layers.1)

unfoldable pub none_at : Rest → Read ProofKind Said
none_at s = number_at ProofShort w64 s >>= λ n. Ok (none n.0, n.1)

-- the outcome for a table of `slices` slices
unfoldable pub verdict_at : ℕ → ℕ → Rest → Read ProofKind Said
verdict_at verdict slices s = if verdict == 1 then fit_at slices s else none_at s

unfoldable pub said_at : ℕ → Rest → Read ProofKind Said
said_at slices s = do
  verdict ← number_at ProofShort w8 s
  _ ← refuse (nat_lt 1 verdict.0) ProofShape s.place
  verdict_at verdict.0 slices verdict.1

-- a certificate up to its last field
unfoldable pub cert_at : Rest → Read ProofKind Certificate
cert_at s = do
  magic ← number_at ProofShort w32 s
  _ ← refuse (not (magic.0 == 0x50574C43)) ProofMagic s.place
  version ← number_at ProofShort w8 magic.1
  _ ← refuse (not (version.0 == 1)) ProofMagic magic.1.place
  cap ← number_at ProofShort w64 version.1
  table ← table_at cap.1
  said ← said_at (length table.0.slices) table.1
  Ok (record { table = table.0; cap = cap.0; said = said.0 }, said.1)

-- the certificate of a whole file, or the first error; the file ends after the last field
unfoldable pub certified : List ℕ → Result Certificate (Fault ProofKind)
certified bytes = do
  cert ← cert_at (record { place = 0; bytes = bytes })
  _ ← refuse (not (length cert.1.bytes == 0)) ProofTrailing cert.1.place
  Ok cert.0
