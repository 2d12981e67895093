-- The sample tables of a track, read from a file (QuickTime File Format, sample table atoms).
use Rattle.std.specs.Prelude.{◌≡◌, ℕ, ◌+◌, ◌-◌, ◌*◌, ◌^◌, ◌<◌, ◌≤◌, Bool, true, not, List, [], ◌∷◌, length, Option, Some, None, Ok, nat_lt, nat_le, ◌==◌, ◌&&◌, if◌then◌else◌, codes, sum_by, replicate, slice_index_or}
use Rattle.std.specs.List.{list_any, All}
use Rattle.std.specs.Int.{w8, w32, w64}
use Rattle.pw_outside.specs.Reading.{◌>>=◌, refuse}
use Rattle.qt_atoms.specs.declared.atom.Atom.{Atom}
use Rattle.qt_atoms.specs.Atoms.{number_in, child, child_of, is_kind}
use Rattle.qt_atoms.specs.Written.{rows}
use Rattle.qt_tables.specs.declared.fault.MovieKind.TheVariants.{MissingTable, TableShape, TablesDisagree, TooManySamples}
use Rattle.qt_tables.specs.Faults.{Found, some_or, sized}
use Rattle.qt_tables.specs.declared.runs.TimeRun.{TimeRun}
use Rattle.qt_tables.specs.declared.runs.ChunkRun.{ChunkRun}
use Rattle.qt_tables.specs.Samples.{Tables, ChunkLists, chunks, held_by}
use Rattle.qt_tables.specs.declared.tables.TheConstants.{MAX_SAMPLES}

abbrev pub body_length : Atom → ℕ
body_length a = a.end - a.body

-- the first child of this kind; `MissingTable` if there is none
abbrev pub table_in : List ℕ → Atom → List ℕ → Found Atom
table_in file parent kind = do
  found ← sized (child file parent kind)
  some_or found MissingTable parent.at

-- the number of rows of a table, each of `step` bytes: its body has `before` bytes, the count, and the rows
unfoldable pub count_in : List ℕ → Atom → (before step : ℕ) → Found ℕ
count_in file table before step = do
  _ ← refuse (nat_lt (body_length table) (before + 4)) TableShape table.at
  let count = number_in w32 file (table.body + before)
  _ ← refuse (nat_lt MAX_SAMPLES count) TooManySamples table.at
  _ ← refuse (nat_lt (body_length table) (before + 4 + step * count)) TableShape table.at
  Ok count

-- `mdhd`: the time scale of the media
unfoldable pub timescale_in : List ℕ → Atom → Found ℕ
timescale_in file mdhd = do
  _ ← refuse (body_length mdhd == 0) TableShape mdhd.at
  let version = number_in w8 file mdhd.body
  _ ← refuse (nat_lt 1 version) TableShape mdhd.at
  let at = if version == 0 then 12 else 20
  _ ← refuse (nat_lt (body_length mdhd) (at + 4)) TableShape mdhd.at
  let timescale = number_in w32 file (mdhd.body + at)
  _ ← refuse (timescale == 0) TableShape mdhd.at
  Ok timescale

-- `stsz`: one size for all samples, or, if that is 0, the size of each
unfoldable pub sizes_in : List ℕ → Atom → Found (List ℕ)
sizes_in file stsz = do
  let common = number_in w32 file (stsz.body + 4)
  count ← count_in file stsz 8 (if common == 0 then 4 else 0)
  Ok (if common == 0 then rows (number_in w32 file) (stsz.body + 12) 4 count else replicate count common)

abbrev pub time_run_at : List ℕ → ℕ → TimeRun
time_run_at file place = record { count = number_in w32 file place; duration = number_in w32 file (place + 4) }

-- `stts`: the durations
unfoldable pub times_in : List ℕ → Atom → Found (List TimeRun)
times_in file stts = do
  count ← count_in file stts 4 8
  Ok (rows (time_run_at file) (stts.body + 8) 8 count)

abbrev pub chunk_run_at : List ℕ → ℕ → ChunkRun
chunk_run_at file place = record { first = number_in w32 file place; samples = number_in w32 file (place + 4); description = number_in w32 file (place + 8) }

-- the first run begins at chunk 1
abbrev pub begins_at_1 : List ChunkRun → Bool
begins_at_1 [] = true
begins_at_1 (run ∷ runs) = run.first == 1

-- after chunk `from`, first chunks rise, no run has empty chunks, and each names an existing description
abbrev pub is_in_order : (descriptions from : ℕ) → List ChunkRun → Bool
is_in_order descriptions from [] = true
is_in_order descriptions from (run ∷ runs) = nat_lt from run.first && nat_lt 0 run.samples && nat_lt 0 run.description && nat_le run.description descriptions && is_in_order descriptions run.first runs

-- `stsc`: the runs of chunks
unfoldable pub runs_in : List ℕ → Atom → (descriptions : ℕ) → Found (List ChunkRun)
runs_in file stsc descriptions = do
  count ← count_in file stsc 4 12
  let runs = rows (chunk_run_at file) (stsc.body + 8) 12 count
  _ ← refuse (not (begins_at_1 runs && is_in_order descriptions 0 runs)) TableShape stsc.at
  Ok runs

-- the number of descriptions by the `stsd`, 0 if there is none
abbrev pub descriptions_of : List ℕ → Option Atom → ℕ
descriptions_of file None = 0
descriptions_of file (Some stsd) = if nat_lt (body_length stsd) 8 then 0 else number_in w32 file (stsd.body + 4)

-- `stco` or `co64`: the offsets of the chunks
unfoldable pub offsets_in : List ℕ → Atom → Found (List ℕ)
offsets_in file table =
    if is_kind (codes "stco") table
    then (do
      count ← count_in file table 4 4
      Ok (rows (number_in w32 file) (table.body + 8) 4 count))
    else (do
      count ← count_in file table 4 8
      let offsets = rows (number_in w64 file) (table.body + 8) 8 count
      _ ← refuse (list_any (λ offset. nat_le (2 ^ 62) offset) offsets) TableShape table.at
      Ok offsets)

-- the first `stco` or `co64`
abbrev pub offsets_table_in : List ℕ → Atom → Found Atom
offsets_table_in file stbl = do
  found ← sized (child_of file stbl (codes "stco" ∷ codes "co64" ∷ []))
  some_or found MissingTable stbl.at

-- The chunk tables of a track, or the first fault of the two tables.
unfoldable pub chunk_tables_in : List ℕ → (stbl : Atom) → Found ChunkLists
chunk_tables_in file stbl = do
  stsc ← table_in file stbl (codes "stsc")
  stsd ← sized (child file stbl (codes "stsd"))
  runs ← runs_in file stsc (descriptions_of file stsd)
  table ← offsets_table_in file stbl
  offsets ← offsets_in file table
  Ok (record { runs = runs; offsets = offsets })

-- The tables of a track. They are validated in this order; the first fault is reported.
unfoldable pub tables_in : List ℕ → (stbl mdia : Atom) → Found Tables
tables_in file stbl mdia = do
  mdhd ← table_in file mdia (codes "mdhd")
  timescale ← timescale_in file mdhd
  stsz ← table_in file stbl (codes "stsz")
  sizes ← sizes_in file stsz
  stts ← table_in file stbl (codes "stts")
  times ← times_in file stts
  stsc ← table_in file stbl (codes "stsc")
  stsd ← sized (child file stbl (codes "stsd"))
  runs ← runs_in file stsc (descriptions_of file stsd)
  table ← offsets_table_in file stbl
  offsets ← offsets_in file table
  _ ← refuse (not (sum_by (λ r. r.count) times == length sizes)) TablesDisagree stsz.at
  _ ← refuse (not (held_by (chunks runs offsets) == length sizes)) TablesDisagree stsz.at
  Ok (record { timescale = timescale; sizes = sizes; times = times; runs = runs; offsets = offsets })

-- Runs of chunks begin at chunk 1 and rise, and none has empty chunks.
pub record AreRuns (runs : List ChunkRun) : Type 0 where
  pub begins : begins_at_1 runs ≡ true
  pub rises : (k : ℕ) (d : ChunkRun) → k + 1 < length runs → (slice_index_or runs k d).first < (slice_index_or runs (k + 1) d).first
  pub filled : All (λ run. 0 < run.samples) runs

-- Tables within the limits, which agree on the number of samples.
pub record AreTables (t : Tables) : Type 0 where
  pub timescale : 1 ≤ t.timescale
  pub few_samples : length t.sizes ≤ MAX_SAMPLES
  pub few_times : length t.times ≤ MAX_SAMPLES
  pub few_runs : length t.runs ≤ MAX_SAMPLES
  pub few_chunks : length t.offsets ≤ MAX_SAMPLES
  pub near : All (λ offset. offset < 2 ^ 62) t.offsets
  pub runs : AreRuns t.runs
  pub timed : sum_by (λ r. r.count) t.times ≡ length t.sizes
  pub chunked : held_by (chunks t.runs t.offsets) ≡ length t.sizes

-- Chunk tables within the limits.
pub record AreChunkLists (t : ChunkLists) : Type 0 where
  pub few_runs : length t.runs ≤ MAX_SAMPLES
  pub few_chunks : length t.offsets ≤ MAX_SAMPLES
  pub near : All (λ offset. offset < 2 ^ 62) t.offsets
  pub runs : AreRuns t.runs
