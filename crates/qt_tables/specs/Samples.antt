-- The samples of a track, expanded from its tables chunk by chunk (QuickTime File Format, sample tables).
use Rattle.std.specs.Prelude.{ℕ, ◌+◌, List, [], ◌∷◌, ◌++◌, take, drop, nat_le, if◌then◌else◌, sum_by, replicate}
use Rattle.std.specs.List.{flat_map}
use Rattle.qt_tables.specs.declared.runs.TimeRun.{TimeRun}
use Rattle.qt_tables.specs.declared.runs.ChunkRun.{ChunkRun}
use Rattle.qt_tables.specs.declared.runs.Sample.{Sample}

-- the tables of a track
pub record Tables : Type 0 where
  -- of the media, in units per second
  pub timescale : ℕ
  -- the size of each sample
  pub sizes : List ℕ
  -- runs of samples with one duration
  pub times : List TimeRun
  -- runs of chunks with one number of samples and one description
  pub runs : List ChunkRun
  -- the offset of each chunk
  pub offsets : List ℕ

-- the duration of each sample
abbrev pub durations : List TimeRun → List ℕ
durations times = flat_map (λ r. replicate r.count r.duration) times

-- ---- chunks

-- a chunk: its offset, its number of samples and their description
pub record Chunk : Type 0 where
  pub at : ℕ
  pub samples : ℕ
  pub description : ℕ

-- the last run that begins at this chunk or before it; the given run if there is none
abbrev pub run_from : ChunkRun → List ChunkRun → (number : ℕ) → ChunkRun
run_from run [] number = run
run_from run (next ∷ runs) number = if nat_le next.first number then run_from next runs number else run

-- chunks before the first run have no samples
abbrev pub no_run : ChunkRun
no_run = record { first = 1; samples = 0; description = 0 }

-- the run of the chunk with this number, from 1
abbrev pub run_of : List ChunkRun → (number : ℕ) → ChunkRun
run_of runs number = run_from no_run runs number

abbrev pub chunk_of : (offset : ℕ) → ChunkRun → Chunk
chunk_of offset run = record { at = offset; samples = run.samples; description = run.description }

-- the chunks from this number on
abbrev pub chunks_from : List ChunkRun → (number : ℕ) → (offsets : List ℕ) → List Chunk
chunks_from runs number [] = []
chunks_from runs number (offset ∷ offsets) = chunk_of offset (run_of runs number) ∷ chunks_from runs (number + 1) offsets

-- the chunks of a track
abbrev pub chunks : List ChunkRun → (offsets : List ℕ) → List Chunk
chunks runs offsets = chunks_from runs 1 offsets

-- the chunk tables of a track
pub record ChunkLists : Type 0 where
  -- runs of chunks with one number of samples and one description
  pub runs : List ChunkRun
  -- the offset of each chunk
  pub offsets : List ℕ

-- the number of samples in these chunks
abbrev pub held_by : List Chunk → ℕ
held_by cs = sum_by (λ c. c.samples) cs

-- ---- samples

-- consecutive samples of these sizes and durations, the first at offset `at`
abbrev pub samples_at : (description at : ℕ) → (sizes durations : List ℕ) → List Sample
samples_at description at (size ∷ sizes) (duration ∷ durations) = record { at = at; size = size; duration = duration; description = description } ∷ samples_at description (at + size) sizes durations
samples_at description at _ _ = []

-- the samples of these chunks
abbrev pub samples_in : List Chunk → (sizes durations : List ℕ) → List Sample
samples_in [] sizes durations = []
samples_in (c ∷ cs) sizes durations =
    samples_at c.description c.at (take c.samples sizes) durations ++ samples_in cs (drop c.samples sizes) (drop c.samples durations)

-- the samples of a track
abbrev pub samples : Tables → List Sample
samples t = samples_in (chunks t.runs t.offsets) t.sizes (durations t.times)
