-- Prefix sums over tables.
use Rattle.std.specs.Prelude.{◌≡◌, ℕ, ◌+◌, ◌-◌, ◌<◌, ◌≤◌, min, List, length, take, sum_by, Option, Some, None, slice_get, slice_index}
use Rattle.qt_tables.specs.declared.runs.TimeRun.{TimeRun}
use Rattle.qt_tables.specs.declared.runs.ChunkRun.{ChunkRun}
use Rattle.qt_tables.specs.Samples.{chunk_of, chunks, held_by}

-- the prefix sums of n items: `before k` for each k up to n
pub record AreSums (n : ℕ) (before : ℕ → ℕ) (sums : List ℕ) : Type 0 where
  pub count : length sums ≡ n + 1
  pub each : (k : ℕ) → k < n + 1 → slice_index sums k ≡ before k

-- the bytes of the first k samples
abbrev pub bytes_before : (sizes : List ℕ) → ℕ → ℕ
bytes_before sizes k = sum_by (λ size. size) (take k sizes)

-- the samples of the first k runs of durations
abbrev pub timed_before : List TimeRun → ℕ → ℕ
timed_before times k = sum_by (λ r. r.count) (take k times)

-- the number of chunks before a run, or all `n` if there is no such run
abbrev pub chunks_before : (chunks : ℕ) → Option ChunkRun → ℕ
chunks_before n None = n
chunks_before n (Some run) = min (run.first - 1) n

-- the samples of the chunks before run k
abbrev pub held_before : List ChunkRun → (offsets : List ℕ) → ℕ → ℕ
held_before runs offsets k = held_by (take (chunks_before (length offsets) (slice_get runs k)) (chunks runs offsets))

-- Sample i of a track lies in chunk `c`, which belongs to `run` and whose first sample has index `from`.
pub record InRun (runs : List ChunkRun) (offsets : List ℕ) (i c from : ℕ) (run : ChunkRun) : Type 0 where
  pub in_range : c < length offsets
  pub chunk : slice_get (chunks runs offsets) c ≡ Some (chunk_of (slice_index offsets c) run)
  pub first : from ≡ held_by (take c (chunks runs offsets))
  pub begun : from ≤ i
  pub ends : i < from + run.samples
