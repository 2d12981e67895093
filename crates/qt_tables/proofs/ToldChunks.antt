-- The chunks of a track, read one by one.
use Rattle.std.proofs.Common.{◌≡◌, ℕ, zero, suc, ◌+◌, ◌<◌, List, [], ◌∷◌, Some, length, map, ap, ◌∙◌, arith, get_or}
use Rattle.std.specs.Prelude.{slice_get}
use Rattle.qt_tables.specs.declared.runs.ChunkRun.{ChunkRun}
use Rattle.qt_tables.specs.declared.chunk_tables.Chunk.{Chunk}
use Rattle.qt_tables.specs.Samples.{run_of, chunks_from}

abbrev pub a_chunk : (at samples : ℕ) → Chunk
a_chunk at samples = record { at = at; samples = samples }

-- a chunk as it is returned
abbrev pub told : (at : ℕ) → ChunkRun → Chunk
told at run = record { at = at; samples = run.samples }

pub told-at : (runs : List ChunkRun) (number : ℕ) (offsets : List ℕ) (i d : ℕ) → i < length offsets
    → slice_get (map (λ c. record { at = c.at; samples = c.samples }) (chunks_from runs number offsets)) i ≡ Some (told (get_or offsets i d) (run_of runs (number + i)))
told-at runs number [] i d lt = absurd (omega arith)
told-at runs number (offset ∷ offsets) zero d lt = ap (λ n. Some (told offset (run_of runs n))) (let e : number ≡ number + 0 = omega arith in e)
told-at runs number (offset ∷ offsets) (suc i) d lt =
    told-at runs (number + 1) offsets i d (omega arith) ∙ ap (λ n. Some (told (get_or offsets i d) (run_of runs n))) (let e : (number + 1) + i ≡ number + suc i = omega arith in e)
