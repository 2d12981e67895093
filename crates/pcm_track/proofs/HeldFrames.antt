-- The number of frames in the first chunks.
use Rattle.std.proofs.Common.{◌≡◌, refl, ℕ, suc, ◌+◌, ◌<◌, get_or, List, [], ◌∷◌, Option, None, Some, length, take, map, sym, ap, ◌∙◌}
use Rattle.std.specs.Prelude.{slice_get}
use Rattle.std.specs.Option.{option_map}
use Rattle.std.proofs.lemmas.List.Sums.{sum_by_more}
use Rattle.std.proofs.lemmas.Option.{get_or_from_slice_get, slice_get_within, slice_get-map}
use Rattle.qt_tables.specs.declared.chunk_tables.Chunk.{Chunk}
use Rattle.qt_tables.specs.declared.runs.ChunkRun.{ChunkRun}
use Rattle.qt_tables.specs.Samples as track
use Rattle.qt_tables.specs.Samples.{held_by}

abbrev pub told : track.Chunk → Chunk
told c = record { at = c.at; samples = c.samples }

abbrev samples_or : Option Chunk → ℕ
samples_or None = 0
samples_or (Some c) = c.samples

record There (cs : List track.Chunk) (i : ℕ) (c : Chunk) : Type 0 where
  within : i < length cs
  same : (d : track.Chunk) → (get_or cs i d).samples ≡ c.samples

there : (cs : List track.Chunk) (i : ℕ) (c : Chunk) (o : Option track.Chunk) → slice_get cs i ≡ o → option_map told o ≡ Some c → There cs i c
there cs i c None h e = absurd cc
there cs i c (Some x) h e = record {
  within = slice_get_within cs i x h;
  same = λ d. ap (λ (y : track.Chunk). y.samples) (get_or_from_slice_get cs i x d h) ∙ ap samples_or e;
}

pub held-step : (cs : List track.Chunk) (i : ℕ) (c : Chunk) → slice_get (map told cs) i ≡ Some c → held_by (take (i + 1) cs) ≡ held_by (take i cs) + c.samples
held-step cs i c e =
    let h = there cs i c (slice_get cs i) refl (sym (slice_get-map told cs i) ∙ e) in
    let d : track.Chunk = record { at = 0; samples = 0; description = 0 } in
    sum_by_more (λ (x : track.Chunk). x.samples) cs i d h.within ∙ ap (λ n. held_by (take i cs) + n) (h.same d)

-- there are as many chunks as offsets
pub chunks-counted : (runs : List ChunkRun) (number : ℕ) (offsets : List ℕ) → length (track.chunks_from runs number offsets) ≡ length offsets
chunks-counted runs number [] = refl
chunks-counted runs number (offset ∷ offsets) = ap suc (chunks-counted runs (number + 1) offsets)
