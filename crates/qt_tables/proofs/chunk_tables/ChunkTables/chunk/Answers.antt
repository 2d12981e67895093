use Rattle.std.proofs.Common.{arith, ◌≡◌, ◌+◌, ◌<◌, sym, ap, ◌∙◌, length, map, Some}
use Rattle.std.specs.Prelude.{slice_get}
use Rattle.qt_tables.specs.Samples.{ChunkLists, chunks, run_of}
use Rattle.qt_tables.proofs.ToldChunks.{a_chunk, told, told-at}
use Rattle.qt_tables.proofs.chunk_tables.ChunkTables.chunk.Goals as goal

pub returns-clause-value : goal.returns-clause-value
returns-clause-value c =
    let t = c.self.inside in
    let i = c.args.i in
    let at = c.index.result.now in
    let within : i < length t.offsets.items = omega (arith, c.requires, ap (λ (v : ChunkLists). length v.offsets) c.self.view_is) in
    let samples : c.samples_of.result ≡ (run_of t.runs.items (1 + i)).samples =
    c.samples_of.ensures ∙ ap (λ runs. (run_of runs (i + 1)).samples) c.deref.ensures.value ∙ ap (λ n. (run_of t.runs.items n).samples) (let e : i + 1 ≡ 1 + i = omega arith in e) in
    ap (λ (v : ChunkLists). slice_get (map (λ c. a_chunk c.at c.samples) (chunks v.runs v.offsets)) i) (sym c.self.view_is)
    ∙ told-at t.runs.items 1 t.offsets.items i at within
    ∙ ap (λ a. Some (told a (run_of t.runs.items (1 + i)))) (sym c.index.ensures)
    ∙ ap (λ n. Some (a_chunk at n)) (sym samples)
