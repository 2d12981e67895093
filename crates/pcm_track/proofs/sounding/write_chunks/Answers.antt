use Rattle.std.proofs.Common.{rules, arith, ◌≤◌, ◌∙◌, length}
use Rattle.std.proofs.lemmas.Result.{err_from_is_err_and}
use Rattle.qt_tables.specs.Samples.{chunks}
use Rattle.pcm_track.proofs.HeldFrames.{chunks-counted}
use Rattle.pcm_track.proofs.Pieces.{any_err}
use Rattle.pcm_track.proofs.ChunkByChunk.{next-chunk, answer-on, answer-there, answer-all, written-on, written-front, written-all, extends-copied, extends-front}
use Rattle.pcm_track.proofs.sounding.write_chunks.Goals as goal

pub returns-in_err-write_chunk-clause-answer : goal.returns-in_err-write_chunk-clause-answer
returns-in_err-write_chunk-clause-answer g c h =
    let p = err_from_is_err_and c.from_residual.result c.from_residual.ensures.1 in
    let t = c.args.tables.now in
    let next = next-chunk (chunks t.runs t.offsets) c.loop-i.i c.chunk.result c.chunk.ensures.value in
    let answer = rw c.loop-i.invariant.bytes at c.in_err-write_chunk.ensures.answer in
    rw (p.1, p.2) (answer-there _ c.args.channels (chunks t.runs t.offsets) c.loop-i.i c.chunk.result _ c.in_err-write_chunk.field-0.0 next c.in_err-write_chunk.ensures.not_done (answer h) (c.loop-i.invariant.answer h))

pub returns-in_err-write_chunk-clause-err : goal.returns-in_err-write_chunk-clause-err
returns-in_err-write_chunk-clause-err g c h =
    let t = c.args.tables.now in
    let next = next-chunk (chunks t.runs t.offsets) c.loop-i.i c.chunk.result c.chunk.ensures.value in
    let err = rw c.loop-i.invariant.bytes at c.in_err-write_chunk.ensures.err in
    any_err c.from_residual.result (written-front (g.M.ByteStore.bytes c.args.movie.now) c.args.channels (chunks t.runs t.offsets) c.loop-i.i c.chunk.result _ _ _ h next (c.loop-i.invariant.copied h) err)

pub returns-in_err-write_chunk-clause-extends : goal.returns-in_err-write_chunk-clause-extends
returns-in_err-write_chunk-clause-extends g c = extends-front c.loop-i.invariant.extends c.in_err-write_chunk.ensures.err

pub loop-i-preserved : goal.loop-i-preserved
loop-i-preserved g c =
    let t = c.args.tables.now in
    let next = next-chunk (chunks t.runs t.offsets) c.loop-i.i c.chunk.result c.chunk.ensures.value in
    let answer = rw c.loop-i.invariant.bytes at c.in_ok-write_chunk.ensures.answer in
    let ok = rw c.loop-i.invariant.bytes at c.in_ok-write_chunk.ensures.ok in
    record {
      answer = λ h. answer-on _ c.args.channels (chunks t.runs t.offsets) c.loop-i.i c.chunk.result _ next (answer h) (c.loop-i.invariant.answer h);
      copied = λ h. written-on (g.M.ByteStore.bytes c.args.movie.now) c.args.channels (chunks t.runs t.offsets) c.loop-i.i c.chunk.result _ _ _ h next (c.loop-i.invariant.copied h) ok;
      extends = extends-copied c.loop-i.invariant.extends c.in_ok-write_chunk.ensures.ok;
      length = c.in_ok-write_chunk.ensures.length ∙ c.loop-i.invariant.length;
      bytes = search rules;
      read = search rules;
      write = search rules;
    }

pub returns-clause-answer : goal.returns-clause-answer
returns-clause-answer g c h =
    let t = c.args.tables.now in
    let all : length (chunks t.runs t.offsets) ≤ c.loop-i.i = omega (arith, chunks-counted t.runs 1 t.offsets, c.loop-i-test.false, c.count-i-end.ensures.value) in
    answer-all _ c.args.channels (chunks t.runs t.offsets) c.loop-i.i _ all (c.loop-i.invariant.answer h)

pub returns-clause-ok : goal.returns-clause-ok
returns-clause-ok g c h =
    let t = c.args.tables.now in
    let all : length (chunks t.runs t.offsets) ≤ c.loop-i.i = omega (arith, chunks-counted t.runs 1 t.offsets, c.loop-i-test.false, c.count-i-end.ensures.value) in
    written-all _ (chunks t.runs t.offsets) c.loop-i.i _ _ all (c.loop-i.invariant.copied h)
