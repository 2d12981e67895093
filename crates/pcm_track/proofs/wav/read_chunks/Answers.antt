use Rattle.std.proofs.Common.{rules, arith, ◌+◌, ◌-◌, ◌∙◌, ap, subst, Ok}
use Rattle.std.proofs.lemmas.Result.{err_from_is_err_and}
use Rattle.pw_outside.specs.Reading.{rest_of}
use Rattle.pw_outside.proofs.Chains.{fails-whole}
use Rattle.pcm_track.specs.Faults.{told_fault}
use Rattle.pcm_track.specs.Wav.{IsMet}
use Rattle.pcm_track.proofs.ChunkWalk.{one_less, chunk-err, chunk-format, chunk-other, chunk-data, last-err, last-form}
use Rattle.pcm_track.proofs.wav.read_chunks.Goals as goal
use Rattle.pcm_track.proofs.wav.read_chunks.Goals.{in-Format, in-Other}

pub returns-in_err-format-clause-bytes : goal.returns-in_err-format-clause-bytes
returns-in_err-format-clause-bytes g c =
    let p = err_from_is_err_and c.from_residual.result c.from_residual.ensures.1 in
    let n = c.loop.counter in
    rw (p.1, p.2) (record {
      told = λ h. tt;
      answer = λ h. fails-whole told_fault c.in_err-format.field-0.0 _ _
          (λ f e. c.loop.invariant.same h ∙ chunk-err (1000 - n) (1000 - (n + 1)) c.loop.known _ f (one_less n c.loop-test.true) e) (c.in_err-format.ensures.bytes.answer (c.loop.invariant.told h));
    })

pub returns-in-Data-clause-bytes : goal.returns-in-Data-clause-bytes
returns-in-Data-clause-bytes g c =
    let n = c.loop.counter in
    let rest = rest_of c.read_chunk.new.place (g.S.ByteSource.left c.read_chunk.new.source) in
    record {
      told = λ h. c.in_ok-format.ensures.bytes.told (c.loop.invariant.told h);
      answer = λ h. c.loop.invariant.same h ∙ chunk-data (1000 - n) (1000 - (n + 1)) c.loop.known _ _ c.in-Data.form (one_less n c.loop-test.true) (c.in_ok-format.ensures.bytes.answer (c.loop.invariant.told h) ∙ ap (λ m. Ok (m, rest)) c.in-Data.is);
    }

pub loop-preserved : goal.loop-preserved
loop-preserved g c =
    let n = c.loop.counter in
    let count = one_less n c.loop-test.true in
    let answer = c.in_ok-format.ensures.bytes in
    let rest = rest_of c.read_chunk.new.place (g.S.ByteSource.left c.read_chunk.new.source) in
    elim c.match-branch-2.branch [
      | in-Format w ↦ rw w.known-is (record {
        known = subst IsMet w.in-Format.is c.in_ok-format.ensures.met;
        place = omega (arith, c.in_ok-format.ensures.place, c.loop.invariant.place);
        told = λ h. answer.told (c.loop.invariant.told h);
        same = λ h. c.loop.invariant.same h ∙ chunk-format (1000 - n) (1000 - (n + 1)) c.loop.known _ _ w.in-Format.format count (answer.answer (c.loop.invariant.told h) ∙ ap (λ m. Ok (m, rest)) w.in-Format.is);
        cause = search rules;
      })
      | in-Other w ↦ rw w.known-is (record {
        known = c.loop.invariant.known;
        place = omega (arith, c.in_ok-format.ensures.place, c.loop.invariant.place);
        told = λ h. answer.told (c.loop.invariant.told h);
        same = λ h. c.loop.invariant.same h ∙ chunk-other (1000 - n) (1000 - (n + 1)) c.loop.known _ _ count (answer.answer (c.loop.invariant.told h) ∙ ap (λ m. Ok (m, rest)) w.in-Other.is);
        cause = search rules;
      })
    ]

pub returns-in_err-_kind-clause-bytes : goal.returns-in_err-_kind-clause-bytes
returns-in_err-_kind-clause-bytes g c =
    let p = err_from_is_err_and c.from_residual-in_err-_kind.result c.from_residual-in_err-_kind.ensures.1 in
    let n = c.loop.counter in
    rw (p.1, p.2) (record {
      told = λ h. tt;
      answer = λ h. fails-whole told_fault c.in_err-_kind.field-0.0 _ _
          (λ f e. c.loop.invariant.same h ∙ last-err (1000 - n) c.loop.known _ f (omega (arith, c.loop-test.false)) e) (c.in_err-_kind.ensures.bytes.answer (c.loop.invariant.told h));
    })

pub returns-clause-bytes : goal.returns-clause-bytes
returns-clause-bytes g c =
    rw c.bad.ensures (record {
      told = λ h. tt;
      answer = λ h. c.loop.invariant.same h ∙ last-form (1000 - c.loop.counter) c.loop.known _ _ _ (omega (arith, c.loop-test.false)) (c.in_ok-_kind.ensures.bytes.answer (c.loop.invariant.told h));
    })
