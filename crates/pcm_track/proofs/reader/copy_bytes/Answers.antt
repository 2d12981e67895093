use Rattle.std.proofs.Common.{rules, arith, refl, ◌≡◌, ◌+◌, ◌-◌, ◌≤◌, ◌∙◌, subst}
use Rattle.std.proofs.lemmas.Result.{err_from_is_err_and}
use Rattle.pw_outside.specs.Writing.{sink_state}
use Rattle.pw_outside.proofs.Chains.{fails-whole}
use Rattle.pcm_track.specs.Faults.{told_copy}
use Rattle.pcm_track.specs.Writing.{Copied}
use Rattle.pcm_track.proofs.Passing.{passed-step, passed-err, passed-none}
use Rattle.pcm_track.proofs.Pieces.{Behind, behind-then, behind-passed, copied_then, copied_then_front, front_of_more, any_err, counted}
use Rattle.pcm_track.proofs.reader.copy_bytes.Goals as goal

pub returns-in_err-copy_piece-clause-bytes : goal.returns-in_err-copy_piece-clause-bytes
returns-in_err-copy_piece-clause-bytes g c =
    let p = err_from_is_err_and c.from_residual.result c.from_residual.ensures.1 in
    let le : c.min-piece.result ≤ c.loop-left.left = search rules in
    rw (p.1, p.2) (record {
      told = λ h. tt;
      answer = λ h. fails-whole told_copy c.in_err-copy_piece.field-0.0 _ _
          (λ f e. c.loop-left.invariant.same h ∙ passed-err c.min-piece.result c.loop-left.left _ f le e) (c.in_err-copy_piece.ensures.bytes.answer (c.loop-left.invariant.told h));
    })

pub returns-in_err-copy_piece-clause-err : goal.returns-in_err-copy_piece-clause-err
returns-in_err-copy_piece-clause-err g c =
    let le : c.min-piece.result ≤ c.loop-left.left = search rules in
    any_err c.from_residual.result (front_of_more c.args.count (omega (arith, le, c.loop-left.invariant.within))
    (copied_then_front c.loop-left.invariant.ahead c.loop-left.invariant.copied c.in_err-copy_piece.ensures.err))

pub loop-left-preserved : goal.loop-left-preserved
loop-left-preserved g c =
    let n = c.min-piece.result in
    let le : n ≤ c.loop-left.left = search rules in
    let source = c.copy_piece.new.source in
    let sink = c.copy_piece.new.sink in
    let answer = c.in_ok-copy_piece.ensures.bytes in
    let more : (c.args.count - c.loop-left.left) + n ≡ c.args.count - (c.loop-left.left - n) = counted c.args.count c.loop-left.left n (c.loop-left.left - n) c.loop-left.invariant.within le refl in
    let here : Behind (g.S.ByteSource.left c.loop-left.source) (g.S.ByteSource.left source) n = behind-passed _ _ n c.loop-left.place c.copy_piece.new.place answer.told answer.answer in
    record {
      within = omega (arith, le, c.loop-left.invariant.within);
      told = λ h. answer.told (c.loop-left.invariant.told h);
      same = λ h. c.loop-left.invariant.same h ∙ passed-step n c.loop-left.left _ _ le (answer.answer (c.loop-left.invariant.told h));
      ahead = subst (Behind (g.S.ByteSource.left c.args.source.now) (g.S.ByteSource.left source)) more (behind-then _ _ _ (c.args.count - c.loop-left.left) n c.loop-left.invariant.ahead here);
      copied = subst (λ k. Copied (g.S.ByteSource.left c.args.source.now) k (sink_state (g.K.ByteSink.held c.args.sink.now) (g.K.ByteSink.taken c.args.sink.now)) (sink_state (g.K.ByteSink.held sink) (g.K.ByteSink.taken sink))) more
          (copied_then c.loop-left.invariant.ahead c.loop-left.invariant.copied c.in_ok-copy_piece.ensures.ok);
      place = omega (arith, le, c.in_ok-copy_piece.ensures.place, c.loop-left.invariant.place);
      settled = search rules;
      read = search rules;
      write = search rules;
    }

pub returns-clause-bytes : goal.returns-clause-bytes
returns-clause-bytes g c =
    let none : c.loop-left.left ≡ 0 = omega (arith, c.loop-left-test.false) in
    record {
      told = c.loop-left.invariant.told;
      answer = λ h. c.loop-left.invariant.same h ∙ (rw none (passed-none _));
    }
