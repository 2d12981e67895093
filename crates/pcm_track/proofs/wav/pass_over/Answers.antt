use Rattle.std.proofs.Common.{rules, arith, ◌≡◌, ◌≤◌, ◌∙◌}
use Rattle.std.proofs.lemmas.Result.{err_from_is_err_and}
use Rattle.pw_outside.proofs.Chains.{fails-whole}
use Rattle.pcm_track.specs.Faults.{told_fault}
use Rattle.pcm_track.proofs.Passing.{passed-step, passed-err, passed-none}
use Rattle.pcm_track.proofs.wav.pass_over.Goals as goal

pub returns-in_err-pass_piece-clause-bytes : goal.returns-in_err-pass_piece-clause-bytes
returns-in_err-pass_piece-clause-bytes g c =
    let p = err_from_is_err_and c.from_residual.result c.from_residual.ensures.1 in
    let le : c.min-piece.result ≤ c.loop-left.left = search rules in
    rw (p.1, p.2) (record {
      told = λ h. tt;
      answer = λ h. fails-whole told_fault c.in_err-pass_piece.field-0.0 _ _
          (λ f e. c.loop-left.invariant.same h ∙ passed-err c.min-piece.result c.loop-left.left _ f le e) (c.in_err-pass_piece.ensures.bytes.answer (c.loop-left.invariant.told h));
    })

pub loop-left-preserved : goal.loop-left-preserved
loop-left-preserved g c =
    let le : c.min-piece.result ≤ c.loop-left.left = search rules in
    record {
      told = λ h. c.in_ok-pass_piece.ensures.bytes.told (c.loop-left.invariant.told h);
      same = λ h. c.loop-left.invariant.same h ∙ passed-step c.min-piece.result c.loop-left.left _ _ le (c.in_ok-pass_piece.ensures.bytes.answer (c.loop-left.invariant.told h));
      place = omega (arith, le, c.in_ok-pass_piece.ensures.place, c.loop-left.invariant.place);
      cause = search rules;
    }

pub returns-clause-bytes : goal.returns-clause-bytes
returns-clause-bytes g c =
    let none : c.loop-left.left ≡ 0 = omega (arith, c.loop-left-test.false) in
    record {
      told = c.loop-left.invariant.told;
      answer = λ h. c.loop-left.invariant.same h ∙ (rw none (passed-none _));
    }
