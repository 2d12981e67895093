use Rattle.std.proofs.Common.{arith, rules}
use Rattle.std.proofs.lemmas.Result.{err_from_is_err_and}
use Rattle.pr_head.proofs.Bounds.{lowers_then}
use Rattle.pr_head.proofs.Passing.{passed-more, passed-end, passed-all}
use Rattle.pr_head.proofs.pieces.pass.Goals as goal

pub returns-in_err-pass_some-clause-bytes : goal.returns-in_err-pass_some-clause-bytes
returns-in_err-pass_some-clause-bytes g c =
    let p = err_from_is_err_and c.from_residual.result c.from_residual.ensures.1 in
    rw (p.1, p.2) (record {
      told = λ h. tt;
      answer = λ h. passed-end c.in_err-pass_some.field-0.0 c.args.kind c.args.at c.loop-left.left _ _ _ (omega arith) (c.in_err-pass_some.ensures.bytes.answer (c.loop-left.invariant.told h)) (c.loop-left.invariant.bytes h);
    })

pub loop-left-preserved : goal.loop-left-preserved
loop-left-preserved g c = record {
  place = search rules;
  told = λ h. c.in_ok-pass_some.ensures.bytes.told (c.loop-left.invariant.told h);
  bytes = λ h. passed-more c.args.kind c.args.at c.loop-left.left _ _ _ _ (omega arith) (c.in_ok-pass_some.ensures.bytes.answer (c.loop-left.invariant.told h)) (c.loop-left.invariant.bytes h);
  most = lowers_then _ _ _ _ _ c.loop-left.invariant.most c.in_ok-pass_some.ensures.most;
  becomes = λ first h. c.in_ok-pass_some.ensures.becomes first (c.loop-left.invariant.becomes first h);
  cause = search rules;
}

pub returns-clause-bytes : goal.returns-clause-bytes
returns-clause-bytes g c = record {
  told = c.loop-left.invariant.told;
  answer = λ h. passed-all c.args.kind c.args.at c.loop-left.left _ _ c.loop-left-test.false (c.loop-left.invariant.bytes h);
}
