use Rattle.std.proofs.Common.{◌∷◌, [], arith, rules, length-append}
use Rattle.std.proofs.lemmas.Result.{err_from_is_err_and}
use Rattle.pr_head.proofs.Bounds.{lowers_then}
use Rattle.pr_head.proofs.Sizes.{sizes-more, sizes-end, sizes-all}
use Rattle.pr_head.proofs.picture.sizes_of.Goals as goal

pub returns-in_err-size-clause-bytes : goal.returns-in_err-size-clause-bytes
returns-in_err-size-clause-bytes g c =
    let p = err_from_is_err_and c.from_residual.result c.from_residual.ensures.1 in
    rw (p.1, p.2) (record {
      told = λ h. tt;
      answer = λ h. sizes-end c.in_err-size.field-0.0 c.loop.sizes.items c.args.at c.args.slices c.loop.counter _ _ c.loop-test.true (c.in_err-size.ensures.bytes.answer (c.loop.invariant.told h)) (c.loop.invariant.bytes h);
    })

pub loop-preserved : goal.loop-preserved
loop-preserved g c =
    let size = c.in_ok-size.size in
    rw c.in_ok-push.ensures.items (record {
      count = omega (arith, length-append c.loop.sizes.items (size ∷ []));
      place = search rules;
      told = λ h. c.in_ok-size.ensures.bytes.told (c.loop.invariant.told h);
      bytes = λ h. sizes-more c.loop.sizes.items c.args.at c.args.slices c.loop.counter _ _ size _ c.loop-test.true (c.in_ok-size.ensures.bytes.answer (c.loop.invariant.told h)) (c.loop.invariant.bytes h);
      most = lowers_then _ _ _ _ _ c.loop.invariant.most c.in_ok-size.ensures.most;
      becomes = λ first h. c.in_ok-size.ensures.becomes first (c.loop.invariant.becomes first h);
      cause = search rules;
    })

pub returns-clause-bytes : goal.returns-clause-bytes
returns-clause-bytes g c = record {
  told = c.loop.invariant.told;
  answer = λ h. sizes-all c.loop.sizes.items c.args.at c.args.slices c.loop.counter _ _ c.loop-test.false (c.loop.invariant.bytes h);
}
