use Rattle.std.proofs.Common.{◌∷◌, [], arith, rules, length-append}
use Rattle.std.proofs.lemmas.Result.{err_from_is_err_and}
use Rattle.rate_table.proofs.InTurn.{indices-more, indices-end, indices-all}
use Rattle.rate_table.proofs.nested.read_indices.Goals as goal

pub returns-in_err-index-clause-bytes : goal.returns-in_err-index-clause-bytes
returns-in_err-index-clause-bytes g c =
    let p = err_from_is_err_and c.from_residual.result c.from_residual.ensures.1 in
    rw (p.1, p.2) (record {
      told = λ h. tt;
      answer = λ h. indices-end c.in_err-index.field-0.0 c.loop.choice.items c.args.count c.loop.counter _ _ c.loop-test.true (c.in_err-index.ensures.bytes.answer (c.loop.invariant.told h)) (c.loop.invariant.bytes h);
    })

pub loop-preserved : goal.loop-preserved
loop-preserved g c =
    let n = c.in_ok-index.index in
    rw c.in_ok-push.ensures.items (record {
      count = omega (arith, length-append c.loop.choice.items (n ∷ []));
      place = search rules;
      indices = search rules;
      told = λ h. c.in_ok-index.ensures.bytes.told (c.loop.invariant.told h);
      bytes = λ h. indices-more c.loop.choice.items c.args.count c.loop.counter _ _ n _ c.loop-test.true (c.in_ok-index.ensures.bytes.answer (c.loop.invariant.told h)) (c.loop.invariant.bytes h);
      becomes = λ first h. c.in_ok-index.ensures.becomes first (c.loop.invariant.becomes first h);
      cause = search rules;
    })

pub returns-clause-bytes : goal.returns-clause-bytes
returns-clause-bytes g c = record {
  told = c.loop.invariant.told;
  answer = λ h. indices-all c.loop.choice.items c.args.count c.loop.counter _ _ c.loop-test.false (c.loop.invariant.bytes h);
}
