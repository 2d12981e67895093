use Rattle.std.proofs.Common.{◌∷◌, [], arith, rules, length-append}
use Rattle.std.proofs.lemmas.Result.{err_from_is_err_and}
use Rattle.rate_least.proofs.InTurn.{pairs-more, pairs-end, pairs-all}
use Rattle.rate_least.proofs.reading.pairs_of.Goals as goal

pub returns-in_err-pair-clause-bytes : goal.returns-in_err-pair-clause-bytes
returns-in_err-pair-clause-bytes g c =
    let p = err_from_is_err_and c.from_residual.result c.from_residual.ensures.1 in
    rw (p.1, p.2) (record {
      told = λ h. tt;
      answer = λ h. pairs-end c.in_err-pair.field-0.0 c.loop.pairs.items c.args.count c.loop.counter _ _ c.loop-test.true (c.in_err-pair.ensures.bytes.answer (c.loop.invariant.told h)) (c.loop.invariant.bytes h);
    })

pub loop-preserved : goal.loop-preserved
loop-preserved g c =
    let p = c.in_ok-pair.pair in
    rw c.in_ok-push.ensures.items (record {
      count = omega (arith, length-append c.loop.pairs.items (p ∷ []));
      pairs = search rules;
      place = search rules;
      told = λ h. c.in_ok-pair.ensures.bytes.told (c.loop.invariant.told h);
      bytes = λ h. pairs-more c.loop.pairs.items c.args.count c.loop.counter _ _ p _ c.loop-test.true (c.in_ok-pair.ensures.bytes.answer (c.loop.invariant.told h)) (c.loop.invariant.bytes h);
      becomes = λ first h. c.in_ok-pair.ensures.becomes first (c.loop.invariant.becomes first h);
      cause = search rules;
    })

pub returns-clause-bytes : goal.returns-clause-bytes
returns-clause-bytes g c = record {
  told = c.loop.invariant.told;
  answer = λ h. pairs-all c.loop.pairs.items c.args.count c.loop.counter _ _ c.loop-test.false (c.loop.invariant.bytes h);
}
