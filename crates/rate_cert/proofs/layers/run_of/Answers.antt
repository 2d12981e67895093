use Rattle.std.proofs.Common.{◌∷◌, [], List, Ok, sym, ap, subst, ◌∙◌, arith, rules, length-append}
use Rattle.std.specs.List.{All}
use Rattle.pw_outside.specs.Reading.{Read, rest_of}
use Rattle.rate_table.specs.declared.entry.Pair.{Pair}
use Rattle.rate_table.specs.declared.fault.ProofKind.{ProofKind}
use Rattle.std.proofs.lemmas.Result.{err_from_is_err_and}
use Rattle.std.proofs.lemmas.List.Elements.{All-push}
use Rattle.rate_cert.specs.Files.{IsPair}
use Rattle.rate_cert.proofs.InTurn.{run-more, run-end, run-all, rises-push}
use Rattle.rate_cert.proofs.layers.run_of.Goals as goal

pub returns-in_err-last-clause-bytes : goal.returns-in_err-last-clause-bytes
returns-in_err-last-clause-bytes g c =
    let p = err_from_is_err_and c.from_residual-in_err-last.result c.from_residual-in_err-last.ensures.1 in
    rw (p.1, p.2) (record {
      told = λ h. tt;
      answer = λ h. run-end c.in_err-last.field-0.0 c.loop.pairs.items c.args.count c.loop.counter c.loop.last _ _ c.loop-test.true (c.in_err-last.ensures.bytes.answer (c.loop.invariant.told h)) (c.loop.invariant.bytes h);
    })

pub loop-preserved : goal.loop-preserved
loop-preserved g c =
    let p = c.in_ok-last.last in
    rw c.in_ok-push.ensures.items (record {
      count = omega (arith, length-append c.loop.pairs.items (c.loop.last ∷ []));
      place = search rules;
      pairs = All-push IsPair c.loop.pairs.items c.loop.last c.loop.invariant.pairs c.loop.invariant.last;
      last = c.in_ok-last.ensures.pair;
      order = rises-push c.loop.pairs.items c.loop.last p c.loop.invariant.order c.in_ok-last.ensures.behind.0 c.in_ok-last.ensures.behind.1;
      told = λ h. c.in_ok-last.ensures.bytes.told (c.loop.invariant.told h);
      bytes = λ h. run-more c.loop.pairs.items c.args.count c.loop.counter c.loop.last _ _ p _ c.loop-test.true (c.in_ok-last.ensures.bytes.answer (c.loop.invariant.told h)) (c.loop.invariant.bytes h);
      becomes = λ first h. c.in_ok-last.ensures.becomes first (c.loop.invariant.becomes first h);
      cause = search rules;
    })

pub returns-clause-bytes : goal.returns-clause-bytes
returns-clause-bytes g c = record {
  told = c.loop.invariant.told;
  answer = λ h. run-all c.loop.pairs.items c.args.count c.loop.counter c.loop.last _ _ c.loop-test.false (c.loop.invariant.bytes h)
      ∙ ap (λ (l : List Pair). let r : Read ProofKind (List Pair) = Ok (l, rest_of c.loop.place (g.S.ByteSource.left c.loop.source)) in r) (sym c.in_ok-push-2.ensures.items);
}

pub returns-clause-pairs : goal.returns-clause-pairs
returns-clause-pairs g c = subst (All IsPair) (sym c.in_ok-push-2.ensures.items) (All-push IsPair c.loop.pairs.items c.loop.last c.loop.invariant.pairs c.loop.invariant.last)
