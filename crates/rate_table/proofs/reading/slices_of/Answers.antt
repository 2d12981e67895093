use Rattle.std.proofs.Common.{◌∷◌, [], arith, rules, length-append}
use Rattle.std.proofs.lemmas.Result.{err_from_is_err_and}
use Rattle.std.proofs.lemmas.List.Elements.{All-push}
use Rattle.rate_table.specs.Table.{IsSliceTable}
use Rattle.rate_table.proofs.InTurn.{slices-more, slices-end, slices-all}
use Rattle.rate_table.proofs.reading.slices_of.Goals as goal

pub returns-in_err-slice-clause-bytes : goal.returns-in_err-slice-clause-bytes
returns-in_err-slice-clause-bytes g c =
    let p = err_from_is_err_and c.from_residual.result c.from_residual.ensures.1 in
    rw (p.1, p.2) (record {
      told = λ h. tt;
      answer = λ h. slices-end c.in_err-slice.field-0.0 c.loop.slices.items c.args.count c.loop.counter _ _ c.loop-test.true (c.in_err-slice.ensures.bytes.answer (c.loop.invariant.told h)) (c.loop.invariant.bytes h);
    })

pub loop-preserved : goal.loop-preserved
loop-preserved g c =
    let es = c.in_ok-slice.slice in
    rw c.in_ok-push.ensures.items (record {
      count = omega (arith, length-append c.loop.slices.items (es ∷ []));
      place = search rules;
      each = All-push IsSliceTable c.loop.slices.items es c.loop.invariant.each c.in_ok-slice.ensures.slice;
      told = λ h. c.in_ok-slice.ensures.bytes.told (c.loop.invariant.told h);
      bytes = λ h. slices-more c.loop.slices.items c.args.count c.loop.counter _ _ es _ c.loop-test.true (c.in_ok-slice.ensures.bytes.answer (c.loop.invariant.told h)) (c.loop.invariant.bytes h);
      becomes = λ first h. c.in_ok-slice.ensures.becomes first (c.loop.invariant.becomes first h);
      cause = search rules;
    })

pub returns-clause-bytes : goal.returns-clause-bytes
returns-clause-bytes g c = record {
  told = c.loop.invariant.told;
  answer = λ h. slices-all c.loop.slices.items c.args.count c.loop.counter _ _ c.loop-test.false (c.loop.invariant.bytes h);
}
