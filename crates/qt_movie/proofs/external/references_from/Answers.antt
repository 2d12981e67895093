use Rattle.std.proofs.Common.{rules, arith, ap, ◌∙◌, Ok}
use Rattle.qt_atoms.proofs.Heads.{ok-is}
use Rattle.qt_movie.proofs.InOrder.{references-more, references-end}
use Rattle.qt_movie.proofs.external.references_from.Goals as goal

pub returns-in-None-clause-value : goal.returns-in-None-clause-value
returns-in-None-clause-value g c h =
    let here = rw c.loop.invariant.bytes at c.in_ok-reference_of.ensures.value in
    ap Ok (references-end _ _ c.loop.references.items c.args.count c.loop.counter _ _ c.loop-test.true (ok-is _ _ (here h) ∙ c.in-None.is) (c.loop.invariant.value h))

pub loop-preserved : goal.loop-preserved
loop-preserved g c =
    let items = c.loop.references.items in
    let r = c.in-Some.reference in
    let here = rw c.loop.invariant.bytes at c.in_ok-reference_of.ensures.value in
    let within = rw c.in-Some.is at c.in_ok-reference_of.ensures.within in
    rw (c.in_ok-push-in-Some.ensures.items, c.from-place.ensures) (record {
      within = omega (arith, within);
      value = λ h. references-more _ _ items c.args.count c.loop.counter _ r _ c.loop-test.true (ok-is _ _ (here h) ∙ c.in-Some.is) (c.loop.invariant.value h);
      bytes = search rules;
      cause = search rules;
    })
