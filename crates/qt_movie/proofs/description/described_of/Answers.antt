use Rattle.std.proofs.Common.{rules, arith}
use Rattle.std.proofs.lemmas.List.Elements.{All-push}
use Rattle.std.proofs.lemmas.Result.{err_from_is_err_and}
use Rattle.qt_movie.specs.Ranges.{HasSize}
use Rattle.qt_movie.proofs.InOrder.{described-more, described-end, described-all}
use Rattle.qt_movie.proofs.description.described_of.Goals as goal

pub returns-in_err-description-clause-value : goal.returns-in_err-description-clause-value
returns-in_err-description-clause-value g c h =
    let p = err_from_is_err_and c.from_residual.result c.from_residual.ensures.1 in
    let here = rw c.loop.invariant.bytes at c.in_err-description.ensures.value in
    rw (p.1, p.2) (described-end c.in_err-description.field-0.0 _ _ c.loop.descriptions.items c.args.count c.loop.counter _ _ c.loop-test.true (here h) (c.loop.invariant.value h))

pub loop-preserved : goal.loop-preserved
loop-preserved g c =
    let items = c.loop.descriptions.items in
    let d = c.in_ok-description.description in
    let here = rw c.loop.invariant.bytes at c.in_ok-description.ensures.value in
    let lies = c.in_ok-description.ensures.lies in
    rw (c.in_ok-push.ensures.items, c.from-place.ensures) (record {
      within = omega (arith, lies.begins, lies.within);
      value = λ h. described-more _ _ items c.args.count c.loop.counter _ d _ c.loop-test.true (here h) (c.loop.invariant.value h);
      sizes = All-push (HasSize c.args.stsd.now.end) items d c.loop.invariant.sizes (λ p. omega (arith, lies.prores p, lies.begins, lies.within));
      bytes = search rules;
      cause = search rules;
    })

pub returns-clause-value : goal.returns-clause-value
returns-clause-value g c h = described-all _ _ c.loop.descriptions.items c.args.count c.loop.counter _ _ c.loop-test.false (c.loop.invariant.value h)
