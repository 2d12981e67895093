use Rattle.std.proofs.Common.{◌∷◌, [], ℕ, ◌+◌, ap, List, length, map, ◌≡◌, arith, rules, length-append, Vec, Global}
use Rattle.std.specs.List.{All}
use Rattle.std.specs.Vec.{vec_len}
use Rattle.std.proofs.lemmas.Result.{err_from_is_err_and}
use Rattle.std.proofs.lemmas.List.{map_push}
use Rattle.std.proofs.lemmas.List.Elements.{All-push}
use Rattle.std.proofs.lemmas.List.Sums.{sum_by_push}
use Rattle.rate_least.specs.declared.outcome.WidePair.{WidePair}
use Rattle.rate_least.specs.Files.{IsPair}
use Rattle.rate_least.proofs.InTurn.{layers-more, layers-end, layers-all}
use Rattle.rate_least.proofs.reading.layers_of.Goals as goal

abbrev pairs_in : Vec WidePair Global → List WidePair
pairs_in v = v.items

pub returns-in_err-layer-clause-bytes : goal.returns-in_err-layer-clause-bytes
returns-in_err-layer-clause-bytes g c =
    let p = err_from_is_err_and c.from_residual.result c.from_residual.ensures.1 in
    rw (p.1, p.2) (record {
      told = λ h. tt;
      answer = λ h. layers-end c.in_err-layer.field-0.0 (map pairs_in c.loop.layers.items) c.args.count c.loop.counter c.loop.held _ _ c.loop-test.true (c.in_err-layer.ensures.bytes.answer (c.loop.invariant.told h)) (c.loop.invariant.bytes h);
    })

pub loop-preserved : goal.loop-preserved
loop-preserved g c =
    let l = c.in_ok-layer.layer in
    let len : vec_len l ≡ length l.items = omega arith in
    rw (c.in_ok-push.ensures.items, map_push pairs_in c.loop.layers.items l, c.len.ensures) (record {
      count = omega (arith, length-append c.loop.layers.items (l ∷ []), c.loop.invariant.count);
      held = omega (arith, sum_by_push length (map pairs_in c.loop.layers.items) l.items, c.loop.invariant.held);
      few = omega (arith, c.in_ok-layer.ensures.few);
      place = omega (arith, c.in_ok-layer.ensures.place, c.loop.invariant.place);
      pairs = All-push (λ layer. All IsPair layer) (map pairs_in c.loop.layers.items) l.items c.loop.invariant.pairs c.in_ok-layer.ensures.pairs;
      told = λ h. c.in_ok-layer.ensures.bytes.told (c.loop.invariant.told h);
      bytes = λ h. layers-more (map pairs_in c.loop.layers.items) c.args.count c.loop.counter c.loop.held (c.loop.held + vec_len l) _ _ l.items _ c.loop-test.true (ap (λ (n : ℕ). c.loop.held + n) len) (c.in_ok-layer.ensures.bytes.answer (c.loop.invariant.told h)) (c.loop.invariant.bytes h);
      becomes = λ first h. c.in_ok-layer.ensures.becomes first (c.loop.invariant.becomes first h);
      cause = search rules;
    })

pub returns-clause-bytes : goal.returns-clause-bytes
returns-clause-bytes g c = record {
  told = c.loop.invariant.told;
  answer = λ h. layers-all (map pairs_in c.loop.layers.items) c.args.count c.loop.counter c.loop.held _ _ c.loop-test.false (c.loop.invariant.bytes h);
}
