use Rattle.std.proofs.Common.{◌+◌, ◌≤◌, List, length, map, drop, sym, subst, ◌∙◌, arith}
use Rattle.std.specs.List.{flat_map}
use Rattle.pw_outside.proofs.Results.{any_err}
use Rattle.rate_table.specs.declared.entry.Pair.{Pair}
use Rattle.rate_table.specs.Pairs.{RisesAndFalls}
use Rattle.rate_cert.specs.Layers.{most_pairs, layer_bytes}
use Rattle.rate_cert.proofs.Gathering.{pairs_in, partly_more, partly_end, layers_left, one_layer, one_order}
use Rattle.rate_cert.proofs.layer_bytes.add_layers.Goals as goal

pub add_layer-requires-clause-few : goal.add_layer-requires-clause-few
add_layer-requires-clause-few g c =
    subst (λ (l : List Pair). length l ≤ most_pairs) (sym c.as_slice.ensures.value)
    (omega (arith, one_layer c.args.layers.now c.loop-layer.layer-index c.layer-item.result c.loop-layer-test.true c.layer-item.is, c.requires.few))

pub add_layer-requires-clause-order : goal.add_layer-requires-clause-order
add_layer-requires-clause-order g c e =
    subst RisesAndFalls (sym c.as_slice.ensures.value) (one_order c.args.layers.now c.loop-layer.layer-index c.layer-item.result c.loop-layer-test.true c.layer-item.is (c.requires.order e))

pub returns-in_err-add_layer-clause-err : goal.returns-in_err-add_layer-clause-err
returns-in_err-add_layer-clause-err g c =
    let n = c.loop-layer.layer-index in
    let xs = c.args.layers.now in
    let text = c.as_slice.result.now in
    any_err c.from_residual.result (partly_end (layer_bytes c.args.format text) (flat_map (layer_bytes c.args.format) (map pairs_in (drop (n + 1) xs)))
    (layers_left c.args.format xs n c.layer-item.result text c.loop-layer-test.true c.layer-item.is c.as_slice.ensures.value) c.loop-layer.invariant.partly c.in_err-add_layer.ensures.err)

pub loop-layer-preserved : goal.loop-layer-preserved
loop-layer-preserved g c =
    let n = c.loop-layer.layer-index in
    let xs = c.args.layers.now in
    let text = c.as_slice.result.now in
    record {
      partly = partly_more (layer_bytes c.args.format text) (flat_map (layer_bytes c.args.format) (map pairs_in (drop (n + 1) xs)))
          (layers_left c.args.format xs n c.layer-item.result text c.loop-layer-test.true c.layer-item.is c.as_slice.ensures.value) c.loop-layer.invariant.partly c.in_ok-add_layer.ensures.ok;
      settled = omega (arith, c.loop-layer.invariant.settled, c.in_ok-add_layer.ensures.settled);
      cause = c.in_ok-add_layer.ensures.cause.kept ∙ c.loop-layer.invariant.cause;
    }
