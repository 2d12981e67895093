use Rattle.std.proofs.Common.{List, length, ap, sym, ◌∙◌, ◌≤◌, arith, rules, subst}
use Rattle.std.proofs.lemmas.List.{take_all}
use Rattle.std.specs.List.{flat_map}
use Rattle.pw_outside.specs.Writing.{Puts, PutsFront}
use Rattle.pw_outside.proofs.Results.{any_err}
use Rattle.rate_cert.specs.Layers.{most_pairs}
use Rattle.rate_table.proofs.Parts.{parts-more, parts-end}
use Rattle.rate_least.specs.declared.outcome.WidePair.{WidePair}
use Rattle.rate_least.proofs.Written.{one_layer, vector_bytes, by_vectors, layer_item}
use Rattle.rate_least.proofs.writing.write_layers.Goals as goal

pub write_layer-requires : goal.write_layer-requires
write_layer-requires g c =
    subst (λ (l : List WidePair). length l ≤ most_pairs) (sym c.as_slice.ensures.value)
    (omega (arith, one_layer c.args.layers.now c.loop-layer.layer-index c.layer-item.result c.loop-layer-test.true c.layer-item.is, c.requires))

pub returns-in_err-write_layer-clause-front : goal.returns-in_err-write_layer-clause-front
returns-in_err-write_layer-clause-front g c =
    let xs = c.args.layers.now in
    any_err c.from_residual.result (subst (PutsFront _ _) (by_vectors xs) (parts-end vector_bytes xs c.loop-layer.layer-index c.layer-item.result c.loop-layer-test.true c.loop-layer.invariant.all
    (subst (PutsFront _ _) (layer_item xs c.loop-layer.layer-index c.layer-item.result c.as_slice.result.now c.layer-item.is c.as_slice.ensures.value) c.in_err-write_layer.ensures.front)))

pub loop-layer-preserved : goal.loop-layer-preserved
loop-layer-preserved g c =
    let xs = c.args.layers.now in
    record {
      all = parts-more vector_bytes xs c.loop-layer.layer-index c.layer-item.result c.loop-layer-test.true c.loop-layer.invariant.all
          (subst (Puts _ _) (layer_item xs c.loop-layer.layer-index c.layer-item.result c.as_slice.result.now c.layer-item.is c.as_slice.ensures.value) c.in_ok-write_layer.ensures.all);
      settled = search rules;
      cause = search rules;
    }

pub returns-clause-all : goal.returns-clause-all
returns-clause-all g c =
    let xs = c.args.layers.now in
    subst (Puts _ _) (ap (flat_map vector_bytes) (take_all c.loop-layer.layer-index xs c.loop-layer-test.false) ∙ by_vectors xs) c.loop-layer.invariant.all
