use Rattle.std.specs.List.{flat_map}
use Rattle.std.proofs.lemmas.Result.{on_err_weaker, on_ok_weaker}
use Rattle.pw_outside.proofs.Puts.{part_front}
use Rattle.pw_outside.proofs.Results.{any_err}
use Rattle.rate_least.specs.Files.{pair_bytes, layer_bytes}
use Rattle.rate_least.proofs.Written.{one_front, two_front, two_all, layer_whole}
use Rattle.rate_least.proofs.writing.write_layer.Goals as goal

pub returns-in_err-put_all-clause-front : goal.returns-in_err-put_all-clause-front
returns-in_err-put_all-clause-front g c =
    let l = c.args.layer.now in
    let text = c.to_be_bytes.result in
    any_err c.from_residual.result (one_front text (flat_map pair_bytes l) (layer_bytes l) (layer_whole l text c.to_be_bytes.ensures) (part_front c.in_err-put_all.ensures.err))

pub returns-clause-all : goal.returns-clause-all
returns-clause-all g c =
    let l = c.args.layer.now in
    let text = c.to_be_bytes.result in
    on_ok_weaker c.write_pairs.result (λ all. two_all text (flat_map pair_bytes l) (layer_bytes l) (layer_whole l text c.to_be_bytes.ensures) c.in_ok-put_all.ensures.ok all) c.write_pairs.ensures.all

pub returns-clause-front : goal.returns-clause-front
returns-clause-front g c =
    let l = c.args.layer.now in
    let text = c.to_be_bytes.result in
    on_err_weaker c.write_pairs.result (λ front. two_front text (flat_map pair_bytes l) (layer_bytes l) (layer_whole l text c.to_be_bytes.ensures) c.in_ok-put_all.ensures.ok front) c.write_pairs.ensures.front
