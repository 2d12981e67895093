use Rattle.std.specs.List.{flat_map}
use Rattle.pw_outside.proofs.Results.{any_err}
use Rattle.rate_cert.specs.Layers.{pair_bytes, wide_bytes}
use Rattle.rate_cert.proofs.Gathering.{one_front, two_front, gathers_two, wide_whole}
use Rattle.rate_cert.proofs.layer_bytes.add_wide.Goals as goal

pub returns-in_err-add-clause-err : goal.returns-in_err-add-clause-err
returns-in_err-add-clause-err g c =
    let l = c.args.layer.now in
    let text = c.to_be_bytes.result in
    any_err c.from_residual.result (one_front c.args.gathered.now.items text (flat_map pair_bytes l) (wide_bytes l) (wide_whole l text c.to_be_bytes.ensures) c.in_err-add.ensures.err)

pub returns-in_err-add_pairs-clause-err : goal.returns-in_err-add_pairs-clause-err
returns-in_err-add_pairs-clause-err g c =
    let l = c.args.layer.now in
    let text = c.to_be_bytes.result in
    any_err c.from_residual-in_err-add_pairs.result (two_front text (flat_map pair_bytes l) (wide_bytes l) (wide_whole l text c.to_be_bytes.ensures) c.in_ok-add.ensures.ok c.in_err-add_pairs.ensures.err)

pub returns-clause-ok : goal.returns-clause-ok
returns-clause-ok g c =
    let l = c.args.layer.now in
    let text = c.to_be_bytes.result in
    gathers_two text (flat_map pair_bytes l) (wide_bytes l) (wide_whole l text c.to_be_bytes.ensures) c.in_ok-add.ensures.ok c.in_ok-add_pairs.ensures.ok
