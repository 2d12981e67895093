use Rattle.std.proofs.Common.{◌∙◌}
use Rattle.pw_outside.proofs.Results.{any_err}
use Rattle.rate_cert.specs.Layers.{close_pairs_bytes, close_bytes}
use Rattle.rate_cert.proofs.Gathering.{one_front, two_front, gathers_two, close_whole}
use Rattle.rate_cert.proofs.layer_bytes.add_close.Goals as goal

pub returns-in_err-add-clause-err : goal.returns-in_err-add-clause-err
returns-in_err-add-clause-err g c =
    let l = c.args.layer.now in
    let text = c.as_slice.result.now in
    any_err c.from_residual.result (one_front c.args.gathered.now.items text (close_pairs_bytes l) (close_bytes l) (close_whole l text (c.as_slice.ensures.value ∙ c.bytes_of_number.ensures)) c.in_err-add.ensures.err)

pub returns-in_err-add_close_pairs-clause-err : goal.returns-in_err-add_close_pairs-clause-err
returns-in_err-add_close_pairs-clause-err g c =
    let l = c.args.layer.now in
    let text = c.as_slice.result.now in
    any_err c.from_residual-in_err-add_close_pairs.result (two_front text (close_pairs_bytes l) (close_bytes l) (close_whole l text (c.as_slice.ensures.value ∙ c.bytes_of_number.ensures)) c.in_ok-add.ensures.ok c.in_err-add_close_pairs.ensures.err)

pub returns-clause-ok : goal.returns-clause-ok
returns-clause-ok g c =
    let l = c.args.layer.now in
    let text = c.as_slice.result.now in
    gathers_two text (close_pairs_bytes l) (close_bytes l) (close_whole l text (c.as_slice.ensures.value ∙ c.bytes_of_number.ensures)) c.in_ok-add.ensures.ok c.in_ok-add_close_pairs.ensures.ok
