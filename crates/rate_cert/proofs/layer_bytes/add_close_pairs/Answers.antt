use Rattle.std.proofs.Common.{◌∙◌}
use Rattle.pw_outside.specs.Writing.{sink_state}
use Rattle.pw_outside.proofs.Results.{any_err}
use Rattle.rate_cert.specs.Layers.{steps_bytes, close_pairs_bytes}
use Rattle.rate_cert.proofs.Gathering.{one_front, two_front, gathers_two, gathers_same, close_parts, close_none}
use Rattle.rate_cert.proofs.layer_bytes.add_close_pairs.Goals as goal

pub returns-in_err-add-in-Some-clause-err : goal.returns-in_err-add-in-Some-clause-err
returns-in_err-add-in-Some-clause-err g c =
    let l = c.args.layer.now in
    let text = c.as_slice.result.now in
    any_err c.from_residual.result (one_front c.args.gathered.now.items text (steps_bytes c.in-Some.first.now c.in-Some.others.now) (close_pairs_bytes l)
    (close_parts l c.in-Some.others.now c.in-Some.first.now text c.in-Some.ensures.cases.0 (c.as_slice.ensures.value ∙ c.bytes_of_first.ensures)) c.in_err-add-in-Some.ensures.err)

pub returns-in_err-add_steps-in-Some-clause-err : goal.returns-in_err-add_steps-in-Some-clause-err
returns-in_err-add_steps-in-Some-clause-err g c =
    let l = c.args.layer.now in
    let text = c.as_slice.result.now in
    any_err c.from_residual-in_err-add_steps-in-Some.result (two_front text (steps_bytes c.in-Some.first.now c.in-Some.others.now) (close_pairs_bytes l)
    (close_parts l c.in-Some.others.now c.in-Some.first.now text c.in-Some.ensures.cases.0 (c.as_slice.ensures.value ∙ c.bytes_of_first.ensures)) c.in_ok-add-in-Some.ensures.ok c.in_err-add_steps-in-Some.ensures.err)

pub returns-in_ok-add_steps-in-Some-clause-ok : goal.returns-in_ok-add_steps-in-Some-clause-ok
returns-in_ok-add_steps-in-Some-clause-ok g c =
    let l = c.args.layer.now in
    let text = c.as_slice.result.now in
    gathers_two text (steps_bytes c.in-Some.first.now c.in-Some.others.now) (close_pairs_bytes l)
    (close_parts l c.in-Some.others.now c.in-Some.first.now text c.in-Some.ensures.cases.0 (c.as_slice.ensures.value ∙ c.bytes_of_first.ensures)) c.in_ok-add-in-Some.ensures.ok c.in_ok-add_steps-in-Some.ensures.ok

pub returns-in-None-clause-ok : goal.returns-in-None-clause-ok
returns-in-None-clause-ok g c =
    gathers_same (sink_state (g.K.ByteSink.held c.args.sink.now) (g.K.ByteSink.taken c.args.sink.now)) c.args.gathered.now.items (close_pairs_bytes c.args.layer.now) (g.met.K.ByteSink.counts c.args.sink.now).1 (close_none c.args.layer.now c.in-None.ensures.cases)
