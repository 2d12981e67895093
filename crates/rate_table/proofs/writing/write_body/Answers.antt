use Rattle.std.proofs.Common.{subst}
use Rattle.std.proofs.lemmas.Result.{err_from_is_err_and, on_err_weaker, on_ok_weaker}
use Rattle.pw_outside.specs.Writing.{sink_state, Puts, PutsFront}
use Rattle.rate_table.specs.Table.{Table}
use Rattle.rate_table.specs.Body.{body_bytes}
use Rattle.pw_outside.proofs.Puts.{part_front}
use Rattle.rate_table.proofs.Parts.{body-start, body-slices, body-front}
use Rattle.rate_table.proofs.writing.write_body.Goals as goal

pub returns-in_err-put_all-clause-front : goal.returns-in_err-put_all-clause-front
returns-in_err-put_all-clause-front g c =
    let p = err_from_is_err_and c.from_residual.result c.from_residual.ensures.1 in
    let t : Table = record { budget = c.table.inside.budget; fixed = c.table.inside.fixed; slices = c.table.inside.slices } in
    rw (p.1) (subst (λ t. PutsFront (sink_state (g.K.ByteSink.held c.args.sink.now) (g.K.ByteSink.taken c.args.sink.now)) (sink_state (g.K.ByteSink.held c.put_all.new.sink) (g.K.ByteSink.taken c.put_all.new.sink)) (body_bytes t)) c.table.view_is
    (body-start t _ c.as_slice-slices.ensures.slices _ c.bytes_of_start-start.ensures (part_front c.in_err-put_all.ensures.err)))

pub returns-clause-all : goal.returns-clause-all
returns-clause-all g c =
    let t : Table = record { budget = c.table.inside.budget; fixed = c.table.inside.fixed; slices = c.table.inside.slices } in
    on_ok_weaker c.write_slices.result
    (λ all. subst (λ t. Puts (sink_state (g.K.ByteSink.held c.args.sink.now) (g.K.ByteSink.taken c.args.sink.now)) (sink_state (g.K.ByteSink.held c.write_slices.new.sink) (g.K.ByteSink.taken c.write_slices.new.sink)) (body_bytes t)) c.table.view_is
    (body-slices t _ c.as_slice-slices.ensures.slices _ c.bytes_of_start-start.ensures c.in_ok-put_all.ensures.ok all))
    c.write_slices.ensures.all

pub returns-clause-front : goal.returns-clause-front
returns-clause-front g c =
    let t : Table = record { budget = c.table.inside.budget; fixed = c.table.inside.fixed; slices = c.table.inside.slices } in
    on_err_weaker c.write_slices.result
    (λ front. subst (λ t. PutsFront (sink_state (g.K.ByteSink.held c.args.sink.now) (g.K.ByteSink.taken c.args.sink.now)) (sink_state (g.K.ByteSink.held c.write_slices.new.sink) (g.K.ByteSink.taken c.write_slices.new.sink)) (body_bytes t)) c.table.view_is
    (body-front t _ c.as_slice-slices.ensures.slices _ c.bytes_of_start-start.ensures c.in_ok-put_all.ensures.ok front))
    c.write_slices.ensures.front
