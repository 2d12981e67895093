use Rattle.pr_frame.specs.declared.coded.CodedSlice.{CodedSlice}
use Rattle.std.proofs.lemmas.Result.{on_ok_weaker, on_err_weaker}
use Rattle.pw_outside.proofs.Results.{any_err}
use Rattle.pr_frame.proofs.PutSteps.{slice-puts, slice-head, slice-y, slice-cb, slice-cr, slice-alpha}
use Rattle.pr_frame.proofs.write.write_slice.Goals as goal

pub returns-in_err-write_slice_header-clause-err : goal.returns-in_err-write_slice_header-clause-err
returns-in_err-write_slice_header-clause-err g c =
    let s : CodedSlice = record { index = c.args.index; y = c.args.y.now; cb = c.args.cb.now; cr = c.args.cr.now; alpha = c.args.values.now } in
    any_err c.from_residual.result (slice-head c.args.mode c.args.alpha s c.header_of-header.result c.has_alpha.result c.header_of-header.ensures c.has_alpha.ensures c.in_err-write_slice_header.ensures.err)

pub returns-in_err-write_part-clause-err : goal.returns-in_err-write_part-clause-err
returns-in_err-write_part-clause-err g c =
    let s : CodedSlice = record { index = c.args.index; y = c.args.y.now; cb = c.args.cb.now; cr = c.args.cr.now; alpha = c.args.values.now } in
    any_err c.from_residual-in_err-write_part.result (slice-y c.args.mode c.args.alpha s c.header_of-header.result c.has_alpha.result c.header_of-header.ensures c.has_alpha.ensures c.in_ok-write_slice_header.ensures.ok c.in_err-write_part.ensures.err)

pub returns-in_err-write_part-2-clause-err : goal.returns-in_err-write_part-2-clause-err
returns-in_err-write_part-2-clause-err g c =
    let s : CodedSlice = record { index = c.args.index; y = c.args.y.now; cb = c.args.cb.now; cr = c.args.cr.now; alpha = c.args.values.now } in
    any_err c.from_residual-in_err-write_part-2.result (slice-cb c.args.mode c.args.alpha s c.header_of-header.result c.has_alpha.result c.header_of-header.ensures c.has_alpha.ensures c.in_ok-write_slice_header.ensures.ok c.in_ok-write_part.ensures.ok c.in_err-write_part-2.ensures.err)

pub returns-in_err-write_part-3-clause-err : goal.returns-in_err-write_part-3-clause-err
returns-in_err-write_part-3-clause-err g c =
    let s : CodedSlice = record { index = c.args.index; y = c.args.y.now; cb = c.args.cb.now; cr = c.args.cr.now; alpha = c.args.values.now } in
    any_err c.from_residual-in_err-write_part-3.result (slice-cr c.args.mode c.args.alpha s c.header_of-header.result c.has_alpha.result c.header_of-header.ensures c.has_alpha.ensures c.in_ok-write_slice_header.ensures.ok c.in_ok-write_part.ensures.ok c.in_ok-write_part-2.ensures.ok c.in_err-write_part-3.ensures.err)

pub returns-clause-ok : goal.returns-clause-ok
returns-clause-ok g c =
    let s : CodedSlice = record { index = c.args.index; y = c.args.y.now; cb = c.args.cb.now; cr = c.args.cr.now; alpha = c.args.values.now } in
    on_ok_weaker c.write_values.result (slice-puts c.args.mode c.args.alpha s c.header_of-header.result c.has_alpha.result c.header_of-header.ensures c.has_alpha.ensures
    c.in_ok-write_slice_header.ensures.ok c.in_ok-write_part.ensures.ok c.in_ok-write_part-2.ensures.ok c.in_ok-write_part-3.ensures.ok) c.write_values.ensures.ok

pub returns-clause-err : goal.returns-clause-err
returns-clause-err g c =
    let s : CodedSlice = record { index = c.args.index; y = c.args.y.now; cb = c.args.cb.now; cr = c.args.cr.now; alpha = c.args.values.now } in
    on_err_weaker c.write_values.result (slice-alpha c.args.mode c.args.alpha s c.header_of-header.result c.has_alpha.result c.header_of-header.ensures c.has_alpha.ensures
    c.in_ok-write_slice_header.ensures.ok c.in_ok-write_part.ensures.ok c.in_ok-write_part-2.ensures.ok c.in_ok-write_part-3.ensures.ok) c.write_values.ensures.err
