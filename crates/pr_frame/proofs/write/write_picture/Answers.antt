use Rattle.std.proofs.Common.{ap, length}
use Rattle.std.proofs.lemmas.Result.{on_ok_weaker, on_err_weaker}
use Rattle.pw_outside.proofs.Results.{any_err}
use Rattle.pr_frame.proofs.PutSteps.{picture-whole, three-puts, three-first, three-second, three-third}
use Rattle.pr_frame.proofs.write.write_picture.Goals as goal

pub returns-in_err-write_picture_header-clause-err : goal.returns-in_err-write_picture_header-clause-err
returns-in_err-write_picture_header-clause-err g c =
    let p = c.args.picture.now in
    let xs = c.as_slice-slices.result.now in
    any_err c.from_residual.result (three-first _ _ _ _ (picture-whole c.args.mode c.args.alpha p c.picture_size-size.result (length xs) xs c.picture_size-size.ensures.value (ap length c.as_slice-slices.ensures) c.as_slice-slices.ensures) c.in_err-write_picture_header.ensures.err)

pub returns-in_err-write_table-clause-err : goal.returns-in_err-write_table-clause-err
returns-in_err-write_table-clause-err g c =
    let p = c.args.picture.now in
    let xs = c.as_slice-slices.result.now in
    any_err c.from_residual-in_err-write_table.result (three-second _ _ _ _ (picture-whole c.args.mode c.args.alpha p c.picture_size-size.result (length xs) xs c.picture_size-size.ensures.value (ap length c.as_slice-slices.ensures) c.as_slice-slices.ensures)
    c.in_ok-write_picture_header.ensures.ok c.in_err-write_table.ensures.err)

pub returns-clause-ok : goal.returns-clause-ok
returns-clause-ok g c =
    let p = c.args.picture.now in
    let xs = c.as_slice-slices.result.now in
    on_ok_weaker c.write_slices.result (three-puts _ _ _ _ (picture-whole c.args.mode c.args.alpha p c.picture_size-size.result (length xs) xs c.picture_size-size.ensures.value (ap length c.as_slice-slices.ensures) c.as_slice-slices.ensures)
    c.in_ok-write_picture_header.ensures.ok c.in_ok-write_table.ensures.ok) c.write_slices.ensures.ok

pub returns-clause-err : goal.returns-clause-err
returns-clause-err g c =
    let p = c.args.picture.now in
    let xs = c.as_slice-slices.result.now in
    on_err_weaker c.write_slices.result (three-third _ _ _ _ (picture-whole c.args.mode c.args.alpha p c.picture_size-size.result (length xs) xs c.picture_size-size.ensures.value (ap length c.as_slice-slices.ensures) c.as_slice-slices.ensures)
    c.in_ok-write_picture_header.ensures.ok c.in_ok-write_table.ensures.ok) c.write_slices.ensures.err
