use Rattle.std.proofs.Common.{refl, length, ◌+◌, ◌*◌, arith}
use Rattle.std.proofs.lemmas.Result.{on_ok_weaker, on_err_weaker}
use Rattle.pw_outside.proofs.Results.{any_err}
use Rattle.pr_frame.proofs.PutSteps.{three-puts, three-first, three-second, three-third}
use Rattle.rate_build.proofs.Straight.{chosen_reach, picture_size, picture_whole}
use Rattle.rate_build.proofs.writing.write_picture.Goals as goal

pub sizes_together-requires-clause-each : goal.sizes_together-requires-clause-each
sizes_together-requires-clause-each g c = chosen_reach _ _ _ _ _ _ c.requires.chosen

pub overflow_cast-size : goal.overflow_cast-size
overflow_cast-size g c = omega (arith, c.requires.short, picture_size _ _ _ _ _ _ c.requires.chosen c.args.log2 c.sizes_together.result c.sizes_together.ensures.value)

pub returns-in_err-write_picture_header-clause-err : goal.returns-in_err-write_picture_header-clause-err
returns-in_err-write_picture_header-clause-err g c =
    let n = length c.args.slices.now in
    let size = picture_size _ _ _ _ _ _ c.requires.chosen c.args.log2 c.sizes_together.result c.sizes_together.ensures.value in
    let whole = picture_whole _ _ _ _ _ _ c.requires.chosen c.args.log2 (8 + 2 * n + c.sizes_together.result) n size refl in
    any_err c.from_residual.result (three-first _ _ _ _ whole c.in_err-write_picture_header.ensures.err)

pub write_sizes-requires : goal.write_sizes-requires
write_sizes-requires g c = record { each = chosen_reach _ _ _ _ _ _ c.requires.chosen }

pub returns-in_err-write_sizes-clause-err : goal.returns-in_err-write_sizes-clause-err
returns-in_err-write_sizes-clause-err g c =
    let n = length c.args.slices.now in
    let size = picture_size _ _ _ _ _ _ c.requires.chosen c.args.log2 c.sizes_together.result c.sizes_together.ensures.value in
    let whole = picture_whole _ _ _ _ _ _ c.requires.chosen c.args.log2 (8 + 2 * n + c.sizes_together.result) n size refl in
    any_err c.from_residual-in_err-write_sizes.result (three-second _ _ _ _ whole c.in_ok-write_picture_header.ensures.ok c.in_err-write_sizes.ensures.err)

pub returns-clause-ok : goal.returns-clause-ok
returns-clause-ok g c =
    let n = length c.args.slices.now in
    let size = picture_size _ _ _ _ _ _ c.requires.chosen c.args.log2 c.sizes_together.result c.sizes_together.ensures.value in
    let whole = picture_whole _ _ _ _ _ _ c.requires.chosen c.args.log2 (8 + 2 * n + c.sizes_together.result) n size refl in
    on_ok_weaker c.write_all.result (three-puts _ _ _ _ whole c.in_ok-write_picture_header.ensures.ok c.in_ok-write_sizes.ensures.ok) c.write_all.ensures.ok

pub returns-clause-err : goal.returns-clause-err
returns-clause-err g c =
    let n = length c.args.slices.now in
    let size = picture_size _ _ _ _ _ _ c.requires.chosen c.args.log2 c.sizes_together.result c.sizes_together.ensures.value in
    let whole = picture_whole _ _ _ _ _ _ c.requires.chosen c.args.log2 (8 + 2 * n + c.sizes_together.result) n size refl in
    on_err_weaker c.write_all.result (three-third _ _ _ _ whole c.in_ok-write_picture_header.ensures.ok c.in_ok-write_sizes.ensures.ok) c.write_all.ensures.err
