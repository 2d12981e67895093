use Rattle.std.proofs.Common.{◌≡◌, ◌*◌, ◌/◌, ◌<◌, ◌^◌, ◌∙◌, length, ap, arith, subst, sym}
use Rattle.pr_geom.specs.Slices.{pictures_of, macroblocks, row_widths}
use Rattle.pr_geom.specs.Faults.{slice_count}
use Rattle.pr_geom.proofs.SliceLemmas.{length-picture_slices, product_small, height_small}
use Rattle.pr_geom.proofs.layout.slices_in_picture.Goals as goal
use Rattle.pr_geom.proofs.layout.slices_in_picture.Goals.{After-slices_in_row}

rows_are : (c : After-slices_in_row) → c.macroblocks_for-rows.result ≡ macroblocks (c.args.height / pictures_of c.args.interlace)
rows_are c = c.macroblocks_for-rows.ensures ∙ ap (λ n. macroblocks (c.args.height / n)) (c.from.ensures ∙ c.pictures_of.ensures)

count_is : (c : After-slices_in_row) → c.slices_in_row.result ≡ length (row_widths (macroblocks c.args.width) c.args.log2)
count_is c = c.slices_in_row.ensures ∙ (λ i. length (row_widths (c.macroblocks_for.ensures i) (c.from-2.ensures i)))

pub overflow_mul-result : goal.overflow_mul-result
overflow_mul-result c =
    let rows = macroblocks (c.args.height / pictures_of c.args.interlace) in
    let small : rows * length (row_widths (macroblocks c.args.width) c.args.log2) < 2 ^ 32 =
    product_small rows (macroblocks c.args.width) c.args.log2 (omega (arith, height_small c.args.interlace c.args.height, c.requires.rows)) (omega (arith, c.requires.columns)) in
    omega (arith, subst (λ n. n < 2 ^ 32) (sym (λ i. rows_are c i * count_is c i)) small)

pub returns : goal.returns
unfolding slice_count
returns c = (λ i. rows_are c i * count_is c i) ∙ sym (length-picture_slices (macroblocks (c.args.height / pictures_of c.args.interlace)) (macroblocks c.args.width) c.args.log2)
