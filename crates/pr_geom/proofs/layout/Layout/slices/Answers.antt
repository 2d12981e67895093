use Rattle.std.proofs.Common.{arith}
use Rattle.pr_geom.specs.Faults.{slice_count}
use Rattle.pr_geom.specs.Layout.{columns_of, rows_of}
use Rattle.pr_geom.proofs.SliceLemmas.{picture_some, pictures_whole}
use Rattle.pr_geom.proofs.layout.Layout.slices.Goals as goal

pub returns-clause-value : goal.returns-clause-value
unfolding slice_count
returns-clause-value c = c.slices_in_picture.ensures

pub returns-clause-some : goal.returns-clause-some
unfolding slice_count
returns-clause-some c =
    let l = c.args.self.now in
    let some = pictures_whole l.interlace l.height l.allowed.some_rows l.allowed.whole in
    omega (arith, c.slices_in_picture.ensures, picture_some (rows_of l) (columns_of l) l.log2 (omega arith) (omega (arith, l.allowed.some_columns)))
