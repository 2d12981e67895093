use Rattle.pr_geom.specs.Layout.{columns_of}
use Rattle.pr_geom.proofs.SliceLemmas.{row_columns}
use Rattle.pr_geom.proofs.layout.Layout.slices_cover_rows.Goals as goal

pub returns : goal.returns
returns c = λ row. row_columns (columns_of c.args.self.now) c.args.self.now.log2 row
