use Rattle.pr_geom.specs.Layout.{columns_of, rows_of}
use Rattle.pr_geom.proofs.BlockLemmas.{blocks_once}
use Rattle.pr_geom.proofs.layout.Layout.blocks_are_once.Goals as goal

pub returns : goal.returns
returns c = blocks_once c.args.self.now.chroma c.args.part (columns_of c.args.self.now) (rows_of c.args.self.now) c.args.self.now.log2
