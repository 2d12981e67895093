use Rattle.pr_geom.specs.Faults.{slice_count}
use Rattle.pr_geom.specs.Layout.{slices_of}
use Rattle.std.proofs.Common.{length}
use Rattle.pr_geom.proofs.SliceLemmas.{pictures_small}
use Rattle.pr_geom.proofs.layout.Layout.frame_slices_are_few.Goals as goal

pub returns : goal.returns
unfolding slice_count
returns c = pictures_small c.args.self.now.interlace (length (slices_of c.args.self.now)) c.args.self.now.allowed.slices
