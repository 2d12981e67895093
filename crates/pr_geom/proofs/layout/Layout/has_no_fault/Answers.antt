use Rattle.pr_geom.proofs.FaultLemmas.{no_fault}
use Rattle.pr_geom.proofs.layout.Layout.has_no_fault.Goals as goal

pub returns : goal.returns
returns c = let l = c.args.self.now in no_fault l.width l.height l.log2 l.interlace l.allowed
