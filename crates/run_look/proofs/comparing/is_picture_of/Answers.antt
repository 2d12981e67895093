use Rattle.run_look.proofs.Parts.{part_indices}
use Rattle.run_look.proofs.comparing.is_picture_of.Goals as goal

pub is_coded-requires-clause-indices : goal.is_coded-requires-clause-indices
is_coded-requires-clause-indices c = part_indices c.args.settings.now c.args.group.now c.args.group.now.said c.args.k c.in-Some.part.now c.requires.settings c.requires.good c.requires.good.verdict c.in-Some.ensures.some
