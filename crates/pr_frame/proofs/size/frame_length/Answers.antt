use Rattle.pr_frame.proofs.Short.{pictures-ready}
use Rattle.pr_frame.proofs.size.frame_length.Goals as goal

pub pictures_size-requires-clause-ready : goal.pictures_size-requires-clause-ready
pictures_size-requires-clause-ready c = rw c.as_slice.ensures (pictures-ready c.args.frame.now.header c.args.frame.now.pictures c.requires.coded.pictures c.requires.values)
