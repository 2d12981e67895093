use Rattle.pr_frame.proofs.Answered.{answers-stand, answers-fault}
use Rattle.pr_frame.proofs.read.read_frame.Goals as goal

pub returns-clause-stands : goal.returns-clause-stands
returns-clause-stands g c = answers-stand c.frame_from.result c.args.size c.frame_from.new.place (g.S.ByteSource.left c.args.source.now) (g.S.ByteSource.left c.frame_from.new.source) c.requires c.frame_from.ensures.bytes

pub returns-clause-fault : goal.returns-clause-fault
returns-clause-fault g c = answers-fault c.frame_from.result c.args.size c.frame_from.new.place (g.S.ByteSource.left c.args.source.now) (g.S.ByteSource.left c.frame_from.new.source) c.requires c.frame_from.ensures.bytes
