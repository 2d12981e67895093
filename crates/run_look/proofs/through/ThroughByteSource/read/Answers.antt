use Rattle.run_look.proofs.Gave.{gave_read, gave_then}
use Rattle.run_look.proofs.through.ThroughByteSource.read.Goals as goal

pub returns-clause-becomes : goal.returns-clause-becomes
returns-clause-becomes g c = λ first h.
    gave_then h (gave_read (g.S.ByteSource.left c.args.self.now.source.now) (g.S.ByteSource.left c.read.new.self) c.read.result c.read.new.piece c.args.self.now.source.ghost_name (λ i. (c.type_inv.piece i).fits) c.read.ensures.bytes)
