use Rattle.std.proofs.Common.{arith}
use Rattle.pr_frame.proofs.Steps.{filled}
use Rattle.pr_frame.proofs.parts.next_bytes.Goals as goal

pub returns-clause-bytes : goal.returns-clause-bytes
returns-clause-bytes g c = λ h.
    (filled (g.S.ByteSource.left c.args.source.now) (g.S.ByteSource.left c.fill.new.source) c.in_ok-fill.field-0 _ c.fill.new.piece c.fill.auto.piece
    (omega (arith, c.in_ok-fill.ensures.count, c.fill.auto.piece)) c.in_ok-fill.ensures.bytes h).1

pub returns-clause-rest : goal.returns-clause-rest
returns-clause-rest g c = λ h.
    (filled (g.S.ByteSource.left c.args.source.now) (g.S.ByteSource.left c.fill.new.source) c.in_ok-fill.field-0 _ c.fill.new.piece c.fill.auto.piece
    (omega (arith, c.in_ok-fill.ensures.count, c.fill.auto.piece)) c.in_ok-fill.ensures.bytes h).2
