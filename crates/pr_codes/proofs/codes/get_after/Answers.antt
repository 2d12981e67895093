use Rattle.std.proofs.Common.{ℕ, Err, Result, ap}
use Rattle.pw_bits.specs.declared.reader.BitFault.{BitFault}
use Rattle.pw_bits.specs.Reading.{unread}
use Rattle.pr_codes.proofs.CodesLemmas.{reads_number, reads_large, reads_short}
use Rattle.pr_codes.proofs.codes.get_after.Goals as goal

pub returns-in-Ok-clause-read : goal.returns-in-Ok-clause-read
returns-in-Ok-clause-read g c = λ told.
    let p = c.tail_parts-size.ensures in
    reads_large c.args.book c.args.zeros c.tail_parts-size.result.0 c.tail_parts-size.result.1 (unread c.args.reader.now (g.S.ByteSource.left c.args.source.now)) p.size.0 p.least.0
    c.in-Ok.low (unread c.bits.new.self (g.S.ByteSource.left c.bits.new.source)) c.in-Ok.ensures.fits c.if-least-low.true (c.in-Ok.ensures.bits.bits told)

pub returns-in-Ok-2-clause-read : goal.returns-in-Ok-2-clause-read
returns-in-Ok-2-clause-read g c = λ told.
    let p = c.tail_parts-size.ensures in
    reads_number c.args.book c.args.zeros c.tail_parts-size.result.0 c.tail_parts-size.result.1 (unread c.args.reader.now (g.S.ByteSource.left c.args.source.now)) p.size.0 p.least.0
    c.in-Ok.low (unread c.bits.new.self (g.S.ByteSource.left c.bits.new.source)) c.in-Ok.ensures.fits c.if-least-low.false (c.in-Ok.ensures.bits.bits told)

pub returns-in-Err-End-clause-read : goal.returns-in-Err-End-clause-read
returns-in-Err-End-clause-read g c = λ told.
    let p = c.tail_parts-size.ensures in
    let short = c.in-Err-End.ensures.end (ap (λ (x : BitFault). (let r : Result ℕ BitFault = Err x in r)) c.in-Err-End.field-0-is) told in
    reads_short c.args.book c.args.zeros c.tail_parts-size.result.0 c.tail_parts-size.result.1 (unread c.args.reader.now (g.S.ByteSource.left c.args.source.now)) p.size.0 p.least.0 short
