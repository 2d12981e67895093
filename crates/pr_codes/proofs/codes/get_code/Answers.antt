use Rattle.std.proofs.Common.{◌≡◌, ◌+◌, ◌-◌, arith, sym, subst}
use Rattle.pw_bits.specs.Reading.{unread}
use Rattle.pr_codes.specs.Words.{most}
use Rattle.pr_codes.specs.Codes.{Reads}
use Rattle.pr_codes.proofs.CodesLemmas.{one_reads, end_reads, many_reads}
use Rattle.pr_codes.proofs.codes.get_code.Goals as goal

pub returns-in-Ok-One-clause-read : goal.returns-in-Ok-One-clause-read
returns-in-Ok-One-clause-read g c = λ told.
    let m : 21 - c.from.result + c.from-2.result ≡ most c.args.book = omega (arith, c.from.ensures, c.from-2.ensures) in
    let run = rw c.in-Ok-One.field-0-is at c.in-Ok-One.ensures.run in
    let mid = unread c.zeros.new.self (g.S.ByteSource.left c.zeros.new.source) in
    let r = one_reads c.args.book (21 - c.from.result + c.from-2.result) (unread c.args.reader.now (g.S.ByteSource.left c.args.source.now)) mid m c.in-Ok-One.zeros run.0 (run.1.bits told) in
    subst (λ x. Reads c.get_after.result x (unread c.get_after.new.reader (g.S.ByteSource.left c.get_after.new.source))) (sym r) (c.get_after.ensures.read (c.in-Ok-One.ensures.told told))

pub returns-in-Ok-End-clause-read : goal.returns-in-Ok-End-clause-read
returns-in-Ok-End-clause-read g c = λ told.
    let m : 21 - c.from.result + c.from-2.result ≡ most c.args.book = omega (arith, c.from.ensures, c.from-2.ensures) in
    let run = rw c.in-Ok-End.field-0-is at c.in-Ok-End.ensures.run in
    end_reads c.args.book (21 - c.from.result + c.from-2.result) (unread c.args.reader.now (g.S.ByteSource.left c.args.source.now)) (unread c.zeros.new.self (g.S.ByteSource.left c.zeros.new.source)) m c.in-Ok-End.field-0-0 run.0 (run.1.bits told) (run.2 told)

pub returns-in-Ok-Many-clause-read : goal.returns-in-Ok-Many-clause-read
returns-in-Ok-Many-clause-read g c = λ told.
    let m : 21 - c.from.result + c.from-2.result ≡ most c.args.book = omega (arith, c.from.ensures, c.from-2.ensures) in
    let run = rw c.in-Ok-Many.field-0-is at c.in-Ok-Many.ensures.run in
    many_reads c.args.book (21 - c.from.result + c.from-2.result) (unread c.args.reader.now (g.S.ByteSource.left c.args.source.now)) (unread c.zeros.new.self (g.S.ByteSource.left c.zeros.new.source)) m (run.bits told)
