use Rattle.std.proofs.Common.{◌≡◌, ◌+◌, ◌-◌, arith, ap}
use Rattle.pw_bits.specs.Reading.{unread}
use Rattle.pr_codes.specs.Words.{most}
use Rattle.pr_codes.proofs.CodesLemmas.{one_reads, many_reads}
use Rattle.pr_coeff.specs.Reading.{faulty}
use Rattle.pr_coeff.proofs.BitLemmas.{has_one, all_zeros, zeros_on, one_on}
use Rattle.pr_coeff.proofs.read.begin_word.Goals as goal

pub returns-in-Ok-One-clause-value : goal.returns-in-Ok-One-clause-value
returns-in-Ok-One-clause-value g c = λ told.
    let m : 21 - c.from.result + c.from-2.result ≡ most c.args.book = omega (arith, c.from.ensures, c.from-2.ensures) in
    let run = rw c.in-Ok-One.field-0-is at c.in-Ok-One.ensures.run in
    let bits = run.1.bits told in
    (has_one c.in-Ok-One.zeros (unread c.args.reader.now (g.S.ByteSource.left c.args.source.now)) (unread c.zeros.new.self (g.S.ByteSource.left c.zeros.new.source)) bits, ap faulty (one_reads c.args.book (21 - c.from.result + c.from-2.result) (unread c.args.reader.now (g.S.ByteSource.left c.args.source.now)) (unread c.zeros.new.self (g.S.ByteSource.left c.zeros.new.source)) m c.in-Ok-One.zeros run.0 bits))

pub returns-in-Ok-End-clause-value : goal.returns-in-Ok-End-clause-value
returns-in-Ok-End-clause-value g c = λ told.
    let run = rw c.in-Ok-End.field-0-is at c.in-Ok-End.ensures.run in
    all_zeros c.in-Ok-End.field-0-0 (unread c.args.reader.now (g.S.ByteSource.left c.args.source.now)) (unread c.zeros.new.self (g.S.ByteSource.left c.zeros.new.source)) (run.1.bits told) (run.2 told)

pub returns-in-Ok-true-clause-value : goal.returns-in-Ok-true-clause-value
returns-in-Ok-true-clause-value g c = λ told.
    let run = rw c.in-Ok-Many.field-0-is at c.in-Ok-Many.ensures.run in
    let rest = rw c.in-Ok-true.field-0-test at c.in-Ok-true.ensures.rest in
    let told2 = c.in-Ok-Many.ensures.told told in
    zeros_on ((21 - c.from.result + c.from-2.result) + 1) rest.0 (unread c.args.reader.now (g.S.ByteSource.left c.args.source.now)) (unread c.zeros.new.self (g.S.ByteSource.left c.zeros.new.source)) (unread c.rest_is_zero.new.self (g.S.ByteSource.left c.rest_is_zero.new.source)) (run.bits told) (rest.1.bits told2) (rest.2 told2)

pub returns-in-Ok-false-clause-fault : goal.returns-in-Ok-false-clause-fault
returns-in-Ok-false-clause-fault g c = λ told.
    let m : 21 - c.from.result + c.from-2.result ≡ most c.args.book = omega (arith, c.from.ensures, c.from-2.ensures) in
    let run = rw c.in-Ok-Many.field-0-is at c.in-Ok-Many.ensures.run in
    let rest = rw c.in-Ok-false.field-0-test at c.in-Ok-false.ensures.rest in
    let told2 = c.in-Ok-Many.ensures.told told in
    (one_on ((21 - c.from.result + c.from-2.result) + 1) rest.0 (unread c.args.reader.now (g.S.ByteSource.left c.args.source.now)) (unread c.zeros.new.self (g.S.ByteSource.left c.zeros.new.source)) (unread c.rest_is_zero.new.self (g.S.ByteSource.left c.rest_is_zero.new.source)) (run.bits told) (rest.1.bits told2), ap faulty (many_reads c.args.book (21 - c.from.result + c.from-2.result) (unread c.args.reader.now (g.S.ByteSource.left c.args.source.now)) (unread c.zeros.new.self (g.S.ByteSource.left c.zeros.new.source)) m (run.bits told)))
