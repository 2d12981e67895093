use Rattle.std.proofs.Common.{ℕ, Err, Result, ap, ◌∙◌}
use Rattle.pw_bits.specs.declared.reader.BitFault.{BitFault}
use Rattle.pw_bits.specs.Reading.{unread}
use Rattle.pr_alpha.specs.Reading.{number_at}
use Rattle.pr_alpha.proofs.StepLemmas.{number_again, number_short}
use Rattle.pr_alpha.proofs.read.get_number.Goals as goal

pub returns-in-Ok-clause-value : goal.returns-in-Ok-clause-value
returns-in-Ok-clause-value g c = λ told.
    ap (number_at c.args.size) (c.in-Ok.ensures.bits.bits told)
    ∙ number_again c.args.size c.in-Ok.number (unread c.bits.new.self (g.S.ByteSource.left c.bits.new.source)) c.in-Ok.ensures.fits

pub returns-in-Err-End-clause-fault : goal.returns-in-Err-End-clause-fault
returns-in-Err-End-clause-fault g c = λ told.
    number_short c.args.size (unread c.args.reader.now (g.S.ByteSource.left c.args.source.now))
    (c.in-Err-End.ensures.end (ap (λ (x : BitFault). (let r : Result ℕ BitFault = Err x in r)) c.in-Err-End.field-0-is) told)
