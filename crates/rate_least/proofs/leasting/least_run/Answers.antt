use Rattle.std.proofs.Common.{rules, ◌≡◌, ◌∙◌, Ok}
use Rattle.pw_outside.specs.Reading.{bytes_of}
use Rattle.pw_outside.proofs.Puts.{none_extends}
use Rattle.rate_table.specs.Reading.{tabled}
use Rattle.rate_least.specs.Records.{Certificate, said_by}
use Rattle.rate_least.proofs.Ran.{certificate_of, wrote, wrote_front}
use Rattle.rate_least.proofs.leasting.least_run.Goals as goal

pub returns-in-Ok-certify-clause-written : goal.returns-in-Ok-certify-clause-written
returns-in-Ok-certify-clause-written g c = λ told.
    let table : tabled (bytes_of (g.S.ByteSource.left c.args.proof.now)) ≡ Ok c.in-Ok.table = search rules in
    let w : Certificate = record { table = c.in-Ok.table; cap = c.args.cap; said = said_by c.in-Ok-smallest.outcome } in
    wrote c.print.result _ _ _ _ _ w c.deref.result.now (certificate_of c.args.cap _ c.in-Ok.table w.said table c.in-Ok-smallest.ensures.answer) c.in-Ok-certify.ensures.all
    (c.deref.ensures.value ∙ c.in-Ok-lines_of.ensures) c.print.ensures.end c.print.ensures.text

pub returns-clause-written : goal.returns-clause-written
returns-clause-written g c = λ told.
    let table : tabled (bytes_of (g.S.ByteSource.left c.args.proof.now)) ≡ Ok c.in-Ok.table = search rules in
    let w : Certificate = record { table = c.in-Ok.table; cap = c.args.cap; said = said_by c.in-Ok-smallest.outcome } in
    wrote_front _ _ _ _ w (certificate_of c.args.cap _ c.in-Ok.table w.said table c.in-Ok-smallest.ensures.answer) c.in-Err-certify.ensures.front (g.met.K.ByteSink.counts c.args.text.now).1

pub returns-clause-text_extends : goal.returns-clause-text_extends
returns-clause-text_extends g c = none_extends _ (g.met.K.ByteSink.counts c.args.text.now).1
