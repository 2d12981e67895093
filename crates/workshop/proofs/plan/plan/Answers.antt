use Rattle.std.proofs.Common.{rules, ◌≡◌, Ok}
use Rattle.pw_outside.specs.Reading.{bytes_of}
use Rattle.rate_table.specs.Reading.{tabled}
use Rattle.workshop.specs.Status.{is_done, is_write_fault}
use Rattle.workshop.specs.Plan.{outcome_text}
use Rattle.workshop.proofs.PlanTexts.{outcome_is_text, on_true, anyway, prints, prints_part}
use Rattle.workshop.proofs.plan.plan.Goals as goal

pub returns-in-Ok-text_of-clause-text : goal.returns-in-Ok-text_of-clause-text
returns-in-Ok-text_of-clause-text g c = λ told.
    let table : tabled (bytes_of (g.S.ByteSource.left c.args.proof.now)) ≡ Ok c.in-Ok.table = search rules in
    let lines : c.deref.result.now ≡ outcome_text c.in-Ok-best.outcome = search rules in
    let is = outcome_is_text c.in-Ok.table c.in-Ok-best.outcome c.in-Ok-best.ensures.fits c.in-Ok-best.ensures.none in
    on_true (is_done c.print.result) (λ p. prints _ c.in-Ok.table (outcome_text c.in-Ok-best.outcome) c.deref.result.now _ _ table is lines p) c.print.ensures.text

pub returns-in-Ok-text_of-clause-part : goal.returns-in-Ok-text_of-clause-part
returns-in-Ok-text_of-clause-part g c = λ told.
    let table : tabled (bytes_of (g.S.ByteSource.left c.args.proof.now)) ≡ Ok c.in-Ok.table = search rules in
    let lines : c.deref.result.now ≡ outcome_text c.in-Ok-best.outcome = search rules in
    let is = outcome_is_text c.in-Ok.table c.in-Ok-best.outcome c.in-Ok-best.ensures.fits c.in-Ok-best.ensures.none in
    anyway (is_write_fault c.print.result) (prints_part _ c.in-Ok.table (outcome_text c.in-Ok-best.outcome) c.deref.result.now _ _ table is lines c.print.ensures.part)
