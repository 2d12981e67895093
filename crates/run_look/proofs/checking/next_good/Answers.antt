use Rattle.std.proofs.Common.{refl, ◌∙◌}
use Rattle.run_look.proofs.checking.next_good.Goals as goal

pub returns-in-Err-clause-answer : goal.returns-in-Err-clause-answer
returns-in-Err-clause-answer g c = λ h. rw (c.in_ok-group.ensures.bytes.answer h, c.in-Some.is) (c.in-Err.clause.number, rw (c.settings.ensures.value ∙ c.in_ok-group.ensures.after.0) at c.in-Err.ensures.fails, refl)
