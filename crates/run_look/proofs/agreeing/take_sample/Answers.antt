use Rattle.std.proofs.Common.{refl, inr}
use Rattle.rate_check.proofs.Answered.{denied}
use Rattle.run_look.proofs.agreeing.take_sample.Goals as goal

pub returns-in-Ok-false-clause-takes : goal.returns-in-Ok-false-clause-takes
returns-in-Ok-false-clause-takes g c = λ told ps. (refl, refl, inr (c.sample-sample.result, c.sample-sample.ensures.value, c.in_ok-frame.frame, c.in_ok-frame.ensures.reads told, denied c.in-Ok-false.field-0 c.in-Ok-false.ensures c.in-Ok-false.field-0-test))
