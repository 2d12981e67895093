use Rattle.std.proofs.KnownBytes.{Appends-kept}
use Rattle.std.proofs.Common.{◌∙◌}
use Rattle.pw_outside.proofs.Puts.{puts_front}
use Rattle.workshop.proofs.plan.print.Goals as goal

pub returns-in-Err-flush-clause-part : goal.returns-in-Err-flush-clause-part
returns-in-Err-flush-clause-part g c = puts_front (record {
  bytes_held = Appends-kept _ _ _ _ c.in-Ok.ensures.bytes c.in-Err-flush.ensures.bytes;
  count = c.in-Err-flush.ensures.taken ∙ c.in-Ok.ensures.taken;
})

pub returns-in-Ok-flush-clause-part : goal.returns-in-Ok-flush-clause-part
returns-in-Ok-flush-clause-part g c = puts_front (record {
  bytes_held = Appends-kept _ _ _ _ c.in-Ok.ensures.bytes c.in-Ok-flush.ensures.bytes;
  count = c.in-Ok-flush.ensures.taken ∙ c.in-Ok.ensures.taken;
})
