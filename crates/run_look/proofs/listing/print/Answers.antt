use Rattle.std.proofs.Common.{◌∙◌}
use Rattle.std.proofs.KnownBytes.{Appends-kept}
use Rattle.pw_outside.proofs.Puts.{puts_front}
use Rattle.run_look.proofs.listing.print.Goals as goal

pub returns-in-Ok-flush-clause-part : goal.returns-in-Ok-flush-clause-part
returns-in-Ok-flush-clause-part g c = puts_front (record {
  bytes_held = Appends-kept _ _ _ _ c.in-Ok.ensures.ok.bytes_held c.in-Ok-flush.ensures.bytes;
  count = c.in-Ok-flush.ensures.taken ∙ c.in-Ok.ensures.ok.count;
})

pub returns-in-Err-clause-part : goal.returns-in-Err-clause-part
returns-in-Err-clause-part g c = puts_front (record {
  bytes_held = Appends-kept _ _ _ _ c.in-Ok.ensures.ok.bytes_held c.in-Err.ensures.bytes;
  count = c.in-Err.ensures.taken ∙ c.in-Ok.ensures.ok.count;
})
