use Rattle.std.proofs.Common.{◌∙◌}
use Rattle.std.proofs.KnownBytes.{Appends-kept}
use Rattle.pw_outside.proofs.Puts.{puts_front}
use Rattle.rate_least.proofs.runs.print.Goals as goal

pub returns-in-Err-flush-clause-text : goal.returns-in-Err-flush-clause-text
returns-in-Err-flush-clause-text g c = puts_front (record {
  bytes_held = Appends-kept _ _ _ _ c.in-Ok.ensures.ok.bytes_held c.in-Err-flush.ensures.bytes;
  count = c.in-Err-flush.ensures.taken ∙ c.in-Ok.ensures.ok.count;
})
