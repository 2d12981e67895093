use Rattle.std.proofs.Common.{◌∙◌}
use Rattle.std.proofs.KnownBytes.{Appends-kept}
use Rattle.pw_outside.proofs.Puts.{puts_front}
use Rattle.pw_outside.proofs.Results.{any_err}
use Rattle.rate_least.proofs.leasting.certify.Goals as goal

pub returns-clause-front : goal.returns-clause-front
returns-clause-front g c = any_err c.flush.result (puts_front (record {
  bytes_held = Appends-kept _ _ _ _ c.in_ok-write_least.ensures.all.bytes_held c.flush.ensures.bytes;
  count = c.flush.ensures.taken ∙ c.in_ok-write_least.ensures.all.count;
}))
