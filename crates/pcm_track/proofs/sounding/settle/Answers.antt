use Rattle.std.proofs.Common.{◌∙◌}
use Rattle.std.proofs.KnownBytes.{Appends-kept}
use Rattle.pw_outside.proofs.Puts.{puts_front}
use Rattle.pcm_track.proofs.Pieces.{any_err}
use Rattle.pcm_track.proofs.sounding.settle.Goals as goal

pub returns-in_err-flush-clause-err : goal.returns-in_err-flush-clause-err
returns-in_err-flush-clause-err g c = any_err c.from_residual-in_err-flush.result (puts_front c.in_ok-put_all.ensures.ok)

pub returns-clause-err : goal.returns-clause-err
returns-clause-err g c = any_err c.flush-2.result (puts_front (record {
  bytes_held = Appends-kept _ _ _ _ c.in_ok-put_all.ensures.ok.bytes_held c.flush-2.ensures.bytes;
  count = c.flush-2.ensures.taken ∙ c.in_ok-put_all.ensures.ok.count;
}))
