use Rattle.std.proofs.Common.{arith}
use Rattle.std.proofs.lemmas.Result.{on_err_weaker}
use Rattle.pw_outside.proofs.Puts.{puts_extends, then_extends}
use Rattle.rescue_run.proofs.Copying.{head_part, head_then}
use Rattle.rescue_run.proofs.gathering.add.Goals as goal

pub returns-in-Err-frame_head-clause-err : goal.returns-in-Err-frame_head-clause-err
returns-in-Err-frame_head-clause-err g c =
    λ told. head_part _ c.args.found.now.size c.args.found.now.at _ _ (omega (arith, c.requires.inside, c.requires.whole told)) c.in-Err-frame_head.ensures.part

pub returns-clause-err : goal.returns-clause-err
returns-clause-err g c =
    λ told. on_err_weaker c.copy_bytes.result (λ p. head_then _ c.args.found.now.size c.args.found.now.at _ _ _ (omega (arith, c.requires.inside, c.requires.whole told)) c.in-Ok-frame_head.ensures.all p) (c.copy_bytes.ensures.err told)

pub returns-clause-extends : goal.returns-clause-extends
returns-clause-extends g c = then_extends _ _ _ (puts_extends _ _ _ c.in-Ok-frame_head.ensures.all) c.copy_bytes.ensures.extends
