use Rattle.std.proofs.Common.{◌≡◌, subst}
use Rattle.std.specs.Prelude.{IsTrue, ◌↔◌}
use Rattle.run_look.proofs.coded.is_quantised.Goals as goal

pub returns : goal.returns
returns c = subst (λ b. IsTrue c.same_block.result ↔ (c.args.coded.now ≡ b)) c.quantise_block.ensures c.same_block.ensures
