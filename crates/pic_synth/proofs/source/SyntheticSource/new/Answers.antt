use Rattle.std.proofs.Common.{refl, arith}
use Rattle.pic_synth.specs.Pictures.{state_after}
use Rattle.pic_synth.proofs.source.SyntheticSource.new.Goals as goal

pub invariant_of-result : goal.invariant_of-result
unfolding state_after
invariant_of-result c = (c.requires, omega arith, refl)
