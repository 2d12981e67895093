use Rattle.std.proofs.Common.{arith}
use Rattle.pic_y4m.proofs.Written.{pairs-written}
use Rattle.pic_y4m.proofs.pieces.pack_pairs.Goals as goal

pub returns : goal.returns
returns c = pairs-written c.loop-k.bytes c.args.samples.now c.loop-k.invariant.len (λ k lt. (c.loop-k.invariant.low k (omega (arith, lt)), c.loop-k.invariant.high k (omega (arith, lt))))
