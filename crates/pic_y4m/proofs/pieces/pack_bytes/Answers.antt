use Rattle.std.proofs.Common.{arith}
use Rattle.pic_y4m.proofs.Written.{bytes-written}
use Rattle.pic_y4m.proofs.pieces.pack_bytes.Goals as goal

pub returns : goal.returns
returns c = bytes-written c.loop-k.bytes c.args.samples.now c.loop-k.invariant.len (λ k lt. c.loop-k.invariant.done k (omega (arith, lt)))
