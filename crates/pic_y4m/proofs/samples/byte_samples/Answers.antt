use Rattle.std.proofs.Common.{arith, get_or}
use Rattle.std.proofs.lemmas.List.FromFn.{fill_by_all}
use Rattle.pic_y4m.specs.Samples.{samples_in}
use Rattle.pic_y4m.proofs.samples.byte_samples.Goals as goal

pub returns : goal.returns
unfolding samples_in
returns c = fill_by_all (λ k. get_or c.args.bytes.now k 0) c.loop-k.samples.items c.args.count 0 c.loop-k.invariant.len (λ k h. c.loop-k.invariant.done k (omega arith))
