use Rattle.std.proofs.Common.{◌≡◌, ◌≤◌, List, Bool, false, take, nat_abs}
use Rattle.pw_bits.specs.Writing.{written, Writes}
use Rattle.pr_coeff.specs.Component.{column}
use Rattle.pr_coeff.specs.inner.Writing.{CodesDc}
use Rattle.pr_coeff.proofs.write.put_differences.Given as goal

abbrev pub invariant-loop-block : goal.invariant-loop-block
invariant-loop-block g l = record {
  words : List Bool;
  codes : CodesDc (record { last = l.fn.first; negative = false; code = 5 }) l.differences (take l.block-index (column l.blocks 0)) words;
  small : nat_abs l.differences.last ≤ 32767;
  writes : Writes (written (g.K.ByteSink.held l.fn.sink) (g.K.ByteSink.taken l.fn.sink) l.fn.writer.pending) (written (g.K.ByteSink.held l.sink) (g.K.ByteSink.taken l.sink) l.writer.pending) words;
  usable : l.writer.spoiled ≡ false;
  settled : g.K.ByteSink.settled l.fn.sink ≤ g.K.ByteSink.settled l.sink;
  kept : g.K.ByteSink.faults l.sink ≡ g.K.ByteSink.faults l.fn.sink;
}
