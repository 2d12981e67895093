use Rattle.std.proofs.Common.{◌≡◌, ◌^◌, ◌<◌, ◌≤◌, List, Bool, false, take}
use Rattle.pw_bits.specs.Writing.{written, Writes}
use Rattle.pr_alpha.specs.inner.Writing.{Codes}
use Rattle.pr_alpha.proofs.write.put_values.Given as goal

abbrev pub invariant-loop-value : goal.invariant-loop-value
invariant-loop-value g l = record {
  words : List Bool;
  codes : Codes l.bits l.fn.coding l.coding (take l.value-index l.values) words;
  before : l.coding.before < 2 ^ l.bits;
  value : l.coding.value < 2 ^ l.bits;
  further : l.coding.further ≤ l.value-index;
  writes : Writes (written (g.K.ByteSink.held l.fn.sink) (g.K.ByteSink.taken l.fn.sink) l.fn.writer.pending) (written (g.K.ByteSink.held l.sink) (g.K.ByteSink.taken l.sink) l.writer.pending) words;
  usable : l.writer.spoiled ≡ false;
  settled : g.K.ByteSink.settled l.fn.sink ≤ g.K.ByteSink.settled l.sink;
  kept : g.K.ByteSink.faults l.sink ≡ g.K.ByteSink.faults l.fn.sink;
}
