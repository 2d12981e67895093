use Rattle.std.proofs.Common.{◌≡◌, ◌≤◌, List, Bool, false, take, ◌*◌, length}
use Rattle.pw_bits.specs.Writing.{written, Writes}
use Rattle.pr_coeff.specs.Component.{listed}
use Rattle.pr_coeff.specs.inner.Writing.{Codes}
use Rattle.pr_coeff.proofs.write.put_places.Given as goal

abbrev pub invariant-loop-place : goal.invariant-loop-place
invariant-loop-place g l = record {
  words : List Bool;
  codes : Codes l.initial.coding l.coding (listed (take l.place-index l.places) l.blocks) words;
  zeros : l.coding.zeros ≤ l.place-index * length l.blocks;
  writes : Writes (written (g.K.ByteSink.held l.fn.sink) (g.K.ByteSink.taken l.fn.sink) l.fn.writer.pending) (written (g.K.ByteSink.held l.sink) (g.K.ByteSink.taken l.sink) l.writer.pending) words;
  usable : l.writer.spoiled ≡ false;
  settled : g.K.ByteSink.settled l.fn.sink ≤ g.K.ByteSink.settled l.sink;
  kept : g.K.ByteSink.faults l.sink ≡ g.K.ByteSink.faults l.fn.sink;
}
