use Rattle.std.proofs.Common.{◌≡◌, ◌-◌, ◌≤◌, length, take}
use Rattle.pw_outside.specs.Writing.{sink_state, Puts}
use Rattle.qt_tables.specs.Samples.{samples}
use Rattle.run_look.specs.Listing.{sample_lines}
use Rattle.run_look.proofs.listing.put_all_samples.Given as goal

abbrev pub invariant-loop-next : goal.invariant-loop-next
invariant-loop-next g l = record {
  order : l.next ≤ l.count;
  within : l.next ≤ length (samples l.reader.tables);
  text : Puts (sink_state (g.K.ByteSink.held l.initial.sink) (g.K.ByteSink.taken l.initial.sink)) (sink_state (g.K.ByteSink.held l.sink) (g.K.ByteSink.taken l.sink))
      (sample_lines 0 (take l.next (samples l.reader.tables)));
  cause : g.K.ByteSink.faults l.sink ≡ g.K.ByteSink.faults l.initial.sink;
}

abbrev pub decreases-loop-next : goal.decreases-loop-next
decreases-loop-next g l = l.count - l.next
