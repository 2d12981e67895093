use Rattle.std.proofs.Common.{◌≡◌, ◌≤◌, take}
use Rattle.std.specs.List.{flat_map}
use Rattle.pw_outside.specs.Writing.{sink_state, Puts}
use Rattle.rate_table.specs.Body.{entry_bytes}
use Rattle.rate_table.proofs.writing.write_entries.Given as goal

abbrev pub invariant-loop-entry : goal.invariant-loop-entry
invariant-loop-entry g l = record {
  all : Puts (sink_state (g.K.ByteSink.held l.initial.sink) (g.K.ByteSink.taken l.initial.sink)) (sink_state (g.K.ByteSink.held l.sink) (g.K.ByteSink.taken l.sink)) (flat_map entry_bytes (take l.entry-index l.entries));
  settled : g.K.ByteSink.settled l.initial.sink ≤ g.K.ByteSink.settled l.sink;
  cause : g.K.ByteSink.faults l.sink ≡ g.K.ByteSink.faults l.initial.sink;
}
