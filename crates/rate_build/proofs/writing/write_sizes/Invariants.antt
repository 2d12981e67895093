use Rattle.std.proofs.Common.{◌≡◌, ◌≤◌, take}
use Rattle.pw_outside.specs.Writing.{sink_state, Puts}
use Rattle.pr_head.specs.Laws.{sizes_bytes}
use Rattle.rate_build.specs.Chosen.{sizes_in}
use Rattle.rate_build.proofs.writing.write_sizes.Given as goal

abbrev pub invariant-loop-i : goal.invariant-loop-i
invariant-loop-i g l = record {
  puts : Puts (sink_state (g.K.ByteSink.held l.initial.sink) (g.K.ByteSink.taken l.initial.sink)) (sink_state (g.K.ByteSink.held l.sink) (g.K.ByteSink.taken l.sink)) (sizes_bytes (take l.i (sizes_in l.tables l.choice)));
  settled : g.K.ByteSink.settled l.initial.sink ≤ g.K.ByteSink.settled l.sink;
  cause : g.K.ByteSink.faults l.sink ≡ g.K.ByteSink.faults l.initial.sink;
}
