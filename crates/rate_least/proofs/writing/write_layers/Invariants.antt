use Rattle.std.proofs.Common.{◌≡◌, ◌≤◌, take}
use Rattle.std.specs.List.{flat_map}
use Rattle.pw_outside.specs.Writing.{sink_state, Puts}
use Rattle.rate_least.proofs.Written.{vector_bytes}
use Rattle.rate_least.proofs.writing.write_layers.Given as goal

abbrev pub invariant-loop-layer : goal.invariant-loop-layer
invariant-loop-layer g l = record {
  all : Puts (sink_state (g.K.ByteSink.held l.initial.sink) (g.K.ByteSink.taken l.initial.sink)) (sink_state (g.K.ByteSink.held l.sink) (g.K.ByteSink.taken l.sink)) (flat_map vector_bytes (take l.layer-index l.layers));
  settled : g.K.ByteSink.settled l.initial.sink ≤ g.K.ByteSink.settled l.sink;
  cause : g.K.ByteSink.faults l.sink ≡ g.K.ByteSink.faults l.initial.sink;
}
