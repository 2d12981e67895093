use Rattle.std.proofs.Common.{◌≡◌, ◌≤◌, map, drop}
use Rattle.std.specs.List.{flat_map}
use Rattle.pw_outside.specs.Writing.{sink_state}
use Rattle.rate_cert.specs.Layers.{layer_bytes}
use Rattle.rate_cert.proofs.Gathering.{Partly, pairs_in}
use Rattle.rate_cert.proofs.layer_bytes.add_layers.Given as goal

abbrev pub invariant-loop-layer : goal.invariant-loop-layer
invariant-loop-layer g l = record {
  partly : Partly (sink_state (g.K.ByteSink.held l.initial.sink) (g.K.ByteSink.taken l.initial.sink)) (sink_state (g.K.ByteSink.held l.sink) (g.K.ByteSink.taken l.sink)) l.initial.gathered.items l.gathered.items
      (flat_map (layer_bytes l.format) (map pairs_in (drop l.layer-index l.layers)))
      (flat_map (layer_bytes l.format) (map pairs_in l.layers));
  settled : g.K.ByteSink.settled l.initial.sink ≤ g.K.ByteSink.settled l.sink;
  cause : g.K.ByteSink.faults l.sink ≡ g.K.ByteSink.faults l.initial.sink;
}
