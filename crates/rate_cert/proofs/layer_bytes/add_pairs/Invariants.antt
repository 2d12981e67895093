use Rattle.std.proofs.Common.{◌≡◌, ◌≤◌, drop}
use Rattle.std.specs.List.{flat_map}
use Rattle.pw_outside.specs.Writing.{sink_state}
use Rattle.rate_cert.specs.Layers.{pair_bytes}
use Rattle.rate_cert.proofs.Gathering.{Partly}
use Rattle.rate_cert.proofs.layer_bytes.add_pairs.Given as goal

abbrev pub invariant-loop-pair : goal.invariant-loop-pair
invariant-loop-pair g l = record {
  partly : Partly (sink_state (g.K.ByteSink.held l.initial.sink) (g.K.ByteSink.taken l.initial.sink)) (sink_state (g.K.ByteSink.held l.sink) (g.K.ByteSink.taken l.sink)) l.initial.gathered.items l.gathered.items
      (flat_map pair_bytes (drop l.pair-index l.pairs))
      (flat_map pair_bytes l.pairs);
  settled : g.K.ByteSink.settled l.initial.sink ≤ g.K.ByteSink.settled l.sink;
  cause : g.K.ByteSink.faults l.sink ≡ g.K.ByteSink.faults l.initial.sink;
}
