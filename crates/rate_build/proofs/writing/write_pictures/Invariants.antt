use Rattle.std.proofs.Common.{◌≡◌, ◌≤◌, take}
use Rattle.std.specs.List.{flat_map}
use Rattle.pw_outside.specs.Writing.{sink_state, Puts}
use Rattle.pr_frame.specs.Written.{picture_bytes}
use Rattle.rate_build.specs.Coding.{coded_frame}
use Rattle.rate_build.proofs.writing.write_pictures.Given as goal

abbrev pub invariant-loop-number : goal.invariant-loop-number
invariant-loop-number g l = record {
  puts : Puts (sink_state (g.K.ByteSink.held l.initial.sink) (g.K.ByteSink.taken l.initial.sink)) (sink_state (g.K.ByteSink.held l.sink) (g.K.ByteSink.taken l.sink)) (flat_map (picture_bytes l.header.interlace l.header.alpha) (take l.number (coded_frame l.coefficients l.header l.choice).pictures));
  settled : g.K.ByteSink.settled l.initial.sink ≤ g.K.ByteSink.settled l.sink;
  cause : g.K.ByteSink.faults l.sink ≡ g.K.ByteSink.faults l.initial.sink;
}
