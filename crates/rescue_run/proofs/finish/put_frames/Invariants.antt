use Rattle.std.proofs.Common.{◌≡◌, ◌-◌, ◌≤◌, length, take}
use Rattle.pw_outside.specs.Writing.{sink_state, Puts}
use Rattle.rescue_run.specs.Rescuing.{frame_lines}
use Rattle.rescue_run.proofs.finish.put_frames.Given as goal

abbrev pub invariant-loop-next : goal.invariant-loop-next
invariant-loop-next g l = record {
  order : l.next ≤ length l.extents;
  text : Puts (sink_state (g.K.ByteSink.held l.initial.text) (g.K.ByteSink.taken l.initial.text)) (sink_state (g.K.ByteSink.held l.text) (g.K.ByteSink.taken l.text)) (frame_lines 0 (take l.next l.extents));
  cause : g.K.ByteSink.faults l.text ≡ g.K.ByteSink.faults l.initial.text;
}

abbrev pub decreases-loop-next : goal.decreases-loop-next
decreases-loop-next g l = length l.extents - l.next
