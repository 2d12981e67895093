use Rattle.std.proofs.Common.{◌≡◌, map, take}
use Rattle.qt_tables.specs.declared.runs.Sample.{Sample}
use Rattle.pcm_track.proofs.plan.durations_of.Given as goal

abbrev pub invariant-loop-sample : goal.invariant-loop-sample
invariant-loop-sample l = l.durations.items ≡ map (λ (s : Sample). s.duration) (take l.sample-index l.samples)
