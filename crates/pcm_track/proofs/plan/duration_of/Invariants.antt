use Rattle.std.proofs.Common.{◌≡◌, ◌*◌, ◌≤◌, take}
use Rattle.std.specs.List.{sum_by}
use Rattle.qt_tables.specs.declared.runs.Sample.{Sample}
use Rattle.pcm_track.proofs.plan.duration_of.Given as goal

abbrev pub invariant-loop-sample : goal.invariant-loop-sample
invariant-loop-sample l = record {
  sum : l.duration ≡ sum_by (λ (s : Sample). s.duration) (take l.sample-index l.samples);
  small : l.duration ≤ 4294967295 * l.sample-index;
}
