use Rattle.std.proofs.Common.{◌≡◌, ◌+◌, ◌≤◌, ◌++◌, drop}
use Rattle.pcm_track.specs.Adding.{runs_of}
use Rattle.pcm_track.proofs.Runs.{run_then}
use Rattle.pcm_track.proofs.plan.runs_of.Given as goal

abbrev pub invariant-loop-next : goal.invariant-loop-next
invariant-loop-next l = record {
  runs : l.runs.items ++ run_then l.count l.value (runs_of (drop l.next-index (drop 1 l.values))) ≡ runs_of l.values;
  small : l.count ≤ l.next-index + 1;
}
