use Rattle.std.proofs.Common.{◌≡◌, ◌+◌, ◌≤◌, ◌++◌, ℕ, drop}
use Rattle.std.specs.List.{sum_by}
use Rattle.pcm_track.specs.Adding.{chunk_runs}
use Rattle.pcm_track.proofs.plan.chunk_runs.Given as goal

abbrev pub invariant-loop-count : goal.invariant-loop-count
invariant-loop-count l = record {
  chunks : l.chunks.items ++ chunk_runs l.number (drop l.count-index l.runs) ≡ chunk_runs 1 l.runs;
  small : l.number + sum_by (λ (r : ℕ × ℕ). r.0) (drop l.count-index l.runs) ≤ 1000002;
}
