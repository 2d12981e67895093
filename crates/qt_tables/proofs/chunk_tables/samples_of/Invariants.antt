use Rattle.std.proofs.Common.{◌≤◌, ◌<◌, ◌-◌, length}
use Rattle.std.specs.Prelude.{IfSome, slice_get, slice_index_or}
use Rattle.qt_tables.specs.declared.runs.ChunkRun.{ChunkRun}
use Rattle.qt_tables.proofs.chunk_tables.samples_of.Given as goal

abbrev pub invariant-halves : goal.invariant-halves
invariant-halves l = record {
  order : l.low < l.high;
  in_range : l.high ≤ length l.runs;
  begun : (d : ChunkRun) → (slice_index_or l.runs l.low d).first ≤ l.number;
  next : IfSome (slice_get l.runs l.high) (λ next. l.number < next.first);
}

abbrev pub decreases-halves : goal.decreases-halves
decreases-halves l = l.high - l.low
