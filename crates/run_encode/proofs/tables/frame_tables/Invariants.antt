use Rattle.std.proofs.Common.{◌≡◌, map, take}
use Rattle.rate_build.specs.Tables.{table_of}
use Rattle.run_encode.proofs.tables.frame_tables.Given as goal

abbrev pub invariant-frames : goal.invariant-frames
invariant-frames l = record {
  tables : l.tables.items ≡ map (λ c. table_of c l.job.weights l.job.lo l.job.hi l.job.budget) (take l.frame-index l.frames);
}
