use Rattle.std.proofs.Common.{◌≡◌, ◌*◌, ◌≤◌, ℕ, false}
use Rattle.std.specs.Prelude.{IsSome}
use Rattle.pw_outside.specs.Reading.{rest_of}
use Rattle.rate_cert.specs.Files.{most_records}
use Rattle.run_look.specs.declared.end.LookEnd.{LookEnd}
use Rattle.run_look.specs.Checking.{RecordsAlone}
use Rattle.run_look.proofs.Alone.{AloneFrom, marks_left}
use Rattle.run_look.proofs.checking.check_records.Given as goal

abbrev pub invariant-loop-group : goal.invariant-loop-group
invariant-loop-group g l = record {
  settings : l.reader.settings ≡ l.initial.reader.settings;
  count : l.reader.progress.count ≡ l.records;
  few : l.records ≤ most_records;
  frames : l.frames ≤ 8 * l.records;
  going : l.reader.ended ≡ false;
  told : IsSome (g.S.ByteSource.left l.initial.proof) → IsSome (g.S.ByteSource.left l.proof);
  answer : IsSome (g.S.ByteSource.left l.initial.proof) → (end : LookEnd) (n : ℕ)
      → AloneFrom (marks_left l.reader.progress) l.reader.format l.reader.settings l.reader.progress l.frames (rest_of l.reader.place (g.S.ByteSource.left l.proof)) end n
      → RecordsAlone l.initial.reader.format l.initial.reader.settings (rest_of l.initial.reader.place (g.S.ByteSource.left l.initial.proof)) end n;
  cause : g.S.ByteSource.faults l.proof ≡ g.S.ByteSource.faults l.initial.proof;
}

abbrev pub decreases-loop-group : goal.decreases-loop-group
decreases-loop-group g l = marks_left l.reader.progress
