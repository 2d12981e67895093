use Rattle.std.proofs.Common.{◌≡◌, ◌*◌, ◌≤◌, ℕ, false}
use Rattle.std.specs.Prelude.{IsSome}
use Rattle.pw_outside.specs.Reading.{bytes_of, rest_of}
use Rattle.pic_y4m.specs.Frames.{Pictures}
use Rattle.pic_raw.specs.Any.{IsReader, head_of}
use Rattle.qt_tables.specs.Samples.{samples}
use Rattle.rate_cert.specs.Files.{most_records}
use Rattle.run_look.specs.declared.end.LookEnd.{LookEnd}
use Rattle.run_look.specs.Agreeing.{given, left_by, AreLeft, RecordsWith}
use Rattle.run_look.proofs.Alone.{marks_left}
use Rattle.run_look.proofs.Going.{From}
use Rattle.run_look.proofs.agreeing.check_groups.Given as goal

abbrev pub invariant-loop-group : goal.invariant-loop-group
invariant-loop-group g l = record {
  settings : l.records.settings ≡ l.initial.records.settings;
  count : l.records.progress.count ≡ l.count;
  few : l.count ≤ most_records;
  frames : l.frames ≤ 8 * l.count;
  going : l.records.ended ≡ false;
  told : IsSome (g.S.ByteSource.left l.initial.proof) → IsSome (g.S.ByteSource.left l.proof);
  shown_told : IsSome (g.S.ByteSource.left l.initial.pictures) → IsSome (g.S.ByteSource.left l.pictures);
  head : head_of l.shown ≡ head_of l.initial.shown;
  reader : IsReader l.shown;
  left : IsSome (g.M.ByteStore.bytes l.initial.movie) → IsSome (g.S.ByteSource.left l.initial.pictures) → (ps : Pictures) → ps ≡ left_by l.initial.shown (g.S.ByteSource.left l.initial.pictures)
      → AreLeft (given (bytes_of (g.M.ByteStore.bytes l.initial.movie)) (samples l.fn.reader.tables) ps) l.frames (left_by l.shown (g.S.ByteSource.left l.pictures));
  answer : IsSome (g.S.ByteSource.left l.initial.proof) → IsSome (g.M.ByteStore.bytes l.initial.movie) → IsSome (g.S.ByteSource.left l.initial.pictures)
      → (ps : Pictures) → ps ≡ left_by l.initial.shown (g.S.ByteSource.left l.initial.pictures) → (end : LookEnd) (n : ℕ)
      → From (given (bytes_of (g.M.ByteStore.bytes l.initial.movie)) (samples l.fn.reader.tables) ps) l.fn.layout (marks_left l.records.progress) l.records.format l.records.settings l.records.progress l.frames
      (rest_of l.records.place (g.S.ByteSource.left l.proof)) end n
      → RecordsWith (given (bytes_of (g.M.ByteStore.bytes l.initial.movie)) (samples l.fn.reader.tables) ps) l.initial.records.format l.initial.records.settings
      (rest_of l.initial.records.place (g.S.ByteSource.left l.initial.proof)) end n;
  bytes : g.M.ByteStore.bytes l.movie ≡ g.M.ByteStore.bytes l.initial.movie;
  read : g.S.ByteSource.faults l.proof ≡ g.S.ByteSource.faults l.initial.proof;
  stored : g.M.ByteStore.faults l.movie ≡ g.M.ByteStore.faults l.initial.movie;
  seen : g.S.ByteSource.faults l.pictures ≡ g.S.ByteSource.faults l.initial.pictures;
}

abbrev pub decreases-loop-group : goal.decreases-loop-group
decreases-loop-group g l = marks_left l.records.progress
