use Rattle.std.proofs.Common.{◌≡◌, refl, ◌+◌, ◌≤◌, subst, sym, length}
use Rattle.std.specs.Prelude.{IsSome, IfSome, Some, slice_get}
use Rattle.pw_outside.specs.Reading.{bytes_of}
use Rattle.qt_movie.proofs.Inside.{inside_found}
use Rattle.qt_tables.specs.Samples.{samples}
use Rattle.pr_head.specs.Faults.{told_fault}
use Rattle.pr_frame.specs.Reading.{frame_fault}
use Rattle.pr_frame.specs.Stands.{FrameStands}
use Rattle.run_look.specs.Agreeing.{sample_bytes}
use Rattle.run_look.proofs.agreeing.read_sample.Goals as goal

pub read_part-requires-clause-inside : goal.read_part-requires-clause-inside
read_part-requires-clause-inside g c = λ told.
    subst (λ b. c.args.sample.now.at + c.args.sample.now.size ≤ length (bytes_of b)) (sym c.place.ensures.bytes)
    (inside_found (bytes_of (g.M.ByteStore.bytes c.args.movie.now)) (slice_get (samples c.args.reader.now.tables) c.args.number) c.args.sample.now c.in-Ok.field-0 c.requires.sample
    (c.in-Ok.ensures.value (subst IsSome c.place.ensures.bytes told)))

pub returns-in-Ok-read_part-clause-reads : goal.returns-in-Ok-read_part-clause-reads
returns-in-Ok-read_part-clause-reads g c = λ told. record {
  inside = inside_found (bytes_of (g.M.ByteStore.bytes c.args.movie.now)) (slice_get (samples c.args.reader.now.tables) c.args.number) c.args.sample.now c.in-Ok.field-0 c.requires.sample (c.in-Ok.ensures.value told);
  stands = subst (λ b. FrameStands (sample_bytes (bytes_of b) c.args.sample.now) c.in-Ok-read_part.frame) c.place.ensures.bytes
      (c.in-Ok-read_part.ensures.stands (subst IsSome (sym c.place.ensures.bytes) told));
}

pub returns-in-Err-Bad-read_part-clause-reads : goal.returns-in-Err-Bad-read_part-clause-reads
returns-in-Err-Bad-read_part-clause-reads g c = λ told. (
  refl,
  inside_found (bytes_of (g.M.ByteStore.bytes c.args.movie.now)) (slice_get (samples c.args.reader.now.tables) c.args.number) c.args.sample.now c.in-Ok.field-0 c.requires.sample (c.in-Ok.ensures.value told),
  subst (λ b. frame_fault (sample_bytes (bytes_of b) c.args.sample.now) ≡ Some (record { kind = c.in-Err-Bad-read_part.kind; place = c.in-Err-Bad-read_part.place })) c.place.ensures.bytes
      (subst (λ e. IfSome (told_fault e) (λ fault. frame_fault (sample_bytes (bytes_of (g.M.ByteStore.bytes c.place.new.store)) c.args.sample.now) ≡ Some fault)) c.in-Err-Bad-read_part.field-0-is
      (c.in-Err-Bad-read_part.ensures.fault (subst IsSome (sym c.place.ensures.bytes) told))),
)
