use Rattle.std.proofs.Common.{◌≡◌, ◌≤◌, length}
use Rattle.std.specs.Prelude.{IsSome}
use Rattle.pw_outside.specs.Reading.{bytes_of}
use Rattle.pic_y4m.specs.Frames.{Pictures}
use Rattle.qt_tables.specs.Samples.{samples}
use Rattle.run_look.specs.Checking.{frames_in}
use Rattle.run_look.specs.Agreeing.{given, SamplesAgree, AreFrames}
use Rattle.run_look.proofs.agreeing.take_samples.Given as goal

abbrev pub invariant-loop-k : goal.invariant-loop-k
invariant-loop-k g l = record {
  end : l.k-end ≡ frames_in l.fn.settings l.fn.group;
  few : l.k-end ≤ 8;
  number : length l.frames.items ≡ l.k;
  agree : IsSome (g.M.ByteStore.bytes l.initial.movie) → (ps : Pictures) → SamplesAgree (given (bytes_of (g.M.ByteStore.bytes l.initial.movie)) (samples l.fn.reader.tables) ps) l.fn.settings l.fn.group l.fn.first l.k;
  frames : IsSome (g.M.ByteStore.bytes l.initial.movie) → (ps : Pictures) → AreFrames (given (bytes_of (g.M.ByteStore.bytes l.initial.movie)) (samples l.fn.reader.tables) ps) l.fn.first l.frames.items;
  bytes : g.M.ByteStore.bytes l.movie ≡ g.M.ByteStore.bytes l.initial.movie;
  cause : g.M.ByteStore.faults l.movie ≡ g.M.ByteStore.faults l.initial.movie;
}
