use Rattle.std.proofs.Common.{◌≡◌, ◌+◌, ◌≤◌}
use Rattle.std.specs.Prelude.{IsSome}
use Rattle.pic_raw.specs.Any.{IsReader, head_of}
use Rattle.run_look.specs.Checking.{frames_in}
use Rattle.run_look.specs.Agreeing.{Given, left_by, AreLeft, AreFrames, PicturesAgree}
use Rattle.run_look.proofs.agreeing.take_pictures.Given as goal

abbrev pub invariant-loop-k : goal.invariant-loop-k
invariant-loop-k g l = record {
  end : l.k-end ≡ frames_in l.fn.settings l.fn.group;
  few : l.k-end ≤ 8;
  told : IsSome (g.S.ByteSource.left l.initial.pictures) → IsSome (g.S.ByteSource.left l.pictures);
  takes : IsSome (g.S.ByteSource.left l.initial.pictures) → (x : Given) → AreLeft x l.fn.first (left_by l.initial.reader (g.S.ByteSource.left l.initial.pictures)) → AreFrames x l.fn.first l.fn.frames
      → PicturesAgree x l.fn.layout l.fn.settings l.fn.group l.fn.first l.k × AreLeft x (l.fn.first + l.k) (left_by l.reader (g.S.ByteSource.left l.pictures));
  head : head_of l.reader ≡ head_of l.initial.reader;
  reader : IsReader l.reader;
  cause : g.S.ByteSource.faults l.pictures ≡ g.S.ByteSource.faults l.initial.pictures;
}
