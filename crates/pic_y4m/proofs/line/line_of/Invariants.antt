use Rattle.std.proofs.Common.{◌≡◌, ◌++◌, length}
use Rattle.std.specs.Prelude.{IsSome}
use Rattle.pw_outside.specs.Ports.{GoesOn}
use Rattle.pw_outside.specs.Reading.{bytes_of}
use Rattle.pic_y4m.specs.Line.{feed}
use Rattle.pic_y4m.proofs.line.line_of.Given as goal

abbrev pub invariant-loop : goal.invariant-loop
invariant-loop g l = record {
  count : length l.bytes.items ≡ l.counter;
  place : l.place ≡ l.initial.place;
  none : feed l.bytes.items ≡ length l.bytes.items;
  told : IsSome (g.S.ByteSource.left l.initial.source) → IsSome (g.S.ByteSource.left l.source);
  bytes : IsSome (g.S.ByteSource.left l.initial.source)
      → bytes_of (g.S.ByteSource.left l.initial.source) ≡ l.bytes.items ++ bytes_of (g.S.ByteSource.left l.source);
  becomes : GoesOn g.S.ByteSource.becomes l.initial.source l.source;
  cause : g.S.ByteSource.faults l.source ≡ g.S.ByteSource.faults l.initial.source;
}
