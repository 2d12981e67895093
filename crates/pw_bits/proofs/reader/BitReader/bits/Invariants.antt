use Rattle.std.proofs.Common.{◌≡◌, ◌+◌, ◌-◌, ◌<◌, ◌^◌, []}
use Rattle.std.specs.Prelude.{IsSome}
use Rattle.pw_outside.specs.Ports.{Lowers, GoesOn}
use Rattle.pw_bits.specs.Bits.{bits_of}
use Rattle.pw_bits.specs.Reading.{Takes}
use Rattle.pw_bits.proofs.reader.BitReader.bits.Given as goal

abbrev pub invariant-loop-count : goal.invariant-loop-count
invariant-loop-count g l = record {
  kept : l.self-inside ≡ l.initial.self-inside;
  size : l.count < l.n + 8;
  fits : l.all < 2 ^ l.count;
  taken : Takes (bits_of l.initial.self-inside.count l.initial.self-inside.low) (g.S.ByteSource.left l.initial.source) (bits_of l.count l.all) (g.S.ByteSource.left l.source) [];
  told : IsSome (g.S.ByteSource.left l.initial.source) → IsSome (g.S.ByteSource.left l.source);
  most : Lowers (g.S.ByteSource.most l.initial.source) (g.S.ByteSource.most l.source) 0;
  becomes : GoesOn g.S.ByteSource.becomes l.initial.source l.source;
  cause : g.S.ByteSource.faults l.source ≡ g.S.ByteSource.faults l.initial.source;
}

abbrev pub decreases-loop-count : goal.decreases-loop-count
decreases-loop-count g l = l.n - l.count
