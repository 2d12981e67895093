use Rattle.std.proofs.Common.{◌≡◌, ◌<◌, ◌≤◌, ◌^◌}
use Rattle.std.specs.Prelude.{IsSome, unwrap_or}
use Rattle.pw_outside.specs.Ports.{Lowers, GoesOn}
use Rattle.pw_bits.specs.Bits.{bits_of}
use Rattle.pw_bits.proofs.ReadingLemmas.{TakesSome}
use Rattle.pw_bits.proofs.reader.BitReader.rest_is_zero.Given as goal

abbrev pub invariant-loop-count : goal.invariant-loop-count
invariant-loop-count g l = record {
  kept : l.self-inside ≡ l.initial.self-inside;
  size : l.count ≤ 8;
  fits : l.low < 2 ^ l.count;
  taken : TakesSome (bits_of l.initial.self-inside.count l.initial.self-inside.low) (g.S.ByteSource.left l.initial.source) (bits_of l.count l.low) (g.S.ByteSource.left l.source);
  bound : IsSome (g.S.ByteSource.most l.source);
  told : IsSome (g.S.ByteSource.left l.initial.source) → IsSome (g.S.ByteSource.left l.source);
  lowers : Lowers (g.S.ByteSource.most l.initial.source) (g.S.ByteSource.most l.source) 0;
  becomes : GoesOn g.S.ByteSource.becomes l.initial.source l.source;
  cause : g.S.ByteSource.faults l.source ≡ g.S.ByteSource.faults l.initial.source;
}

abbrev pub decreases-loop-count : goal.decreases-loop-count
decreases-loop-count g l = unwrap_or (g.S.ByteSource.most l.source) 0
