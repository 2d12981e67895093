use Rattle.std.proofs.Common.{◌≡◌, ◌+◌, ◌-◌, ◌<◌, ◌≤◌, ◌^◌}
use Rattle.std.specs.Prelude.{IsSome}
use Rattle.pw_outside.specs.Ports.{Lowers, GoesOn}
use Rattle.pw_bits.specs.Bits.{bits_of, zeros}
use Rattle.pw_bits.specs.Reading.{Takes}
use Rattle.pw_bits.proofs.reader.BitReader.zeros.Given as goal

abbrev pub invariant-loop-run : goal.invariant-loop-run
invariant-loop-run g l = record {
  kept : l.self-inside ≡ l.initial.self-inside;
  size : l.count ≤ 8;
  fits : l.low < 2 ^ l.count;
  within : l.run ≤ l.most;
  taken : Takes (bits_of l.initial.self-inside.count l.initial.self-inside.low) (g.S.ByteSource.left l.initial.source) (bits_of l.count l.low) (g.S.ByteSource.left l.source) (zeros l.run);
  told : IsSome (g.S.ByteSource.left l.initial.source) → IsSome (g.S.ByteSource.left l.source);
  lowers : Lowers (g.S.ByteSource.most l.initial.source) (g.S.ByteSource.most l.source) 0;
  becomes : GoesOn g.S.ByteSource.becomes l.initial.source l.source;
  cause : g.S.ByteSource.faults l.source ≡ g.S.ByteSource.faults l.initial.source;
}

abbrev pub decreases-loop-run : goal.decreases-loop-run
decreases-loop-run g l = (l.most - l.run) + (8 - l.count)
