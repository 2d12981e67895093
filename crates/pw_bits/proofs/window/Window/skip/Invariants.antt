use Rattle.std.proofs.Common.{◌≡◌, ◌≤◌, drop}
use Rattle.std.specs.Prelude.{IsSome}
use Rattle.pw_outside.specs.Ports.{Lowers, GoesOn}
use Rattle.pw_outside.specs.Reading.{bytes_of}
use Rattle.pw_bits.proofs.window.Window.skip.Given as goal

abbrev pub invariant-loop-self : goal.invariant-loop-self
invariant-loop-self g l = record {
  same : l.self.source.ghost_name ≡ l.initial.self.source.ghost_name;
  within : l.self.left ≤ l.initial.self.left;
  behind : IsSome (g.S.ByteSource.left l.initial.self.source.now) → drop l.self.left (bytes_of (g.S.ByteSource.left l.self.source.now)) ≡ drop l.initial.self.left (bytes_of (g.S.ByteSource.left l.initial.self.source.now));
  told : IsSome (g.S.ByteSource.left l.initial.self.source.now) → IsSome (g.S.ByteSource.left l.self.source.now);
  lowers : Lowers (g.S.ByteSource.most l.initial.self.source.now) (g.S.ByteSource.most l.self.source.now) 0;
  becomes : GoesOn g.S.ByteSource.becomes l.initial.self.source.now l.self.source.now;
  cause : g.S.ByteSource.faults l.self.source.now ≡ g.S.ByteSource.faults l.initial.self.source.now;
}

abbrev pub decreases-loop-self : goal.decreases-loop-self
decreases-loop-self g l = l.self.left
