use Rattle.std.proofs.Common.{◌≡◌, ◌+◌, ◌-◌, ◌*◌, ◌≤◌, length}
use Rattle.std.specs.Prelude.{IsSome}
use Rattle.pw_outside.specs.Ports.{Lowers, GoesOn}
use Rattle.pw_outside.specs.Reading.{rest_of}
use Rattle.pw_outside.proofs.Chains.{with_front}
use Rattle.pr_head.specs.inner.Steps.{sizes_in}
use Rattle.pr_head.proofs.picture.sizes_of.Given as goal

abbrev pub invariant-loop : goal.invariant-loop
invariant-loop g l = record {
  count : length l.sizes.items ≡ l.counter;
  place : l.place ≤ l.initial.place + 2 * l.counter;
  told : IsSome (g.S.ByteSource.left l.initial.source) → IsSome (g.S.ByteSource.left l.source);
  bytes : IsSome (g.S.ByteSource.left l.initial.source)
      → with_front l.sizes.items (sizes_in l.at (l.slices - l.counter) (rest_of l.place (g.S.ByteSource.left l.source)))
      ≡ sizes_in l.at l.slices (rest_of l.initial.place (g.S.ByteSource.left l.initial.source));
  most : Lowers (g.S.ByteSource.most l.initial.source) (g.S.ByteSource.most l.source) 0;
  becomes : GoesOn g.S.ByteSource.becomes l.initial.source l.source;
  cause : g.S.ByteSource.faults l.source ≡ g.S.ByteSource.faults l.initial.source;
}
