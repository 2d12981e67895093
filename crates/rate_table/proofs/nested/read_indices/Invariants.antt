use Rattle.std.proofs.Common.{◌≡◌, ◌+◌, ◌-◌, ◌<◌, ◌≤◌, length}
use Rattle.std.specs.Prelude.{IsSome}
use Rattle.std.specs.List.{All}
use Rattle.pw_outside.specs.Ports.{GoesOn}
use Rattle.pw_outside.specs.Reading.{rest_of}
use Rattle.rate_table.specs.Nested.{indices_at}
use Rattle.pw_outside.proofs.Chains.{with_front}
use Rattle.rate_table.proofs.nested.read_indices.Given as goal

abbrev pub invariant-loop : goal.invariant-loop
invariant-loop g l = record {
  count : length l.choice.items ≡ l.counter;
  place : l.place ≤ l.initial.place + l.counter;
  indices : All (λ index. index < 256) l.choice.items;
  told : IsSome (g.S.ByteSource.left l.initial.source) → IsSome (g.S.ByteSource.left l.source);
  bytes : IsSome (g.S.ByteSource.left l.initial.source)
      → with_front l.choice.items (indices_at (l.count - l.counter) (rest_of l.place (g.S.ByteSource.left l.source)))
      ≡ indices_at l.count (rest_of l.initial.place (g.S.ByteSource.left l.initial.source));
  becomes : GoesOn g.S.ByteSource.becomes l.initial.source l.source;
  cause : g.S.ByteSource.faults l.source ≡ g.S.ByteSource.faults l.initial.source;
}
