use Rattle.std.proofs.Common.{◌≡◌, ◌+◌, ◌-◌, ◌*◌, ◌≤◌, length}
use Rattle.std.specs.Prelude.{IsSome}
use Rattle.std.specs.List.{All}
use Rattle.pw_outside.specs.Ports.{GoesOn}
use Rattle.pw_outside.specs.Reading.{rest_of}
use Rattle.pw_outside.proofs.Chains.{with_front}
use Rattle.rate_table.specs.Table.{IndicesRise, IsEntry}
use Rattle.rate_table.specs.Reading.{entries_at}
use Rattle.rate_table.proofs.reading.entries_of.Given as goal

abbrev pub invariant-loop : goal.invariant-loop
invariant-loop g l = record {
  count : length l.entries.items ≡ l.counter;
  place : l.place ≤ l.initial.place + 11 * l.counter;
  rises : IndicesRise l.entries.items;
  limits : All IsEntry l.entries.items;
  below : All (λ x. x.index ≤ l.low) l.entries.items;
  told : IsSome (g.S.ByteSource.left l.initial.source) → IsSome (g.S.ByteSource.left l.source);
  bytes : IsSome (g.S.ByteSource.left l.initial.source)
      → with_front l.entries.items (entries_at (l.count - l.counter) l.low (rest_of l.place (g.S.ByteSource.left l.source)))
      ≡ entries_at l.count 0 (rest_of l.initial.place (g.S.ByteSource.left l.initial.source));
  becomes : GoesOn g.S.ByteSource.becomes l.initial.source l.source;
  cause : g.S.ByteSource.faults l.source ≡ g.S.ByteSource.faults l.initial.source;
}
