use Rattle.std.proofs.Common.{◌≡◌, ◌+◌, ◌-◌, ◌*◌, ◌≤◌, length}
use Rattle.std.specs.Prelude.{IsSome}
use Rattle.pw_outside.specs.Ports.{GoesOn}
use Rattle.pw_outside.specs.Reading.{rest_of}
use Rattle.std.specs.List.{All}
use Rattle.rate_least.specs.Files.{pairs_at}
use Rattle.rate_least.specs.Files.{IsPair}
use Rattle.pw_outside.proofs.Chains.{with_front}
use Rattle.rate_least.proofs.reading.pairs_of.Given as goal

abbrev pub invariant-loop : goal.invariant-loop
invariant-loop g l = record {
  count : length l.pairs.items ≡ l.counter;
  pairs : All IsPair l.pairs.items;
  place : l.place ≤ l.initial.place + 16 * l.counter;
  told : IsSome (g.S.ByteSource.left l.initial.source) → IsSome (g.S.ByteSource.left l.source);
  bytes : IsSome (g.S.ByteSource.left l.initial.source)
      → with_front l.pairs.items (pairs_at (l.count - l.counter) (rest_of l.place (g.S.ByteSource.left l.source)))
      ≡ pairs_at l.count (rest_of l.initial.place (g.S.ByteSource.left l.initial.source));
  becomes : GoesOn g.S.ByteSource.becomes l.initial.source l.source;
  cause : g.S.ByteSource.faults l.source ≡ g.S.ByteSource.faults l.initial.source;
}
