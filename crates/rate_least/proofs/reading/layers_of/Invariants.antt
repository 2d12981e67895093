use Rattle.std.proofs.Common.{◌≡◌, ◌+◌, ◌-◌, ◌*◌, ◌≤◌, length, map}
use Rattle.std.specs.Prelude.{IsSome}
use Rattle.std.specs.List.{All, sum_by}
use Rattle.pw_outside.specs.Ports.{GoesOn}
use Rattle.pw_outside.specs.Reading.{rest_of}
use Rattle.rate_cert.specs.Layers.{most_pairs}
use Rattle.rate_least.specs.Files.{layers_at}
use Rattle.rate_least.specs.Files.{IsPair}
use Rattle.pw_outside.proofs.Chains.{with_front}
use Rattle.rate_least.proofs.reading.layers_of.Given as goal

abbrev pub invariant-loop : goal.invariant-loop
invariant-loop g l = record {
  count : length l.layers.items ≡ l.counter;
  held : sum_by length (map (λ v. v.items) l.layers.items) ≡ l.held;
  few : l.held ≤ most_pairs;
  place : l.place ≤ l.initial.place + 4 * l.counter + 16 * l.held;
  pairs : All (λ layer. All IsPair layer) (map (λ v. v.items) l.layers.items);
  told : IsSome (g.S.ByteSource.left l.initial.source) → IsSome (g.S.ByteSource.left l.source);
  bytes : IsSome (g.S.ByteSource.left l.initial.source)
      → with_front (map (λ v. v.items) l.layers.items) (layers_at (l.count - l.counter) l.held (rest_of l.place (g.S.ByteSource.left l.source)))
      ≡ layers_at l.count 0 (rest_of l.initial.place (g.S.ByteSource.left l.initial.source));
  becomes : GoesOn g.S.ByteSource.becomes l.initial.source l.source;
  cause : g.S.ByteSource.faults l.source ≡ g.S.ByteSource.faults l.initial.source;
}
