use Rattle.std.proofs.Common.{◌≡◌, ◌+◌, ◌-◌, ◌*◌, ◌≤◌, ◌∷◌, [], ◌++◌, length}
use Rattle.std.specs.Prelude.{IsSome}
use Rattle.std.specs.List.{All}
use Rattle.pw_outside.specs.Ports.{GoesOn}
use Rattle.pw_outside.specs.Reading.{rest_of}
use Rattle.rate_table.specs.Pairs.{RisesAndFalls}
use Rattle.rate_cert.specs.Layers.{run_at}
use Rattle.rate_cert.specs.Files.{IsPair}
use Rattle.pw_outside.proofs.Chains.{with_front}
use Rattle.rate_cert.proofs.layers.run_of.Given as goal

abbrev pub invariant-loop : goal.invariant-loop
invariant-loop g l = record {
  count : length l.pairs.items ≡ l.counter;
  place : l.place ≤ l.initial.place + 20 * l.counter;
  pairs : All IsPair l.pairs.items;
  last : IsPair l.last;
  order : RisesAndFalls (l.pairs.items ++ l.last ∷ []);
  told : IsSome (g.S.ByteSource.left l.initial.source) → IsSome (g.S.ByteSource.left l.source);
  bytes : IsSome (g.S.ByteSource.left l.initial.source)
      → with_front l.pairs.items (run_at (l.count - l.counter) l.last (rest_of l.place (g.S.ByteSource.left l.source)))
      ≡ run_at l.count l.fn.first (rest_of l.initial.place (g.S.ByteSource.left l.initial.source));
  becomes : GoesOn g.S.ByteSource.becomes l.initial.source l.source;
  cause : g.S.ByteSource.faults l.source ≡ g.S.ByteSource.faults l.initial.source;
}
