-- The parts of a printed record that some clauses concern.
use Rattle.std.specs.Prelude.{ℕ, List, []}
use Rattle.rate_least.specs.declared.outcome.WidePair.{WidePair}
use Rattle.rate_least.specs.Records.{Printed}

abbrev pub of_sums : List ℕ → ℕ → ℕ → Printed
of_sums choice size error = record { choice = choice; size = size; error = error; multiplier = 0; layers = [] }

abbrev pub of_layers : List ℕ → ℕ → ℕ → ℕ → List (List WidePair) → Printed
of_layers choice size error multiplier layers = record { choice = choice; size = size; error = error; multiplier = multiplier; layers = layers }
