-- The result of the search for the best choice. Our own definitions.
use Rattle.std.specs.Prelude.{ℕ, ◌<◌, ◌^◌, List, map, Result, Ok, Err}
use Rattle.rate_table.specs.declared.entry.Entry.{Entry}
use Rattle.rate_table.specs.declared.entry.Pair.{Pair}
use Rattle.rate_table.specs.Table.{Table, IsBest, IsBestWith, error_of}
use Rattle.rate_table.specs.Records.{Printed}
use Rattle.rate_layers.specs.Layers.{AreKept, pairs_in}
use Rattle.rate_layers.specs.Multiplier.{ArePicks, IsMultiplier}
use Rattle.rate_layers.specs.declared.fault.BestFault.{BestFault}
use Rattle.rate_layers.specs.declared.outcome.Outcome.{Outcome}
use Rattle.rate_layers.specs.declared.outcome.Outcome.TheVariants as outcomes

-- If the outcome is a fitting choice, its record has the property.
abbrev pub OnFits : Result Outcome BestFault → (Printed → Type 0) → Type 0
OnFits (Ok (outcomes.Fits choice size error layers multiplier)) P =
    P (record { choice = choice.items; size = size; error = error; multiplier = multiplier; layers = map (λ l. l.items) layers.items })
OnFits (Ok (outcomes.None least)) P = Unit {0}
OnFits (Err fault) P = Unit {0}

-- If the outcome says that no choice fits, its number has the property.
abbrev pub OnNone : Result Outcome BestFault → (ℕ → Type 0) → Type 0
OnNone (Ok (outcomes.Fits choice size error layers multiplier)) P = Unit {0}
OnNone (Ok (outcomes.None least)) P = P least
OnNone (Err fault) P = Unit {0}

-- the best choice's indices, its size without the fixed bytes, and its error
abbrev pub TellsBest : Table → Printed → Type 0
TellsBest t r = IsBestWith t r.choice r.size r.error

-- the least multiplier whose Lagrangian minimisers fit, and the frontiers that it and the printed error keep
pub record TellsLayers (t : Table) (r : Printed) : Type 0 where
  pub multiplier : IsMultiplier t r.multiplier
  pub kept : AreKept t r.multiplier r.error r.layers

-- A choice fits, and the frontiers kept by the error of the Lagrangian minimisers have more than 2^25 pairs.
pub record PassesByPicks (t : Table) : Type 0 where
  pub multiplier : ℕ
  pub is_multiplier : IsMultiplier t multiplier
  pub picks : List Entry
  pub are_picks : ArePicks multiplier t.slices picks
  pub layers : List (List Pair)
  pub kept : AreKept t multiplier (error_of picks) layers
  pub passes : 2 ^ 25 < pairs_in layers

-- A choice fits, and the frontiers kept by the error of the best choice have more than 2^25 pairs.
pub record PassesByBest (t : Table) : Type 0 where
  pub multiplier : ℕ
  pub is_multiplier : IsMultiplier t multiplier
  pub best : List Entry
  pub is_best : IsBest t best
  pub layers : List (List Pair)
  pub kept : AreKept t multiplier (error_of best) layers
  pub passes : 2 ^ 25 < pairs_in layers
