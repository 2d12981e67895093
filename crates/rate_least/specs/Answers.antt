-- The result of the search for the smallest choice. Our own definitions.
use Rattle.std.specs.Prelude.{◌≡◌, ℕ, ◌+◌, ◌*◌, ◌<◌, ◌≤◌, ◌^◌, List, [], ◌∷◌, length, max}
use Rattle.std.specs.List.{sum_by}
use Rattle.rate_table.specs.declared.entry.Entry.{Entry}
use Rattle.rate_table.specs.Table.{IsChoice, ComesFirst, size_of, error_of, pair_of, indices}
use Rattle.rate_least.specs.declared.outcome.WidePair.{WidePair}
use Rattle.rate_least.specs.Least.{HasNoneUnder}
use Rattle.rate_least.specs.Records.{Printed, Said, fits, none, SaysNone}
use Rattle.rate_least.specs.Layers.{pairs_in}
use Rattle.rate_least.specs.Held.{IsBend, IsGreatestMultiplier, AreHeld}

-- the choice of error at most the cap that has the least size, then the least error, then is first in lexicographic
-- order of its indices
pub record IsSmallest (slices : List (List Entry)) (cap : ℕ) (best : List Entry) : Type 0 where
  pub choice : IsChoice slices best
  pub under : error_of best ≤ cap
  pub size : (other : List Entry) → IsChoice slices other → error_of other ≤ cap → size_of best ≤ size_of other
  pub error : (other : List Entry) → IsChoice slices other → error_of other ≤ cap → size_of other ≡ size_of best → error_of best ≤ error_of other
  pub first : (other : List Entry) → IsChoice slices other → pair_of other ≡ pair_of best → ComesFirst (indices best) (indices other)

-- the smallest choice's indices, its size and its error; the greatest multiplier that meets the cap; and the Pareto
-- frontiers held under the choice's own size
pub record IsSmallestWith (slices : List (List Entry)) (cap : ℕ) (r : Printed) : Type 0 where
  pub best : List Entry
  pub is_smallest : IsSmallest slices cap best
  pub choice : r.choice ≡ indices best
  pub size : r.size ≡ size_of best
  pub error : r.error ≡ error_of best
  pub multiplier : IsGreatestMultiplier slices cap r.multiplier
  pub held : AreHeld slices cap r.multiplier r.size r.layers

-- the outcome for these slices and the cap: the smallest choice with its frontiers, or the least error if no choice
-- meets the cap
abbrev pub IsAnswer : List (List Entry) → ℕ → Said → Type 0
IsAnswer slices cap (fits r) = IsSmallestWith slices cap r
IsAnswer slices cap (none least) = HasNoneUnder slices cap × SaysNone slices cap least

-- A choice meets the cap, and the frontiers held under the size of the Lagrangian minimisers have more than 2^25
-- pairs.
pub record PassesByBend (slices : List (List Entry)) (cap : ℕ) : Type 0 where
  pub multiplier : ℕ
  pub is_multiplier : IsGreatestMultiplier slices cap multiplier
  pub bend : List Entry
  pub is_bend : IsBend multiplier slices bend
  pub layers : List (List WidePair)
  pub held : AreHeld slices cap multiplier (size_of bend) layers
  pub passes : 2 ^ 25 < pairs_in layers

-- A choice meets the cap, and the frontiers held under the size of the smallest one have more than 2^25 pairs.
pub record PassesBySmallest (slices : List (List Entry)) (cap : ℕ) : Type 0 where
  pub multiplier : ℕ
  pub is_multiplier : IsGreatestMultiplier slices cap multiplier
  pub best : List Entry
  pub is_smallest : IsSmallest slices cap best
  pub layers : List (List WidePair)
  pub held : AreHeld slices cap multiplier (size_of best) layers
  pub passes : 2 ^ 25 < pairs_in layers

-- the greatest value of f at these entries
abbrev pub greatest : (Entry → ℕ) → List Entry → ℕ
greatest f [] = 0
greatest f (x ∷ xs) = max (f x) (greatest f xs)

-- the sum of the greatest sizes of these slices
abbrev pub greatest_size : List (List Entry) → ℕ
greatest_size slices = sum_by (greatest (λ x. x.size)) slices

-- Frontiers with a pair for each size may have more than 2^25 pairs together.
abbrev pub IsWide : List (List Entry) → Type 0
IsWide slices = 2 ^ 25 < (greatest_size slices + 1) * (length slices + 1)
