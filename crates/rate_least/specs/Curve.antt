-- The Pareto frontier of a table's choices, called its curve. Our own definitions.
use Rattle.std.specs.Prelude.{◌≡◌, ℕ, suc, ◌<◌, ◌≤◌, ◌^◌, List, [], length, slice_index_or, take}
use Rattle.rate_table.specs.declared.entry.Entry.{Entry}
use Rattle.rate_least.specs.declared.outcome.WidePair.{WidePair}
use Rattle.rate_least.specs.Layers.{Reaches, IsLayer, pairs_in}

-- by rising size, the pairs of choices of these slices that no other one dominates
abbrev pub IsCurve : List (List Entry) → List WidePair → Type 0
IsCurve slices points = IsLayer (Reaches slices) points

-- the curves of the first k slices, for each k up to the number of slices
abbrev pub AreCurves : List (List Entry) → List (List WidePair) → Type 0
AreCurves slices layers = (length layers ≡ suc (length slices)) × ((k : ℕ) → k ≤ length slices → IsCurve (take k slices) (slice_index_or layers k []))

-- The curves of the first slices, over all numbers of them, have more than 2^25 points together.
abbrev pub CurvesPass : List (List Entry) → Type 0
CurvesPass slices = (layers : List (List WidePair)) × AreCurves slices layers × (2 ^ 25 < pairs_in layers)
