-- Pareto frontiers of pairs of size and error. A frontier is called a layer here, as in the format. Our own
-- definitions.
use Rattle.std.specs.Prelude.{◌≡◌, ℕ, ◌<◌, ◌↔◌, List, [], ◌∷◌, length}
use Rattle.std.specs.List.{sum_by, Contains}
use Rattle.rate_table.specs.declared.entry.Entry.{Entry}
use Rattle.rate_table.specs.Table.{IsChoice, size_of, error_of}
use Rattle.rate_least.specs.declared.outcome.WidePair.{WidePair}
use Rattle.rate_least.specs.Pairs.{Dominates, joined, RisesAndFalls}

-- the pair of a choice
abbrev pub wide_of : List Entry → WidePair
wide_of choice = record { size = size_of choice; error = error_of choice }

-- the pair of a choice of these slices
abbrev pub Reaches : List (List Entry) → WidePair → Type 0
Reaches slices p = (choice : List Entry) × IsChoice slices choice × (wide_of choice ≡ p)

-- sizes rise
abbrev pub Rises : List WidePair → Type 0
Rises [] = Unit {0}
Rises (p ∷ []) = Unit {0}
Rises (p ∷ q ∷ ps) = (p.size < q.size) × Rises (q ∷ ps)

-- p is one of the pairs, and no other one dominates it.
abbrev pub IsUndominated : (WidePair → Type 0) → WidePair → Type 0
IsUndominated Is p = Is p × ((q : WidePair) → Is q → Dominates q p → q ≡ p)

-- the Pareto frontier of the pairs: by rising size, those that no other one dominates
pub record IsLayer (Is : WidePair → Type 0) (layer : List WidePair) : Type 0 where
  pub rises : Rises layer
  pub has : (p : WidePair) → Contains layer p ↔ IsUndominated Is p

-- The same in the form that a merge establishes: each pair of the layer is one of the pairs, and each of the pairs
-- is dominated by one of the layer.
pub record IsFront (Is : WidePair → Type 0) (layer : List WidePair) : Type 0 where
  pub order : RisesAndFalls layer
  pub only : (p : WidePair) → Contains layer p → Is p
  pub covers : (p : WidePair) → Is p → (q : WidePair) × Contains layer q × Dominates q p

-- a pair of the layer joined with an entry of the slice
abbrev pub Joins : List WidePair → List Entry → WidePair → Type 0
Joins layer slice p = (q : WidePair) × (x : Entry) × Contains layer q × Contains slice x × (p ≡ joined q x)

-- the number of pairs of all layers together
abbrev pub pairs_in : List (List WidePair) → ℕ
pairs_in layers = sum_by length layers
