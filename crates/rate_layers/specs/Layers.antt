-- Pareto frontiers of pairs of size and error, one after each number of slices. A frontier is called a layer here,
-- as in the formats.
use Rattle.std.specs.Prelude.{◌≡◌, ℕ, suc, ◌<◌, ◌≤◌, ◌↔◌, List, [], ◌∷◌, length, slice_index_or, take, drop}
use Rattle.std.specs.List.{sum_by, Contains}
use Rattle.rate_table.specs.declared.entry.Entry.{Entry}
use Rattle.rate_table.specs.declared.entry.Pair.{Pair}
use Rattle.rate_table.specs.Table.{Table, IsChoice, pair_of}
use Rattle.rate_table.specs.Pairs.{Dominates, joined, RisesAndFalls, CanFit, StaysWithin}

-- the pair of a choice of these slices
abbrev pub Reaches : List (List Entry) → Pair → Type 0
Reaches slices p = (choice : List Entry) × IsChoice slices choice × (pair_of choice ≡ p)

-- sizes rise
abbrev pub Rises : List Pair → Type 0
Rises [] = Unit {0}
Rises (p ∷ []) = Unit {0}
Rises (p ∷ q ∷ ps) = (p.size < q.size) × Rises (q ∷ ps)

-- p is one of the pairs, and no other one dominates it.
abbrev pub IsUndominated : (Pair → Type 0) → Pair → Type 0
IsUndominated Is p = Is p × ((q : Pair) → Is q → Dominates q p → q ≡ p)

-- the Pareto frontier of the pairs: by rising size, those that no other one dominates
pub record IsLayer (Is : Pair → Type 0) (layer : List Pair) : Type 0 where
  pub rises : Rises layer
  pub has : (p : Pair) → Contains layer p ↔ IsUndominated Is p

-- The same in the form that a merge establishes: each pair of the layer is one of the pairs, and each of the pairs
-- is dominated by one of the layer.
pub record IsFront (Is : Pair → Type 0) (layer : List Pair) : Type 0 where
  pub order : RisesAndFalls layer
  pub only : (p : Pair) → Contains layer p → Is p
  pub covers : (p : Pair) → Is p → (q : Pair) × Contains layer q × Dominates q p

-- a pair of the layer joined with an entry of the slice
abbrev pub Joins : List Pair → List Entry → Pair → Type 0
Joins layer slice p = (q : Pair) × (x : Entry) × Contains layer q × Contains slice x × (p ≡ joined q x)

-- ---- full frontiers, which no program computes

-- all undominated pairs of the first k slices that can still fit
abbrev pub IsFull : Table → ℕ → List Pair → Type 0
IsFull t k layer = IsLayer (λ p. Reaches (take k t.slices) p × CanFit t (drop k t.slices) p) layer

-- the merge of a layer and the next slice, with the slices `later` still to come
abbrev pub IsMerged : Table → List (List Entry) → List Entry → List Pair → List Pair → Type 0
IsMerged t later slice layer next = IsFront (λ p. Joins layer slice p × CanFit t later p) next

-- a table's full frontiers, one more than slices
abbrev pub AreFull : Table → List (List Pair) → Type 0
AreFull t layers = (length layers ≡ suc (length t.slices)) × ((k : ℕ) → k ≤ length t.slices → IsFull t k (slice_index_or layers k []))

-- ---- kept frontiers, by a Lagrangian multiplier m and an error u

-- the pairs of the full frontier that are not pruned by the bound, in its order
abbrev pub IsKept : Table → ℕ → ℕ → ℕ → List Pair → Type 0
IsKept t m u k kept = (layer : List Pair) × IsFull t k layer × Rises kept × ((p : Pair) → Contains kept p ↔ (Contains layer p × StaysWithin t m u (drop k t.slices) p))

-- the merge of a layer and the next slice under the bound, with the slices `later` still to come
abbrev pub IsKeptMerged : Table → ℕ → ℕ → List (List Entry) → List Entry → List Pair → List Pair → Type 0
IsKeptMerged t m u later slice layer next = IsFront (λ p. Joins layer slice p × (CanFit t later p × StaysWithin t m u later p)) next

-- a table's kept frontiers, one more than slices
abbrev pub AreKept : Table → ℕ → ℕ → List (List Pair) → Type 0
AreKept t m u layers = (length layers ≡ suc (length t.slices)) × ((k : ℕ) → k ≤ length t.slices → IsKept t m u k (slice_index_or layers k []))

-- the number of pairs of all layers together
abbrev pub pairs_in : List (List Pair) → ℕ
pairs_in layers = sum_by length layers
