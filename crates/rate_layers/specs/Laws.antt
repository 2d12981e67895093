-- Laws of Pareto frontiers, of the Lagrangian multiplier and of the best choice, independent of any program.
use Rattle.std.specs.Prelude.{◌≡◌, ℕ, suc, ◌+◌, ◌*◌, ◌<◌, ◌≤◌, ◌^◌, ◌↔◌, List, [], ◌∷◌, ◌++◌, length, drop, slice_index_or}
use Rattle.std.specs.List.{Contains}
use Rattle.rate_table.specs.declared.entry.Entry.{Entry}
use Rattle.rate_table.specs.declared.entry.Pair.{Pair}
use Rattle.rate_table.specs.Table.{Table, IsTable, IsChoice, Fits, HasNoFit, IsBest, size_of, error_of}
use Rattle.rate_table.specs.Pairs.{StaysWithin}
use Rattle.rate_table.specs.Records.{IsGoodFit, record_of}
use Rattle.rate_layers.specs.Layers.{Rises, IsFull, IsMerged, AreFull, IsKept, IsKeptMerged, AreKept, pairs_in}
use Rattle.rate_layers.specs.First.{IsFirst}
use Rattle.rate_layers.specs.Multiplier.{ArePicks, IsMultiplier}

-- ---- full frontiers

-- There is a full frontier after each number of slices.
abbrev pub FullExists : Type 0
FullExists = (t : Table) (k : ℕ) → (layer : List Pair) × IsFull t k layer

-- It is unique.
abbrev pub FullIsOne : Type 0
FullIsOne = (t : Table) (k : ℕ) (first second : List Pair) → IsFull t k first → IsFull t k second → first ≡ second

-- The next full frontier has the undominated pairs of the full frontier joined with the entries of the slice, of
-- those that can still fit.
abbrev pub FullIsMerged : Type 0
FullIsMerged = (t : Table) (k : ℕ) (layer next : List Pair) → k < length t.slices → IsFull t k layer
    → IsMerged t (drop (suc k) t.slices) (slice_index_or t.slices k []) layer next → IsFull t (suc k) next

-- The last pair of the last full frontier is that of the best choice: the first choice with this pair is best.
abbrev pub BestOfFull : Type 0
BestOfFull = (t : Table) (layer front : List Pair) (p : Pair) (c : List Entry) → IsFull t (length t.slices) layer
    → layer ≡ front ++ p ∷ [] → IsFirst t.slices p c → IsBest t c

-- If the last full frontier is empty, no choice fits.
abbrev pub NoneOfFull : Type 0
NoneOfFull = (t : Table) → IsFull t (length t.slices) [] → HasNoFit t

-- A full frontier has at most one pair more than the budget has bytes.
abbrev pub FullIsNarrow : Type 0
FullIsNarrow = (t : Table) (k : ℕ) (layer : List Pair) → IsFull t k layer → length layer ≤ t.budget + 1

-- The record of the best choice with all full frontiers is good, whatever multiplier is printed.
abbrev pub FullIsGood : Type 0
FullIsGood = (t : Table) (b : List Entry) (m : ℕ) (layers : List (List Pair)) → IsTable t → IsBest t b → AreFull t layers
    → IsGoodFit t (record_of b m layers)

-- ---- kept frontiers

-- There are kept frontiers, for each multiplier and error.
abbrev pub KeptExist : Type 0
KeptExist = (t : Table) (m u : ℕ) → (layers : List (List Pair)) × AreKept t m u layers

-- They are unique.
abbrev pub KeptAreOne : Type 0
KeptAreOne = (t : Table) (m u : ℕ) (first second : List (List Pair)) → AreKept t m u first → AreKept t m u second → first ≡ second

-- The next kept frontier has the undominated pairs of the kept frontier joined with the entries of the slice, of
-- those that can still fit and stay within the bound.
abbrev pub KeptIsMerged : Type 0
KeptIsMerged = (t : Table) (m u k : ℕ) (layer next : List Pair) → k < length t.slices → IsKept t m u k layer
    → IsKeptMerged t m u (drop (suc k) t.slices) (slice_index_or t.slices k []) layer next → IsKept t m u (suc k) next

-- The last pair of the last kept frontier is that of the best choice, if some fitting choice has no more error than
-- u.
abbrev pub BestOfKept : Type 0
BestOfKept = (t : Table) (m u : ℕ) (some : List Entry) (layer front : List Pair) (p : Pair) (c : List Entry)
    → IsChoice t.slices some → Fits t some → error_of some ≤ u → IsKept t m u (length t.slices) layer
    → layer ≡ front ++ p ∷ [] → IsFirst t.slices p c → IsBest t c

-- If each pair of the last kept frontier, which may be empty, has more error than u, so has each fitting choice.
abbrev pub NoneOfKept : Type 0
NoneOfKept = (t : Table) (m u : ℕ) (layer : List Pair) (c : List Entry) → IsKept t m u (length t.slices) layer
    → ((p : Pair) → Contains layer p → u < p.error) → IsChoice t.slices c → Fits t c → u < error_of c

-- The kept frontiers have at most one pair more than the budget has bytes, for each frontier.
abbrev pub KeptAreNarrow : Type 0
KeptAreNarrow = (t : Table) (m u : ℕ) (layers : List (List Pair)) → AreKept t m u layers → pairs_in layers ≤ (t.budget + 1) * (length t.slices + 1)

-- A smaller error keeps no more pairs.
abbrev pub KeptAreFewer : Type 0
KeptAreFewer = (t : Table) (m u v : ℕ) (kept less : List (List Pair)) → v ≤ u → AreKept t m u kept → AreKept t m v less → pairs_in less ≤ pairs_in kept

-- The pairs that a smaller error keeps are those within its own bound, of the pairs that a greater one keeps.
abbrev pub KeptIsFilter : Type 0
KeptIsFilter = (t : Table) (m u v k : ℕ) (kept less : List Pair) → v ≤ u → IsKept t m u k kept → Rises less
    → ((p : Pair) → Contains less p ↔ (Contains kept p × StaysWithin t m v (drop k t.slices) p)) → IsKept t m v k less

-- The record of the best choice with the frontiers kept by its own error is good, whatever the multiplier.
abbrev pub KeptIsGood : Type 0
KeptIsGood = (t : Table) (b : List Entry) (m : ℕ) (layers : List (List Pair)) → IsTable t → IsBest t b
    → AreKept t m (error_of b) layers → IsGoodFit t (record_of b m layers)

-- ---- the multiplier

-- If a choice fits, the multiplier exists and is at most 2 ^ 43.
abbrev pub MultiplierExists : Type 0
MultiplierExists = (t : Table) (c : List Entry) → IsTable t → IsChoice t.slices c → Fits t c → (m : ℕ) × IsMultiplier t m × (m ≤ 2 ^ 43)

-- It is unique.
abbrev pub MultiplierIsOne : Type 0
MultiplierIsOne = (t : Table) (first second : ℕ) → IsMultiplier t first → IsMultiplier t second → first ≡ second

-- The size of the Lagrangian minimisers never rises with the multiplier.
abbrev pub PicksFall : Type 0
PicksFall = (slices : List (List Entry)) (m n : ℕ) (c d : List Entry) → m ≤ n → ArePicks m slices c → ArePicks n slices d
    → size_of d ≤ size_of c
