-- The steps of finding the first choice that has a pair.
use Rattle.std.specs.Prelude.{◌≡◌, ℕ, suc, ◌+◌, ◌<◌, ◌≤◌, ◌^◌, ◌↔◌, ◌⊎◌, Bool, true, false, cond, List, [], ◌∷◌, ◌++◌, length, drop, slice_index_or}
use Rattle.std.specs.List.{Contains}
use Rattle.rate_table.specs.declared.entry.Entry.{Entry}
use Rattle.rate_table.specs.declared.entry.Pair.{Pair}
use Rattle.rate_table.specs.Table.{Table, IsChoice, Fits, error_of}
use Rattle.rate_table.specs.Pairs.{joined}
use Rattle.rate_layers.specs.First.{Leads}
use Rattle.rate_layers.specs.Layers.{Rises, AreKept, pairs_in}

-- The pair is at this position.
abbrev pub StandsAt : List Pair → Pair → ℕ → Type 0
StandsAt pairs p at = (at < length pairs) × (slice_index_or pairs at p ≡ p)

-- An entry of the slice leads from p to a pair of `next`.
abbrev pub LeadsOn : List Entry → List Pair → Pair → Type 0
LeadsOn slice next p = (x : Entry) × Contains slice x × Contains next (joined p x)

-- the first entry of the slice that leads from p to a pair of `next`
pub record IsFirstOn (slice : List Entry) (next : List Pair) (p : Pair) (x : Entry) : Type 0 where
  pub in_slice : Contains slice x
  pub leads : Contains next (joined p x)
  pub first : (y : Entry) → Contains slice y → Contains next (joined p y) → x.index ≤ y.index

-- by rising size, the pairs of a layer from which an entry of the slice leads to a pair of `next`
pub record LeadOn (slice : List Entry) (next layer live : List Pair) : Type 0 where
  pub rises : Rises live
  pub some : (p : Pair) → Contains live p → Contains layer p × LeadsOn slice next p
  pub all : (p : Pair) → Contains layer p → LeadsOn slice next p → Contains live p

-- by rising size, the pairs of a layer from which a choice of the later slices leads to the goal
pub record LeadTo (later : List (List Entry)) (goal : Pair) (layer live : List Pair) : Type 0 where
  pub rises : Rises live
  pub some : (p : Pair) → Contains live p → Contains layer p × Leads later p goal
  pub all : (p : Pair) → Contains layer p → Leads later p goal → Contains live p

-- The frontiers that an error keeps, at most 2^25 pairs; a fitting choice has no more error. The goal is the last
-- pair.
pub record AreFound (t : Table) (m u : ℕ) (goal : Pair) (layers : List (List Pair)) : Type 0 where
  pub kept : AreKept t m u layers
  pub few : pairs_in layers ≤ 2 ^ 25
  pub some : (c : List Entry) × IsChoice t.slices c × Fits t c × (error_of c ≤ u)
  pub last : (front : List Pair) × (slice_index_or layers (length t.slices) [] ≡ front ++ goal ∷ [])

-- ---- marks

-- the marked pairs of a layer
abbrev pub marked : List Bool → List Pair → List Pair
marked [] layer = []
marked (m ∷ marks) [] = []
marked (m ∷ marks) (p ∷ layer) = cond m (p ∷ marked marks layer) (marked marks layer)

-- The entry leads to q from the pair at this position.
abbrev pub LeadsAt : List Pair → Entry → Pair → ℕ → Type 0
LeadsAt layer x q at = (at < length layer) × ((d : Pair) → joined (slice_index_or layer at d) x ≡ q)

-- The marks that are set in addition are those of the pairs from which an entry of the slice leads to q.
pub record MarkedMore (slice : List Entry) (q : Pair) (layer : List Pair) (old new : List Bool) : Type 0 where
  pub each : (i : ℕ) (d : Pair) → i < length layer
      → (slice_index_or new i false ≡ true) ↔ ((slice_index_or old i false ≡ true) ⊎ ((x : Entry) × Contains slice x × (joined (slice_index_or layer i d) x ≡ q)))

-- a mark for each pair of a layer, set if an entry of the slice leads from it to a marked pair of the next layer
pub record MarkedOn (slice : List Entry) (next : List Pair) (next_marks : List Bool) (layer : List Pair) (marks : List Bool) : Type 0 where
  pub count : length marks ≡ length layer
  pub lead : LeadOn slice (marked next_marks next) layer (marked marks layer)

-- a mark for each pair of a layer, set if a choice of the later slices leads from it to the goal
pub record MarkedTo (later : List (List Entry)) (goal : Pair) (layer : List Pair) (marks : List Bool) : Type 0 where
  pub count : length marks ≡ length layer
  pub lead : LeadTo later goal layer (marked marks layer)

-- the marks of found frontiers, the last one's first
pub record AreMarked (t : Table) (goal : Pair) (layers : List (List Pair)) (marks : List (List Bool)) : Type 0 where
  pub multiplier : ℕ
  pub error : ℕ
  pub found : AreFound t multiplier error goal layers
  pub count : length marks ≡ suc (length t.slices)
  pub each : (i k : ℕ) → i + k ≡ length t.slices → MarkedTo (drop k t.slices) goal (slice_index_or layers k []) (slice_index_or marks i [])
