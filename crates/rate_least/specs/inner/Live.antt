-- The steps of finding the first choice that has a pair.
use Rattle.std.specs.Prelude.{◌≡◌, ℕ, suc, ◌+◌, ◌<◌, ◌≤◌, ◌^◌, ◌↔◌, ◌⊎◌, Bool, true, false, cond, List, [], ◌∷◌, length, drop, slice_index_or}
use Rattle.std.specs.List.{Contains}
use Rattle.rate_table.specs.declared.entry.Entry.{Entry}
use Rattle.rate_least.specs.declared.outcome.WidePair.{WidePair}
use Rattle.rate_table.specs.Table.{IsChoice, size_of, error_of}
use Rattle.rate_least.specs.Pairs.{joined}
use Rattle.rate_least.specs.inner.First.{Leads}
use Rattle.rate_least.specs.Layers.{Rises, pairs_in}
use Rattle.rate_least.specs.Held.{AreHeld}

-- slices, and a cap on the error
pub record Capped : Type 0 where
  pub slices : List (List Entry)
  pub cap : ℕ

-- The pair is at this position.
abbrev pub StandsAt : List WidePair → WidePair → ℕ → Type 0
StandsAt pairs p at = (at < length pairs) × (slice_index_or pairs at p ≡ p)

-- An entry of the slice leads from p to a pair of `next`.
abbrev pub LeadsOn : List Entry → List WidePair → WidePair → Type 0
LeadsOn slice next p = (x : Entry) × Contains slice x × Contains next (joined p x)

-- the first entry of the slice that leads from p to a pair of `next`
pub record IsFirstOn (slice : List Entry) (next : List WidePair) (p : WidePair) (x : Entry) : Type 0 where
  pub in_slice : Contains slice x
  pub leads : Contains next (joined p x)
  pub first : (y : Entry) → Contains slice y → Contains next (joined p y) → x.index ≤ y.index

-- by rising size, the pairs of a layer from which an entry of the slice leads to a pair of `next`
pub record LeadOn (slice : List Entry) (next layer live : List WidePair) : Type 0 where
  pub rises : Rises live
  pub some : (p : WidePair) → Contains live p → Contains layer p × LeadsOn slice next p
  pub all : (p : WidePair) → Contains layer p → LeadsOn slice next p → Contains live p

-- by rising size, the pairs of a layer from which a choice of the later slices leads to the goal
pub record LeadTo (later : List (List Entry)) (goal : WidePair) (layer live : List WidePair) : Type 0 where
  pub rises : Rises live
  pub some : (p : WidePair) → Contains live p → Contains layer p × Leads later p goal
  pub all : (p : WidePair) → Contains layer p → Leads later p goal → Contains live p

-- The frontiers held under a size, at most 2^25 pairs; a choice that meets the cap has no more size. The goal is
-- the first pair.
pub record AreFound (t : Capped) (m u : ℕ) (goal : WidePair) (layers : List (List WidePair)) : Type 0 where
  pub kept : AreHeld t.slices t.cap m u layers
  pub few : pairs_in layers ≤ 2 ^ 25
  pub some : (c : List Entry) × IsChoice t.slices c × (error_of c ≤ t.cap) × (size_of c ≤ u)
  pub first : (back : List WidePair) × (slice_index_or layers (length t.slices) [] ≡ goal ∷ back)

-- ---- marks

-- the marked pairs of a layer
abbrev pub marked : List Bool → List WidePair → List WidePair
marked [] layer = []
marked (m ∷ marks) [] = []
marked (m ∷ marks) (p ∷ layer) = cond m (p ∷ marked marks layer) (marked marks layer)

-- The entry leads to q from the pair at this position.
abbrev pub LeadsAt : List WidePair → Entry → WidePair → ℕ → Type 0
LeadsAt layer x q at = (at < length layer) × ((d : WidePair) → joined (slice_index_or layer at d) x ≡ q)

-- The marks that are set in addition are those of the pairs from which an entry of the slice leads to q.
pub record MarkedMore (slice : List Entry) (q : WidePair) (layer : List WidePair) (old new : List Bool) : Type 0 where
  pub each : (i : ℕ) (d : WidePair) → i < length layer
      → (slice_index_or new i false ≡ true) ↔ ((slice_index_or old i false ≡ true) ⊎ ((x : Entry) × Contains slice x × (joined (slice_index_or layer i d) x ≡ q)))

-- a mark for each pair of a layer, set if an entry of the slice leads from it to a marked pair of the next layer
pub record MarkedOn (slice : List Entry) (next : List WidePair) (next_marks : List Bool) (layer : List WidePair) (marks : List Bool) : Type 0 where
  pub count : length marks ≡ length layer
  pub lead : LeadOn slice (marked next_marks next) layer (marked marks layer)

-- a mark for each pair of a layer, set if a choice of the later slices leads from it to the goal
pub record MarkedTo (later : List (List Entry)) (goal : WidePair) (layer : List WidePair) (marks : List Bool) : Type 0 where
  pub count : length marks ≡ length layer
  pub lead : LeadTo later goal layer (marked marks layer)

-- the marks of found frontiers, the last one's first
pub record AreMarked (slices : List (List Entry)) (goal : WidePair) (layers : List (List WidePair)) (marks : List (List Bool)) : Type 0 where
  pub cap : ℕ
  pub multiplier : ℕ
  pub size : ℕ
  pub found : AreFound (record { slices = slices; cap = cap }) multiplier size goal layers
  pub count : length marks ≡ suc (length slices)
  pub each : (i k : ℕ) → i + k ≡ length slices → MarkedTo (drop k slices) goal (slice_index_or layers k []) (slice_index_or marks i [])
