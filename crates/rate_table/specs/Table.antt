-- Tables of entries, choices of one entry a slice, and the best choice. Our own definitions.
use Rattle.std.specs.Prelude.{◌≡◌, ℕ, ◌+◌, ◌<◌, ◌≤◌, ◌^◌, ◌⊎◌, min, List, [], ◌∷◌, length, map}
use Rattle.std.specs.List.{sum_by, flat_map, All, AllZip, Contains}
use Rattle.rate_table.specs.declared.entry.Entry.{Entry}
use Rattle.rate_table.specs.declared.entry.Pair.{Pair}
use Rattle.rate_table.specs.declared.table.TheConstants.{MAX_TABLE_SLICES}

-- ---- tables

-- an entry within the limits
pub record IsEntry (e : Entry) : Type 0 where
  pub index_from : 1 ≤ e.index
  pub index_to : e.index ≤ 224
  pub size : e.size < 2 ^ 16
  pub error : e.error < 2 ^ 43

-- indices rise
abbrev pub IndicesRise : List Entry → Type 0
IndicesRise [] = Unit {0}
IndicesRise (x ∷ []) = Unit {0}
IndicesRise (x ∷ y ∷ xs) = (x.index < y.index) × IndicesRise (y ∷ xs)

-- the entries of one slice: at least one, their indices rising, each within the limits
pub record IsSliceTable (slice : List Entry) : Type 0 where
  pub some : 0 < length slice
  pub rises : IndicesRise slice
  pub limits : All IsEntry slice

-- a budget in bytes, the fixed bytes, and the entries of each slice
pub record Table : Type 0 where
  pub budget : ℕ
  pub fixed : ℕ
  pub slices : List (List Entry)

-- a table within the limits
pub record IsTable (t : Table) : Type 0 where
  pub some_budget : 1 ≤ t.budget
  pub budget_limit : t.budget < 2 ^ 31
  pub fixed_limit : t.fixed < 2 ^ 31
  pub some : 1 ≤ length t.slices
  pub few : length t.slices ≤ MAX_TABLE_SLICES
  pub each : All IsSliceTable t.slices

-- the joined table of several frames: budgets and fixed bytes are added, slices are concatenated
abbrev pub group_table : List Table → Table
group_table tables = record { budget = sum_by (λ t. t.budget) tables; fixed = sum_by (λ t. t.fixed) tables; slices = flat_map (λ t. t.slices) tables }

-- ---- choices

-- one entry of each slice
abbrev pub IsChoice : List (List Entry) → List Entry → Type 0
IsChoice slices choice = AllZip Contains slices choice

abbrev pub size_of : List Entry → ℕ
size_of choice = sum_by (λ x. x.size) choice

abbrev pub error_of : List Entry → ℕ
error_of choice = sum_by (λ x. x.error) choice

abbrev pub pair_of : List Entry → Pair
pair_of choice = record { size = size_of choice; error = error_of choice }

abbrev pub indices : List Entry → List ℕ
indices choice = map (λ x. x.index) choice

-- a choice of these slices has these indices, this size and this error
abbrev pub HasSums : List (List Entry) → List ℕ → ℕ → ℕ → Type 0
HasSums slices chosen size error = (choice : List Entry) × IsChoice slices choice × (indices choice ≡ chosen) × (size ≡ size_of choice) × (error ≡ error_of choice)

-- no choice of these slices has these indices
abbrev pub HasNoChoice : List (List Entry) → List ℕ → Type 0
HasNoChoice slices chosen = (choice : List Entry) → IsChoice slices choice → indices choice ≡ chosen → ⊥

-- the fixed bytes and the choice are within the budget
abbrev pub Fits : Table → List Entry → Type 0
Fits t choice = t.fixed + size_of choice ≤ t.budget

abbrev pub HasNoFit : Table → Type 0
HasNoFit t = (choice : List Entry) → IsChoice t.slices choice → Fits t choice → ⊥

-- xs is not after ys in lexicographic order (a proper prefix is first)
abbrev pub ComesFirst : List ℕ → List ℕ → Type 0
ComesFirst [] ys = Unit {0}
ComesFirst (x ∷ xs) [] = ⊥
ComesFirst (x ∷ xs) (y ∷ ys) = (x < y) ⊎ ((x ≡ y) × ComesFirst xs ys)

-- the fitting choice of least error, then of least size, then the first in lexicographic order of its indices
pub record IsBest (t : Table) (best : List Entry) : Type 0 where
  pub choice : IsChoice t.slices best
  pub fits : Fits t best
  pub error : (other : List Entry) → IsChoice t.slices other → Fits t other → error_of best ≤ error_of other
  pub size : (other : List Entry) → IsChoice t.slices other → Fits t other → error_of other ≡ error_of best → size_of best ≤ size_of other
  pub first : (other : List Entry) → IsChoice t.slices other → pair_of other ≡ pair_of best → ComesFirst (indices best) (indices other)

-- the indices, the size and the error of the table's best choice
pub record IsBestWith (t : Table) (chosen : List ℕ) (bytes loss : ℕ) : Type 0 where
  pub best : List Entry
  pub is_best : IsBest t best
  pub choice : chosen ≡ indices best
  pub size : bytes ≡ size_of best
  pub error : loss ≡ error_of best

-- ---- least sizes

-- the least value of f at these entries
abbrev pub least : (Entry → ℕ) → List Entry → ℕ
least f [] = 0
least f (x ∷ []) = f x
least f (x ∷ y ∷ xs) = min (f x) (least f (y ∷ xs))

-- the sum of the least sizes of these slices
abbrev pub least_sizes : List (List Entry) → ℕ
least_sizes slices = sum_by (least (λ x. x.size)) slices

-- the fixed bytes plus each slice's least size
abbrev pub least_bytes : Table → ℕ
least_bytes t = t.fixed + least_sizes t.slices
