-- What a checker requires of the printed record of a table. It considers no choice of the table but the printed
-- one.
use Rattle.std.specs.Prelude.{◌≡◌, ℕ, suc, ◌<◌, ◌≤◌, ◌⊎◌, List, [], ◌∷◌, length, slice_index_or}
use Rattle.std.specs.List.{All, Contains}
use Rattle.rate_table.specs.declared.entry.Entry.{Entry}
use Rattle.rate_table.specs.declared.entry.Pair.{Pair}
use Rattle.rate_table.specs.Table.{Table, IsChoice, Fits, size_of, error_of, indices, least_bytes}
use Rattle.rate_table.specs.Pairs.{Dominates, joined, RisesAndFalls, CanFit, StaysWithin}

-- the record of a choice: its indices, its size without the fixed bytes, its error, a Lagrangian multiplier, and
-- Pareto frontiers (layers of pairs)
pub record Printed : Type 0 where
  pub choice : List ℕ
  pub size : ℕ
  pub error : ℕ
  pub multiplier : ℕ
  pub layers : List (List Pair)

-- one index for each slice, and one layer more
abbrev pub HasCounts : Table → Printed → Type 0
HasCounts t r = (length r.choice ≡ length t.slices) × (length r.layers ≡ suc (length t.slices))

-- ---- no choice fits

-- The fixed bytes plus the least sizes exceed the budget, and are what is printed.
abbrev pub SaysNone : Table → ℕ → Type 0
SaysNone t printed = (t.budget < least_bytes t) × (printed ≡ least_bytes t)

-- ---- a choice fits

-- Each printed index has an entry.
abbrev pub HasEntries : Table → Printed → Type 0
HasEntries t r = (choice : List Entry) × IsChoice t.slices choice × (indices choice ≡ r.choice)

-- The choice with these indices has the printed size and error, and fits.
abbrev pub SumsAreRight : Table → Printed → Type 0
SumsAreRight t r = (choice : List Entry) → IsChoice t.slices choice → indices choice ≡ r.choice → (size_of choice ≡ r.size) × (error_of choice ≡ r.error) × Fits t choice

-- The first layer is the empty pair alone.
abbrev pub BeginsEmpty : Printed → Type 0
BeginsEmpty r = slice_index_or r.layers 0 [] ≡ record { size = 0; error = 0 } ∷ []

-- In each layer sizes rise and errors fall.
abbrev pub InOrder : Printed → Type 0
InOrder r = All RisesAndFalls r.layers

-- With the slices `later` still to come, a pair is dominated by one of the next layer, or cannot fit, or is pruned
-- by the bound.
abbrev pub IsCovered : Table → Printed → List (List Entry) → List Pair → Pair → Type 0
IsCovered t r later next p =
    ((q : Pair) × Contains next q × Dominates q p) ⊎ (CanFit t later p → ⊥) ⊎ (StaysWithin t r.multiplier r.error later p → ⊥)

-- Each pair of a layer, joined with each entry of its slice, is covered.
abbrev pub Steps : Table → Printed → List Entry → List (List Entry) → List Pair → List Pair → Type 0
Steps t r slice later layer next = All (λ p. All (λ x. IsCovered t r later next (joined p x)) slice) layer

-- from layer to layer, over the remaining slices
abbrev pub AllStep : Table → Printed → List (List Entry) → List (List Pair) → Type 0
AllStep t r [] layers = Unit {0}
AllStep t r (slice ∷ later) [] = Unit {0}
AllStep t r (slice ∷ later) (layer ∷ []) = Unit {0}
AllStep t r (slice ∷ later) (layer ∷ next ∷ layers) = Steps t r slice later layer next × AllStep t r later (next ∷ layers)

-- No pair of the last layer has less error than the printed one.
abbrev pub EndsAbove : Table → Printed → Type 0
EndsAbove t r = All (λ p. r.error ≤ p.error) (slice_index_or r.layers (length t.slices) [])

-- a good record of a table, with the clauses in the order in which they are checked
pub record IsGoodFit (t : Table) (r : Printed) : Type 0 where
  pub counts : HasCounts t r
  pub entries : HasEntries t r
  pub sums : SumsAreRight t r
  pub first : BeginsEmpty r
  pub order : InOrder r
  pub steps : AllStep t r t.slices r.layers
  pub last : EndsAbove t r

-- ---- what a good record proves

-- The printed choice is a fitting choice with the printed sums, and no fitting choice has less error.
pub record TellsLeast (t : Table) (r : Printed) : Type 0 where
  pub choice : List Entry
  pub printed : indices choice ≡ r.choice
  pub is_choice : IsChoice t.slices choice
  pub fits : Fits t choice
  pub size : size_of choice ≡ r.size
  pub error : error_of choice ≡ r.error
  pub least : (other : List Entry) → IsChoice t.slices other → Fits t other → r.error ≤ error_of other

-- the record of a choice
abbrev pub record_of : List Entry → ℕ → List (List Pair) → Printed
record_of c m layers = record { choice = indices c; size = size_of c; error = error_of c; multiplier = m; layers = layers }
