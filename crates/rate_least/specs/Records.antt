-- What a checker requires of a certificate that no choice of error at most the cap has less size. It considers no
-- choice of the table but the printed one. Our own definitions.
use Rattle.std.specs.Prelude.{◌≡◌, ℕ, suc, ◌<◌, ◌≤◌, ◌^◌, ◌⊎◌, List, [], ◌∷◌, length, map, slice_index_or}
use Rattle.std.specs.List.{All, Contains}
use Rattle.rate_table.specs.declared.entry.Entry.{Entry}
use Rattle.rate_table.specs.Table.{Table, IsChoice, size_of, error_of, indices}
use Rattle.rate_cert.specs.Records.{Asks, AsksNothing}
use Rattle.rate_least.specs.declared.outcome.WidePair.{WidePair}
use Rattle.rate_least.specs.declared.outcome.LeastOutcome.{LeastOutcome}
use Rattle.rate_least.specs.declared.outcome.LeastOutcome.TheVariants as outcomes
use Rattle.rate_least.specs.Pairs.{Dominates, joined, RisesAndFalls, least_error, MeetsCap, StaysWithin}
use Rattle.rate_least.specs.Least.{HasNoneUnder}

-- the record of a choice that meets the cap: its indices, its size, its error, a Lagrangian multiplier, and Pareto
-- frontiers (layers of pairs)
pub record Printed : Type 0 where
  pub choice : List ℕ
  pub size : ℕ
  pub error : ℕ
  pub multiplier : ℕ
  pub layers : List (List WidePair)

-- the outcome for a table and a cap: a choice meets it; or none does, with the least error of any choice
pub data Said : Type 0 where
  fits : Printed → Said
  none : ℕ → Said

-- an outcome, as lists
abbrev pub said_by : LeastOutcome → Said
said_by (outcomes.Fits choice size error layers multiplier) =
    fits (record { choice = choice.items; size = size; error = error; multiplier = multiplier; layers = map (λ l. l.items) layers.items })
said_by (outcomes.None least_error) = none least_error

-- a certificate: a table, a cap, and the outcome for them
pub record Certificate : Type 0 where
  pub table : Table
  pub cap : ℕ
  pub said : Said

-- ---- a choice meets the cap

-- one index for each slice, and one layer more
abbrev pub HasCounts : List (List Entry) → Printed → Type 0
HasCounts slices r = (length r.choice ≡ length slices) × (length r.layers ≡ suc (length slices))

-- Each printed index has an entry.
abbrev pub HasEntries : List (List Entry) → Printed → Type 0
HasEntries slices r = (choice : List Entry) × IsChoice slices choice × (indices choice ≡ r.choice)

-- The choice with these indices has the printed size and error, and the error is at most the cap.
abbrev pub SumsAreRight : List (List Entry) → ℕ → Printed → Type 0
SumsAreRight slices cap r = (choice : List Entry) → IsChoice slices choice → indices choice ≡ r.choice → (size_of choice ≡ r.size) × (error_of choice ≡ r.error) × (error_of choice ≤ cap)

-- The first layer is the empty pair alone.
abbrev pub BeginsEmpty : Printed → Type 0
BeginsEmpty r = slice_index_or r.layers 0 [] ≡ record { size = 0; error = 0 } ∷ []

-- In each layer sizes rise and errors fall.
abbrev pub InOrder : Printed → Type 0
InOrder r = All RisesAndFalls r.layers

-- With the slices `later` still to come, a pair is dominated by one of the next layer, or cannot meet the cap, or
-- is pruned by the bound.
abbrev pub IsCovered : ℕ → Printed → List (List Entry) → List WidePair → WidePair → Type 0
IsCovered cap r later next p =
    ((q : WidePair) × Contains next q × Dominates q p) ⊎ (MeetsCap cap later p → ⊥) ⊎ (StaysWithin cap r.multiplier r.size later p → ⊥)

-- Each pair of a layer, joined with each entry of its slice, is covered.
abbrev pub Steps : ℕ → Printed → List Entry → List (List Entry) → List WidePair → List WidePair → Type 0
Steps cap r slice later layer next = All (λ p. All (λ x. IsCovered cap r later next (joined p x)) slice) layer

-- from layer to layer, over the remaining slices
abbrev pub AllStep : ℕ → Printed → List (List Entry) → List (List WidePair) → Type 0
AllStep cap r [] layers = Unit {0}
AllStep cap r (slice ∷ later) [] = Unit {0}
AllStep cap r (slice ∷ later) (layer ∷ []) = Unit {0}
AllStep cap r (slice ∷ later) (layer ∷ next ∷ layers) = Steps cap r slice later layer next × AllStep cap r later (next ∷ layers)

-- No pair of the last layer has less size than the printed one.
abbrev pub EndsAbove : List (List Entry) → Printed → Type 0
EndsAbove slices r = All (λ p. r.size ≤ p.size) (slice_index_or r.layers (length slices) [])

-- the clauses on the layers
pub record AreGood (slices : List (List Entry)) (cap : ℕ) (r : Printed) : Type 0 where
  pub first : BeginsEmpty r
  pub order : InOrder r
  pub steps : AllStep cap r slices r.layers
  pub last : EndsAbove slices r

-- ---- good certificates

-- the clauses on a smallest choice, in the order in which they are checked
pub record IsGoodFit (slices : List (List Entry)) (cap : ℕ) (r : Printed) : Type 0 where
  pub counts : HasCounts slices r
  pub entries : HasEntries slices r
  pub sums : SumsAreRight slices cap r
  pub layers : AreGood slices cap r

-- The printed number is the sum of the slices' least errors and exceeds the cap.
abbrev pub SaysNone : List (List Entry) → ℕ → ℕ → Type 0
SaysNone slices cap printed = (printed ≡ least_error slices) × (cap < printed)

abbrev pub IsGood : List (List Entry) → ℕ → Said → Type 0
IsGood slices cap (fits r) = IsGoodFit slices cap r
IsGood slices cap (none least) = SaysNone slices cap least

-- ---- which clause fails first

abbrev pub FailsLayers : List (List Entry) → ℕ → Printed → ℕ → Type 0
FailsLayers slices cap r = Asks 5 (BeginsEmpty r) (Asks 6 (InOrder r) (Asks 7 (AllStep cap r slices r.layers) (Asks 8 (EndsAbove slices r) AsksNothing)))

-- the clauses on a choice with the right counts
abbrev pub FailsFit : List (List Entry) → ℕ → Printed → ℕ → Type 0
FailsFit slices cap r = Asks 3 (HasEntries slices r) (Asks 4 (SumsAreRight slices cap r) (FailsLayers slices cap r))

-- n is the first clause that fails
abbrev pub Fails : List (List Entry) → ℕ → Said → ℕ → Type 0
Fails slices cap (fits r) n = Asks 1 (HasCounts slices r) (FailsFit slices cap r) n
Fails slices cap (none least) n = Asks 2 (SaysNone slices cap least) AsksNothing n

-- ---- what a good certificate proves

-- The printed choice has the printed sums and meets the cap, and no choice that meets it has less size.
pub record IsLeastSize (slices : List (List Entry)) (cap : ℕ) (r : Printed) : Type 0 where
  pub choice : List Entry
  pub printed : indices choice ≡ r.choice
  pub is_choice : IsChoice slices choice
  pub under : error_of choice ≤ cap
  pub size : size_of choice ≡ r.size
  pub error : error_of choice ≡ r.error
  pub least : (other : List Entry) → IsChoice slices other → error_of other ≤ cap → r.size ≤ size_of other

-- the printed choice is such a choice; or no choice meets the cap
abbrev pub IsTrueOf : List (List Entry) → ℕ → Said → Type 0
IsTrueOf slices cap (fits r) = IsLeastSize slices cap r
IsTrueOf slices cap (none least) = HasNoneUnder slices cap

-- ---- ranges of a certificate's fields

-- the size of a pair is below 2^34
abbrev pub IsNarrow : WidePair → Type 0
IsNarrow p = p.size < 2 ^ 34

-- The printed size and those of all pairs are below 2^34.
abbrev pub AreNarrow : Said → Type 0
AreNarrow (fits r) = (r.size < 2 ^ 34) × All (λ layer. All IsNarrow layer) r.layers
AreNarrow (none least) = Unit {0}
