-- Choices of the tables of a frame's slices, for frames that are written straight from their coefficients (our own).
use Rattle.std.specs.Prelude.{◌≡◌, ℕ, ◌-◌, ◌^◌, ◌<◌, ◌≤◌, List, [], ◌∷◌, length, map, get_or}
use Rattle.std.specs.List.{All}
use Rattle.pw_planes.specs.declared.kinds.AlphaKind.{AlphaKind}
use Rattle.pw_planes.specs.declared.kinds.Interlace.{Interlace}
use Rattle.pr_quant.specs.declared.weights.Weights.{Weights}
use Rattle.rate_table.specs.declared.entry.Entry.{Entry}
use Rattle.rate_table.specs.Table.{IsChoice, size_of, indices}
use Rattle.rate_build.specs.declared.slices.SliceCoefficients.{SliceCoefficients}
use Rattle.rate_build.specs.Coefficients.{FrameCoefficients}
use Rattle.rate_build.specs.Tables.{entries_of}

-- the tables of a frame's slices: the cost of each at each index from `lo` to `hi`
pub record AreTablesOf (c : FrameCoefficients) (w : Weights) (slices : List (List Entry)) : Type 0 where
  pub lo : ℕ
  pub hi : ℕ
  pub least : 1 ≤ lo
  pub most : hi ≤ 224
  pub tables : slices ≡ map (entries_of c.layout.interlace c.alpha w lo hi) c.slices

-- indices of a choice of these slices, with so few bytes that a frame's length is a number of 32 bits
pub record IsPart (slices : List (List Entry)) (choice : List ℕ) : Type 0 where
  pub entries : List Entry
  pub is_choice : IsChoice slices entries
  pub has_indices : indices entries ≡ choice
  pub small : size_of entries < 2 ^ 31

-- ---- slices with their tables, and an index of each

-- an index from `lo` to `hi`
pub record IsFrom (lo : ℕ) (hi : ℕ) (index : ℕ) : Type 0 where
  pub least : lo ≤ index
  pub most : index ≤ hi

-- slices of a frame with their tables, and for each slice an index of its table
pub record AreChosen (mode : Interlace) (alpha : AlphaKind) (w : Weights) (slices : List SliceCoefficients) (tables : List (List Entry)) (choice : List ℕ) : Type 0 where
  pub lo : ℕ
  pub hi : ℕ
  pub tables_are : tables ≡ map (entries_of mode alpha w lo hi) slices
  pub number : length choice ≡ length slices
  pub each : All (IsFrom lo hi) choice

-- the index of a table's first entry
abbrev pub first_index : List Entry → ℕ
first_index [] = 0
first_index (e ∷ entries) = e.index

abbrev pub no_entry : Entry
no_entry = record { index = 0; size = 0; error = 0 }

-- an index of a table that has all indices from its first one on
pub record Reaches (table : List Entry) (index : ℕ) : Type 0 where
  pub from : first_index table ≤ index
  pub to : index - first_index table < length table

-- the size at an index of such a table
abbrev pub size_in : List Entry → ℕ → ℕ
size_in table index = (get_or table (index - first_index table) no_entry).size

-- the size of each of these tables at its own index
abbrev pub sizes_in : List (List Entry) → List ℕ → List ℕ
sizes_in [] choice = []
sizes_in (table ∷ tables) [] = []
sizes_in (table ∷ tables) (index ∷ choice) = size_in table index ∷ sizes_in tables choice
