-- The records of a proof: what is printed for a group's table, when it is good, and which clause fails first. Our
-- own definitions.
use Rattle.std.specs.Prelude.{◌≡◌, ℕ, ◌+◌, ◌*◌, ◌≤◌, ◌⊎◌, List, [], ◌∷◌, length, map}
use Rattle.std.specs.List.{All}
use Rattle.rate_table.specs.declared.entry.Entry.{Entry}
use Rattle.rate_table.specs.Table.{Table, HasNoFit}
use Rattle.rate_table.specs.Records.{Printed, IsGoodFit, TellsLeast, SaysNone, HasCounts, HasEntries, SumsAreRight, BeginsEmpty, InOrder, AllStep, EndsAbove}
use Rattle.rate_cert.specs.declared.settings.Settings.{Settings}
use Rattle.rate_cert.specs.declared.proof.Verdict.{Verdict}
use Rattle.rate_cert.specs.declared.proof.Verdict.TheVariants as verdicts
use Rattle.rate_cert.specs.Settings.{frame_slices}

-- the verdict on a table: a choice fits, with its sums, Lagrangian multiplier and layers; or none does, with the
-- least number of bytes
pub data Said : Type 0 where
  fits : Printed → Said
  none : ℕ → Said

-- a record: the table of a group, and the verdict on it
pub record Record : Type 0 where
  pub table : Table
  pub said : Said

-- a verdict, as lists
abbrev pub said_by : Verdict → Said
said_by (verdicts.Fits choice size error multiplier layers) =
    fits (record { choice = choice.items; size = size; error = error; multiplier = multiplier; layers = map (λ l. l.items) layers.items })
said_by (verdicts.None least) = none least

-- ---- good records

-- The indices of a slice are all from lo to hi.
abbrev pub HasIndices : ℕ → ℕ → List Entry → Type 0
HasIndices lo hi [] = lo ≡ hi + 1
HasIndices lo hi (e ∷ es) = (e.index ≡ lo) × HasIndices (lo + 1) hi es

-- a table of r frames with these settings, for an r from 1 to the size of a group
pub record IsTableOf (s : Settings) (t : Table) : Type 0 where
  pub frames : ℕ
  pub some : 1 ≤ frames
  pub few : frames ≤ s.group
  pub slices : length t.slices ≡ frames * frame_slices s
  pub budget : t.budget ≡ frames * s.budget
  pub indices : All (HasIndices s.lo s.hi) t.slices

-- for a fitting choice: one index for each slice, and one layer more than slices
abbrev pub HasCountsOf : Table → Said → Type 0
HasCountsOf t (fits r) = HasCounts t r
HasCountsOf t (none least) = Unit {0}

abbrev pub IsGoodVerdict : Table → Said → Type 0
IsGoodVerdict t (fits r) = IsGoodFit t r
IsGoodVerdict t (none least) = SaysNone t least

-- A good record for these settings. (The two counts of a fitting verdict are a part of `IsGoodFit`.)
pub record IsGood (s : Settings) (r : Record) : Type 0 where
  pub table : IsTableOf s r.table
  pub verdict : IsGoodVerdict r.table r.said

-- ---- which clause fails first

-- If P fails, n is k; if P holds, the clauses after it determine n.
abbrev pub Asks : ℕ → Type 0 → (ℕ → Type 0) → ℕ → Type 0
Asks k P behind n = ((n ≡ k) × (P → ⊥)) ⊎ (P × behind n)

abbrev pub AsksNothing : ℕ → Type 0
AsksNothing n = ⊥

-- the clauses on the layers
pub record AreGood (t : Table) (r : Printed) : Type 0 where
  pub first : BeginsEmpty r
  pub order : InOrder r
  pub steps : AllStep t r t.slices r.layers
  pub last : EndsAbove t r

abbrev pub FailsLayers : Table → Printed → ℕ → Type 0
FailsLayers t r = Asks 5 (BeginsEmpty r) (Asks 6 (InOrder r) (Asks 7 (AllStep t r t.slices r.layers) (Asks 8 (EndsAbove t r) AsksNothing)))

-- the clauses on a fitting verdict with the right counts
abbrev pub FailsFit : Table → Printed → ℕ → Type 0
FailsFit t r = Asks 3 (HasEntries t r) (Asks 4 (SumsAreRight t r) (FailsLayers t r))

abbrev pub FailsVerdict : Table → Said → ℕ → Type 0
FailsVerdict t (fits r) n = FailsFit t r n
FailsVerdict t (none least) n = Asks 2 (SaysNone t least) AsksNothing n

-- n is the first clause that fails
abbrev pub Fails : Settings → Record → ℕ → Type 0
Fails s r n = Asks 1 (IsTableOf s r.table × HasCountsOf r.table r.said) (FailsVerdict r.table r.said) n

-- ---- what a good record proves

-- the printed choice fits and has the printed sums, and no fitting choice has less error; or no choice fits
abbrev pub IsTrueOf : Table → Said → Type 0
IsTrueOf t (fits r) = TellsLeast t r
IsTrueOf t (none least) = HasNoFit t
