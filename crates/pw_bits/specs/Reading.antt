-- What reading bits takes from the bits that a reader keeps and from those of its source (our own).
use Rattle.std.specs.Prelude.{◌≡◌, ℕ, ◌+◌, ◌≤◌, Bool, true, false, List, [], ◌∷◌, ◌++◌, Option, Result, Ok, Err, IsSome}
use Rattle.pw_outside.specs.Reading.{bytes_of}
use Rattle.pw_bits.specs.Bits.{bits, zeros}
use Rattle.pw_bits.specs.declared.reader.BitFault.{BitFault}
use Rattle.pw_bits.specs.declared.reader.BitFault.TheVariants as faults
use Rattle.pw_bits.specs.declared.reader.ZeroRun.{ZeroRun}
use Rattle.pw_bits.specs.declared.reader.ZeroRun.TheVariants as runs

-- the bits that a reader has not given yet: those that it keeps, and then those of its source
abbrev pub unread : List Bool → Option (List ℕ) → List Bool
unread kept left = kept ++ bits (bytes_of left)

-- If the source's bytes are visible, these bits came first and were taken.
pub record Takes (kept_old : List Bool) (left_old : Option (List ℕ)) (kept_new : List Bool) (left_new : Option (List ℕ)) (l : List Bool) : Type 0 where
  pub bits : IsSome left_old → unread kept_old left_old ≡ l ++ unread kept_new left_new

-- whether the source failed
abbrev pub is_failed : {T : Type 0} → Result T BitFault → Bool
is_failed (Ok _) = false
is_failed (Err faults.End) = false
is_failed (Err faults.Failed) = true

-- If the source's bytes were visible before, no bits are left.
abbrev pub Ends : Option (List ℕ) → List Bool → Option (List ℕ) → Type 0
Ends left_old kept_new left_new = IsSome left_old → unread kept_new left_new ≡ []

-- Zeros and the 1 after them were taken; or the bits ended after zeros; or the next `most + 1` bits are zeros, and
-- were taken.
abbrev pub TakesZeros : {E : Type 0} → Result ZeroRun E → ℕ → List Bool → Option (List ℕ) → List Bool → Option (List ℕ) → Type 0
TakesZeros (Ok (runs.One k)) most kept left kept' left' = (k ≤ most) × Takes kept left kept' left' (zeros k ++ true ∷ [])
TakesZeros (Ok (runs.End k)) most kept left kept' left' = (k ≤ most) × Takes kept left kept' left' (zeros k) × Ends left kept' left'
TakesZeros (Ok runs.Many) most kept left kept' left' = Takes kept left kept' left' (zeros (most + 1))
TakesZeros (Err e) most kept left kept' left' = Unit {0}

-- All bits that were left were zeros, and none is left; or zeros and the 1 after them were taken.
abbrev pub TakesRest : {E : Type 0} → Result Bool E → List Bool → Option (List ℕ) → List Bool → Option (List ℕ) → Type 0
TakesRest (Ok true) kept left kept' left' = (k : ℕ) × Takes kept left kept' left' (zeros k) × Ends left kept' left'
TakesRest (Ok false) kept left kept' left' = (k : ℕ) × Takes kept left kept' left' (zeros k ++ true ∷ [])
TakesRest (Err e) kept left kept' left' = Unit {0}
