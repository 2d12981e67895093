-- The alpha values of a slice, coded by differences and runs, as in SMPTE RDD 36, scanned alpha. A value has
-- n bits, 8 or 16.
use Rattle.std.specs.Prelude.{◌≡◌, ℕ, suc, ◌+◌, ◌-◌, ◌%◌, ◌^◌, ◌<◌, Bool, true, false, ◌||◌, ◌&&◌, List, [], ◌∷◌, ◌++◌, length, replicate, get_or, nat_eq, nat_lt, nat_le, if◌then◌else◌}
use Rattle.pw_bits.specs.Bits.{bits_of, zeros, bytes}

-- whether values have n bits
abbrev pub is_width : ℕ → Bool
is_width n = nat_eq n 8 || nat_eq n 16

-- the number of bits of a short difference's magnitude
abbrev pub short_size : ℕ → ℕ
short_size n = if nat_eq n 8 then 3 else 6

-- the greatest value, which is also the one before the first
abbrev pub greatest : ℕ → ℕ
greatest n = 2 ^ n - 1

-- ---- steps

-- A difference to the value before, as it is coded: the difference modulo 2^n itself, or its magnitude minus 1 and
-- its sign, true for negative.
pub data Difference : Type 0 where
  long : ℕ → Difference
  short : ℕ → Bool → Difference

-- A run, the number of further equal values, as it is coded: none, a small one, or any.
pub data Run : Type 0 where
  none : Run
  brief : ℕ → Run
  wide : ℕ → Run

-- a difference, and the run after it
pub record Step : Type 0 where
  pub difference : Difference
  pub run : Run

-- the codeword of a difference
abbrev pub difference_word : ℕ → Difference → List Bool
difference_word n (long d) = true ∷ bits_of n d
difference_word n (short m negative) = false ∷ (bits_of (short_size n) m ++ negative ∷ [])

-- the codeword of a run
abbrev pub run_word : Run → List Bool
run_word none = true ∷ []
run_word (brief k) = false ∷ bits_of 4 k
run_word (wide k) = false ∷ (zeros 4 ++ bits_of 11 k)

-- the value at a difference from the one before
abbrev pub moved : ℕ → ℕ → Difference → ℕ
moved n before (long d) = (before + d) % 2 ^ n
moved n before (short m false) = (before + (m + 1)) % 2 ^ n
moved n before (short m true) = (before + (2 ^ n - (m + 1))) % 2 ^ n

-- the number of further values of a run
abbrev pub run_length : Run → ℕ
run_length none = 0
run_length (brief k) = k
run_length (wide k) = k

-- the number of a difference fits its codeword
abbrev pub FitsDifference : ℕ → Difference → Type 0
FitsDifference n (long d) = d < 2 ^ n
FitsDifference n (short m negative) = m < 2 ^ short_size n

-- the number of a run fits its codeword, and in four bits it isn't 0
abbrev pub FitsRun : Run → Type 0
FitsRun none = Unit {0}
FitsRun (brief k) = (0 < k) × (k < 2 ^ 4)
FitsRun (wide k) = k < 2 ^ 11

-- all numbers fit
abbrev pub AreSteps : ℕ → List Step → Type 0
AreSteps n [] = Unit {0}
AreSteps n (s ∷ ss) = FitsDifference n s.difference × FitsRun s.run × AreSteps n ss

-- the values of steps after a value
abbrev pub given : ℕ → ℕ → List Step → List ℕ
given n before [] = []
given n before (s ∷ ss) =
    let v = moved n before s.difference in
    replicate (suc (run_length s.run)) v ++ given n v ss

-- The codewords of steps, if `wanting` values are missing: a difference, and while values are missing after it, a
-- run.
abbrev pub words : ℕ → ℕ → List Step → List Bool
words n wanting [] = []
words n wanting (s ∷ ss) =
    difference_word n s.difference
    ++ (if nat_lt 1 wanting then run_word s.run ++ words n (wanting - suc (run_length s.run)) ss else [])

-- The bits begin with the codewords of steps that give these values, and the rest of them is free.
pub record StepsStand (l : List Bool) (values : List ℕ) (n : ℕ) : Type 0 where
  pub steps : List Step
  pub fit : AreSteps n steps
  pub give : given n (greatest n) steps ≡ values
  pub rest : List Bool
  pub is : l ≡ words n (length values) steps ++ rest

-- The bits stand for these values: no bits stand for the greatest value everywhere, and others for the values of their steps.
abbrev pub Stands : List Bool → List ℕ → ℕ → Type 0
Stands [] values n = values ≡ replicate (length values) (greatest n)
Stands (b ∷ l) values n = StepsStand (b ∷ l) values n

-- ---- the canonical coding, which is written (our own)

-- equal values in a row: one, and the number of further ones
pub record Same : Type 0 where
  pub value : ℕ
  pub further : ℕ

-- a value before rows of equal values
abbrev pub joined : ℕ → List Same → List Same
joined v [] = record { value = v; further = 0 } ∷ []
joined v (s ∷ ss) =
    if nat_eq v s.value then record { value = v; further = suc s.further } ∷ ss
    else record { value = v; further = 0 } ∷ s ∷ ss

-- the rows of equal values, each as long as possible
abbrev pub rows : List ℕ → List Same
rows [] = []
rows (v ∷ vs) = joined v (rows vs)

-- the difference of a value to the one before, modulo 2^n
abbrev pub ahead : ℕ → ℕ → ℕ → ℕ
ahead n before v = (v + 2 ^ n - before) % 2 ^ n

-- the coding of a difference: the short one wherever it fits
unfoldable pub difference_of : ℕ → ℕ → ℕ → Difference
difference_of n before v =
    let d = ahead n before v in
    let most = 2 ^ short_size n in
    if nat_lt 0 d && nat_le d most then short (d - 1) false
    else (if nat_le (2 ^ n) (d + most) then short (2 ^ n - d - 1) true else long d)

-- the coding of a run: the short one wherever it fits
unfoldable pub run_of : ℕ → Run
run_of k = if nat_eq k 0 then none else (if nat_le k 15 then brief k else wide k)

-- the codewords of a row after a value
unfoldable pub row_words : ℕ → ℕ → Same → List Bool
row_words n before s = difference_word n (difference_of n before s.value) ++ run_word (run_of s.further)

-- the codewords of rows after a value
abbrev pub rows_words : ℕ → ℕ → List Same → List Bool
rows_words n before [] = []
rows_words n before (s ∷ ss) = row_words n before s ++ rows_words n s.value ss

-- the bits of values
unfoldable pub spelling : ℕ → List ℕ → List Bool
spelling n values = rows_words n (greatest n) (rows values)

-- the bytes of values, the last one filled with zeros
unfoldable pub alpha : ℕ → List ℕ → List ℕ
alpha n values = bytes (spelling n values)

-- all values have at most n bits
abbrev pub AreBelow : ℕ → List ℕ → Type 0
AreBelow n values = (i : ℕ) → get_or values i 0 < 2 ^ n
