-- Counting the bits of codewords coefficient by coefficient: the state has only the classes of the run and the
-- magnitude before (our own).
use Rattle.std.specs.Prelude.{◌≡◌, ℕ, ◌+◌, ◌/◌, ◌<◌, Bool, List, [], ◌∷◌, ◌++◌, length, drop, ℤ, pos, nat_abs}
use Rattle.pr_coeff.specs.Component.{ac_words, all_dc_words, column, listed, component, Block}
use Rattle.pr_coeff.specs.Lengths.{run_class, run_bits, level_class, level_bits}

-- The codewords of these coefficients have `bits` bits, whatever coefficients follow. After them there are `zeros`
-- zeros, and before those a run and a magnitude of these classes.
pub record Known (vs : List ℤ) (bits zeros run level : ℕ) : Type 0 where
  pub before : ℕ
  pub magnitude : ℕ
  pub words : List Bool
  pub any : (rest : List ℤ) → ac_words 4 2 0 (vs ++ rest) ≡ words ++ ac_words before magnitude zeros rest
  pub bits_are : bits ≡ length words
  pub run_is : run ≡ run_class before
  pub level_is : level ≡ level_class magnitude

-- before the first coefficient
abbrev pub KnownAtFirst : Type 0
KnownAtFirst = Known [] 0 0 2 1

-- A zero costs nothing.
abbrev pub KnownBehindZero : Type 0
KnownBehindZero = (vs : List ℤ) (bits zeros run level : ℕ) → Known vs bits zeros run level → Known (vs ++ pos 0 ∷ []) bits (zeros + 1) run level

-- A nonzero coefficient costs the codewords of its run and its level, and its sign.
abbrev pub KnownBehindValue : Type 0
KnownBehindValue = (vs : List ℤ) (bits zeros run level : ℕ) (q : ℤ) → 0 < nat_abs q → Known vs bits zeros run level
    → Known (vs ++ q ∷ []) (bits + (run_bits run zeros + level_bits level (nat_abs q))) 0 (run_class zeros) (level_class (nat_abs q))

-- If no coefficients follow, these are all bits.
abbrev pub KnownAtLast : Type 0
KnownAtLast = (vs : List ℤ) (bits zeros run level : ℕ) → Known vs bits zeros run level → bits ≡ length (ac_words 4 2 0 vs)

-- a component's bytes, by the bits of its codewords
abbrev pub ComponentHasBytes : Type 0
ComponentHasBytes = (scan : List ℕ) (blocks : List Block)
    → length (component scan blocks) ≡ (length (all_dc_words (column blocks 0)) + length (ac_words 4 2 0 (listed (drop 1 scan) blocks)) + 7) / 8
