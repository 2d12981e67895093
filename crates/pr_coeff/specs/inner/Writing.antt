-- What a writer of coefficients has written so far, and the context of the next codewords (our own).
use Rattle.std.specs.Prelude.{◌≡◌, ℕ, List, [], ◌∷◌, ◌++◌, Bool, ℤ}
use Rattle.pr_codes.specs.Words.{word}
use Rattle.pr_coeff.specs.Component.{dc_words, ac_words, run_book, level_book}
use Rattle.pr_coeff.specs.declared.write.Coding.{Coding}
use Rattle.pr_coeff.specs.declared.write.Differences.{Differences}

-- The codewords of these coefficients, whatever coefficients follow: those are coded as the new state says.
pub record Codes (old new : Coding) (vs : List ℤ) (words : List Bool) : Type 0 where
  pub any : (rest : List ℤ) → ac_words old.run old.magnitude old.zeros (vs ++ rest) ≡ words ++ ac_words new.run new.magnitude new.zeros rest

-- the codewords of a run and a level, and a sign
abbrev pub triple_words : ℕ → ℕ → ℕ → ℕ → Bool → List Bool
triple_words run magnitude zeros level negative = word (run_book run) zeros ++ (word (level_book magnitude) level ++ negative ∷ [])

-- The codewords of these DC coefficients, whatever DC coefficients follow.
pub record CodesDc (old new : Differences) (ds : List ℤ) (words : List Bool) : Type 0 where
  pub any : (rest : List ℤ) → dc_words old.last old.negative old.code (ds ++ rest) ≡ words ++ dc_words new.last new.negative new.code rest
