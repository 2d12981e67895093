-- What a writer of alpha values has written so far, and the context of the next codewords (our own).
use Rattle.std.specs.Prelude.{◌≡◌, ℕ, suc, List, ◌++◌, Bool, replicate}
use Rattle.pr_alpha.specs.Alpha.{rows, rows_words}
use Rattle.pr_alpha.specs.declared.write.Coding.{Coding}

-- the codewords of these values after those whose codewords are still to be written
abbrev pub words_behind : ℕ → Coding → List ℕ → List Bool
words_behind n s values = rows_words n s.before (rows (replicate (suc s.further) s.value ++ values))

-- The codewords of these values, whatever values follow: those are coded as the new state says.
pub record Codes (n : ℕ) (old new : Coding) (values : List ℕ) (words : List Bool) : Type 0 where
  pub any : (rest : List ℕ) → words_behind n old (values ++ rest) ≡ words ++ words_behind n new rest
