-- Short codewords by the first eight bits (our own).
use Rattle.std.specs.Prelude.{◌≡◌, ℕ, ◌+◌, ◌/◌, ◌%◌, ◌<◌, ◌≤◌, List, ◌++◌, length, drop, get_or}
use Rattle.pw_bits.specs.Bits.{bits_of}
use Rattle.pr_codes.specs.Words.{word}
use Rattle.pr_codes.specs.declared.book.Codebook.{Codebook}
use Rattle.pr_coeff.specs.Component.{run_book, level_book}
use Rattle.pr_coeff.specs.Lengths.{run_class, run_in, level_class, level_in}
use Rattle.pr_pieces.specs.declared.short.ShortWord.{ShortWord}

-- The eight bits begin with the codeword of this number, which has `size` bits. A size of 0 says nothing.
pub record IsShort (book : Codebook) (front : ℕ) (s : ShortWord) : Type 0 where
  pub few : s.size ≤ 8
  pub small : s.number < 256
  pub is : 0 < s.size → bits_of 8 front ≡ word book s.number ++ drop s.size (bits_of 8 front)
  pub long : 0 < s.size → length (word book s.number) ≡ s.size

-- a short codeword of a run after a run of the class
pub record IsShortRun (class front : ℕ) (s : ShortWord) : Type 0 where
  pub word : IsShort (run_book (run_in class)) front s
  pub next : s.class ≡ run_class s.number

-- a short codeword of a level after a magnitude of the class; the level is the magnitude less 1
pub record IsShortLevel (class front : ℕ) (s : ShortWord) : Type 0 where
  pub word : IsShort (level_book (level_in class)) front s
  pub next : s.class ≡ level_class (s.number + 1)

abbrev pub none : ShortWord
none = record { size = 0; number = 0; class = 0 }

-- 256 codewords of each class, by their eight bits
abbrev pub AreRuns : List ShortWord → Type 0
AreRuns table = (i : ℕ) → i < 1536 → IsShortRun (i / 256) (i % 256) (get_or table i none)

abbrev pub AreLevels : List ShortWord → Type 0
AreLevels table = (i : ℕ) → i < 1536 → IsShortLevel (i / 256) (i % 256) (get_or table i none)
