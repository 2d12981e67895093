-- A component as explicit lists. Each item has its codeword in the codebook that the item before it selects: the
-- codes of the DC coefficients, and a run, a level and a sign for each other nonzero coefficient (SMPTE RDD 36,
-- scanned coefficients).
use Rattle.std.specs.Prelude.{◌≡◌, ◌↔◌, ℕ, suc, ◌<◌, ◌≤◌, Bool, false, List, [], ◌∷◌, ◌++◌, length, replicate, drop, map, get_or, ℤ, pos, ◌-ℤ◌, nat_abs}
use Rattle.std.specs.List.{All, flat_map, zip}
use Rattle.pw_bits.specs.Bits.{zeros, bytes}
use Rattle.pr_codes.specs.Words.{word, book}
use Rattle.pr_coeff.specs.Component.{folded, is_negative, turned, dc_book, run_book, level_book, Block, column, listed, AreBlocks, Stands, component, places}
use Rattle.pr_coeff.specs.Reading.{signed}
use Rattle.pr_coeff.specs.declared.scan.Scan.{Scan}

-- each item with the one before it; `start` is before the first
abbrev pub behind : {A : Type 0} → A → List A → List (A × A)
behind start items = zip (start ∷ items) items

-- ---- DC coefficients

-- the difference of each DC coefficient to the one before it
abbrev pub differences : ℤ → List ℤ → List ℤ
differences first ds = map (λ p. p.1 -ℤ p.0) (behind first ds)

-- the code of each difference, negated if the difference before it is negative; before the first is 0
abbrev pub codes : List ℤ → List ℕ
codes ds = map (λ p. folded (turned (is_negative p.0) p.1)) (behind (pos 0) ds)

-- the codeword of each code, in the codebook that the previous code selects; before the first is 5
abbrev pub code_words : List ℕ → List (List Bool)
code_words cs = map (λ p. word (dc_book p.0) p.1) (behind 5 cs)

-- the codeword of each DC coefficient: of the first one's own code, and of the differences of the others
abbrev pub first_words : List ℤ → List (List Bool)
first_words [] = []
first_words (d ∷ ds) = word (book 0 5 6) (folded d) ∷ code_words (codes (differences d ds))

-- ---- other coefficients

-- a run of zeros, the magnitude after it, less 1, and its sign
pub record RunLevelSign : Type 0 where
  pub run : ℕ
  pub level : ℕ
  pub negative : Bool

-- the context of the first: a run of 4 and a magnitude of 2
abbrev pub start_triple : RunLevelSign
start_triple = record { run = 4; level = 1; negative = false }

-- the codeword of the run, in the codebook that the previous run selects, the codeword of the level, in the
-- codebook that the previous magnitude selects, and the sign
abbrev pub words_behind : RunLevelSign → RunLevelSign → List Bool
words_behind before t = word (run_book before.run) t.run ++ (word (level_book (suc before.level)) t.level ++ t.negative ∷ [])

-- the codewords of each triple
abbrev pub triple_words_of : List RunLevelSign → List (List Bool)
triple_words_of ts = map (λ p. words_behind p.0 p.1) (behind start_triple ts)

-- the coefficients that triples stand for
abbrev pub written_out : List RunLevelSign → List ℤ
written_out ts = flat_map (λ t. replicate t.run (pos 0) ++ signed t.negative t.level ∷ []) ts

-- Expanded, with zeros after them, they are these coefficients.
pub record AreTriplesOf (ts : List RunLevelSign) (vs : List ℤ) : Type 0 where
  pub zeros : ℕ
  pub are : vs ≡ written_out ts ++ replicate zeros (pos 0)

-- ---- components

-- the codewords of each coefficient that has some: of the DC coefficients of all blocks, and then of the triples
abbrev pub coefficient_words : List Block → List RunLevelSign → List (List Bool)
coefficient_words blocks ts = first_words (column blocks 0) ++ triple_words_of ts

abbrev pub joined : List (List Bool) → List Bool
joined words = flat_map (λ w. w) words

-- The bits are, in this order, the codewords of the DC coefficients of all blocks, those of the triples of the
-- other coefficients in scan order, and any number of zeros.
pub record StandsByTriples (l : List Bool) (blocks : List Block) (scan : List ℕ) : Type 0 where
  pub fits : AreBlocks blocks
  pub triples : List RunLevelSign
  pub values : AreTriplesOf triples (listed (drop 1 scan) blocks)
  pub behind : ℕ
  pub is : l ≡ joined (coefficient_words blocks triples) ++ zeros behind

-- ---- laws

-- every list of coefficients has exactly one list of triples
pub record HaveOneListOfTriples (vs : List ℤ) : Type 0 where
  pub triples : List RunLevelSign
  pub are : AreTriplesOf triples vs
  pub once : (ts : List RunLevelSign) → AreTriplesOf ts vs → ts ≡ triples

-- Bits stand for blocks exactly where they are the codewords of their triples.
abbrev pub StandsAreTriples : Type 0
StandsAreTriples = (l : List Bool) (blocks : List Block) (scan : List ℕ) → Stands l blocks scan ↔ StandsByTriples l blocks scan

-- The bytes of a component are those of the codewords of its triples.
abbrev pub ComponentIsOfTriples : Type 0
ComponentIsOfTriples = (scan : List ℕ) (blocks : List Block) (ts : List RunLevelSign) → AreTriplesOf ts (listed (drop 1 scan) blocks)
    → component scan blocks ≡ bytes (joined (coefficient_words blocks ts))

-- A coefficient costs fewer than 57 bits: its codeword, or the codewords of its run and its level, and its sign.
abbrev pub CoefficientsAreShort : Type 0
CoefficientsAreShort = (scan : Scan) (blocks : List Block) (ts : List RunLevelSign) → length blocks ≤ 32
    → ((i place : ℕ) → nat_abs (get_or (get_or blocks i []) place (pos 0)) ≤ 8191) → AreTriplesOf ts (listed (drop 1 (places scan)) blocks)
    → All (λ w. length w < 57) (coefficient_words blocks ts)
