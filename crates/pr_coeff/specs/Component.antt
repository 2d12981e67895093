-- The components of a slice: the codewords of their coefficients, as in SMPTE RDD 36, scanned coefficients.
use Rattle.std.specs.Prelude.{◌≡◌, ℕ, zero, suc, ◌+◌, ◌*◌, ◌<◌, ◌≤◌, Bool, true, false, List, [], ◌∷◌, ◌++◌, length, drop, map, get_or, nat_eq, nat_le, if◌then◌else◌, ℤ, pos, negsuc, ◌-ℤ◌, neg_ℤ, nat_abs}
use Rattle.std.specs.List.{flat_map}
use Rattle.pw_bits.specs.Bits.{zeros, bytes}
use Rattle.pr_codes.specs.Words.{word, book}
use Rattle.pr_codes.specs.declared.book.Codebook.{Codebook}
use Rattle.pr_coeff.specs.declared.scan.Scan.{Scan}
use Rattle.pr_coeff.specs.declared.scan.Scan.TheVariants.{Progressive, Interlaced}

-- the code of a signed number: 0, −1, 1, −2, 2 .. have the codes 0, 1, 2, 3, 4 ..
abbrev pub folded : ℤ → ℕ
folded (pos n) = 2 * n
folded (negsuc n) = 2 * n + 1

-- whether a number is below 0
abbrev pub is_negative : ℤ → Bool
is_negative (pos n) = false
is_negative (negsuc n) = true

-- a difference, negated if the difference before it was negative
abbrev pub turned : Bool → ℤ → ℤ
turned true d = neg_ℤ d
turned false d = d

-- the codebook of a DC difference's code, by the previous code
unfoldable pub dc_book : ℕ → Codebook
dc_book code =
    if nat_eq code 0 then book 0 0 1
    else (if nat_le code 2 then book 0 1 2 else (if nat_le code 4 then book 1 2 3 else book 0 3 4))

-- the codebook of a run, by the previous run, at first 4
unfoldable pub run_book : ℕ → Codebook
run_book run =
    if nat_le run 1 then book 2 0 1
    else (if nat_le run 3 then book 1 0 1
    else (if nat_eq run 4 then book 0 0 1
    else (if nat_le run 8 then book 1 1 2
    else (if nat_le run 14 then book 0 1 2 else book 0 2 3))))

-- the codebook of a level, by the previous magnitude, at first 2
unfoldable pub level_book : ℕ → Codebook
level_book magnitude =
    if nat_le magnitude 1 then book 2 0 2
    else (if nat_eq magnitude 2 then book 1 0 1
    else (if nat_eq magnitude 3 then book 2 0 1
    else (if nat_eq magnitude 4 then book 0 0 1
    else (if nat_le magnitude 8 then book 0 1 2 else book 0 2 3))))

-- The codewords of DC coefficients after an earlier one, `last`. Each has the code of its difference to the one
-- before, negated if the difference before it was negative. A difference of 0 isn't negative.
abbrev pub dc_words : ℤ → Bool → ℕ → List ℤ → List Bool
dc_words last negative code [] = []
dc_words last negative code (d ∷ ds) =
    let c = folded (turned negative (d -ℤ last)) in
    word (dc_book code) c ++ dc_words d (is_negative (d -ℤ last)) c ds

-- the codewords of the DC coefficients of all blocks: the code of the first itself, and the differences of the
-- others
abbrev pub all_dc_words : List ℤ → List Bool
all_dc_words [] = []
all_dc_words (d ∷ ds) = word (book 0 5 6) (folded d) ++ dc_words d false 5 ds

-- The codewords of the other coefficients, after the run and the magnitude before them and k zeros. Each nonzero
-- coefficient has the codeword of its run, the number of zeros before it; the codeword of its level, its magnitude
-- minus 1; and its sign, 1 if it is negative. Zeros after the last have no codeword.
abbrev pub ac_words : ℕ → ℕ → ℕ → List ℤ → List Bool
ac_words run magnitude k [] = []
ac_words run magnitude k (pos zero ∷ vs) = ac_words run magnitude (suc k) vs
ac_words run magnitude k (pos (suc m) ∷ vs) =
    word (run_book run) k ++ (word (level_book magnitude) m ++ false ∷ ac_words k (suc m) 0 vs)
ac_words run magnitude k (negsuc m ∷ vs) =
    word (run_book run) k ++ (word (level_book magnitude) m ++ true ∷ ac_words k (suc m) 0 vs)

-- the coefficients of a block in raster order
abbrev pub Block : Type 0
Block = List ℤ

-- the coefficients of all blocks at one position
abbrev pub column : List Block → ℕ → List ℤ
column blocks place = map (λ b. get_or b place (pos 0)) blocks

-- the coefficients of all blocks at these positions, position by position
abbrev pub listed : List ℕ → List Block → List ℤ
listed places blocks = flat_map (column blocks) places

-- the raster positions in the order of the progressive scan
abbrev pub progressive : List ℕ
progressive = 0 ∷ 1 ∷ 8 ∷ 9 ∷ 2 ∷ 3 ∷ 10 ∷ 11 ∷ 16 ∷ 17 ∷ 24 ∷ 25 ∷ 18 ∷ 19 ∷ 26 ∷ 27 ∷ 4 ∷ 5 ∷ 12 ∷ 20 ∷ 13 ∷ 6 ∷ 7 ∷ 14 ∷ 21 ∷ 28 ∷ 29 ∷ 22 ∷ 15 ∷ 23 ∷ 30 ∷ 31 ∷ 32 ∷ 33 ∷ 40 ∷ 48 ∷ 41 ∷ 34 ∷ 35 ∷ 42 ∷ 49 ∷ 56 ∷ 57 ∷ 50 ∷ 43 ∷ 36 ∷ 37 ∷ 44 ∷ 51 ∷ 58 ∷ 59 ∷ 52 ∷ 45 ∷ 38 ∷ 39 ∷ 46 ∷ 53 ∷ 60 ∷ 61 ∷ 54 ∷ 47 ∷ 55 ∷ 62 ∷ 63 ∷ []

-- the raster positions in the order of the interlaced scan
abbrev pub interlaced : List ℕ
interlaced = 0 ∷ 8 ∷ 1 ∷ 9 ∷ 16 ∷ 24 ∷ 17 ∷ 25 ∷ 2 ∷ 10 ∷ 3 ∷ 11 ∷ 18 ∷ 26 ∷ 19 ∷ 27 ∷ 32 ∷ 40 ∷ 33 ∷ 34 ∷ 41 ∷ 48 ∷ 56 ∷ 49 ∷ 42 ∷ 35 ∷ 43 ∷ 50 ∷ 57 ∷ 58 ∷ 51 ∷ 59 ∷ 4 ∷ 12 ∷ 5 ∷ 6 ∷ 13 ∷ 20 ∷ 28 ∷ 21 ∷ 14 ∷ 7 ∷ 15 ∷ 22 ∷ 29 ∷ 36 ∷ 44 ∷ 37 ∷ 30 ∷ 23 ∷ 31 ∷ 38 ∷ 45 ∷ 52 ∷ 60 ∷ 53 ∷ 46 ∷ 39 ∷ 47 ∷ 54 ∷ 61 ∷ 62 ∷ 55 ∷ 63 ∷ []

-- the positions of a scan in order
abbrev pub places : Scan → List ℕ
places Progressive = progressive
places Interlaced = interlaced

-- the index of a position in a scan
abbrev pub index_of : ℕ → List ℕ → ℕ
index_of place [] = 0
index_of place (p ∷ ps) = if nat_eq p place then 0 else suc (index_of place ps)

-- a scan has each position once, position 0 first
pub record IsScan (scan : List ℕ) : Type 0 where
  pub size : length scan ≡ 64
  pub starts : scan ≡ 0 ∷ drop 1 scan
  pub places : (k : ℕ) → k < 64 → (get_or scan k 0 < 64) × (index_of (get_or scan k 0) scan ≡ k)
  pub found : (p : ℕ) → p < 64 → (index_of p scan < 64) × (get_or scan (index_of p scan) 0 ≡ p)

-- the bits of blocks: the DC coefficients of all blocks, and then the scan's other positions, each of all blocks
unfoldable pub spelling : List ℕ → List Block → List Bool
spelling scan blocks = all_dc_words (column blocks 0) ++ ac_words 4 2 0 (listed (drop 1 scan) blocks)

-- the bytes of blocks, the last one filled with zeros
unfoldable pub component : List ℕ → List Block → List ℕ
component scan blocks = bytes (spelling scan blocks)

-- a coefficient is of magnitude at most 32,767
abbrev pub IsSmall : ℤ → Type 0
IsSmall v = nat_abs v ≤ 32767

-- all are
abbrev pub AllSmall : List ℤ → Type 0
AllSmall [] = Unit {0}
AllSmall (v ∷ vs) = IsSmall v × AllSmall vs

-- these are blocks: each has 64 coefficients that are small
abbrev pub AreBlocks : List Block → Type 0
AreBlocks [] = Unit {0}
AreBlocks (b ∷ bs) = (length b ≡ 64) × AllSmall b × AreBlocks bs

-- The bits stand for these blocks: they are the codewords of these blocks, and then any number of zeros.
pub record Stands (l : List Bool) (blocks : List Block) (scan : List ℕ) : Type 0 where
  pub fits : AreBlocks blocks
  pub behind : ℕ
  pub is : l ≡ spelling scan blocks ++ zeros behind
