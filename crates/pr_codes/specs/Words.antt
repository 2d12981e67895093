-- The codewords of a codebook, Golomb combination codes as in SMPTE RDD 36, and the codeword at the start of bits.
use Rattle.std.specs.Prelude.{ℕ, zero, suc, ◌+◌, ◌-◌, ◌*◌, ◌/◌, ◌^◌, Bool, true, false, List, [], ◌∷◌, ◌++◌, length, take, drop, ◌==◌, ◌&&◌, nat_eq, nat_lt, nat_le, if◌then◌else◌, Result, Ok, Err}
use Rattle.std.specs.List.{list_any}
use Rattle.pw_bits.specs.Bits.{bits_of, value, zeros}
use Rattle.pr_codes.specs.declared.book.Codebook.{Codebook}

-- the greatest l with 2 ^ l ≤ v, found in a given number of steps
abbrev pub floor_log2_in : ℕ → ℕ → ℕ
floor_log2_in zero v = 0
floor_log2_in (suc t) v = if nat_lt v 2 then 0 else suc (floor_log2_in t (v / 2))

unfoldable pub floor_log2 : ℕ → ℕ
floor_log2 v = floor_log2_in v v

-- a codebook by its three parameters
abbrev pub book : ℕ → ℕ → ℕ → Codebook
book last rice exp = record { last = last; rice = rice; exp = exp }

-- the codebooks of the adaptation tables for first and later DC codes, for runs and for levels
abbrev pub books : List Codebook
books =
    book 0 5 6 ∷ book 0 0 1 ∷ book 0 1 2 ∷ book 1 2 3 ∷ book 0 3 4
    ∷ book 2 0 1 ∷ book 1 0 1 ∷ book 1 1 2 ∷ book 0 2 3 ∷ book 2 0 2 ∷ []

abbrev pub is_same : Codebook → Codebook → Bool
is_same a b = a.last == b.last && a.rice == b.rice && a.exp == b.exp

-- whether this is one of the codebooks
abbrev pub is_book : Codebook → Bool
is_book b = list_any (is_same b) books

-- The codeword of n. If n without its `rice` low bits is at most `last`, it is that many zeros, a 1, and the low
-- bits. Otherwise it is n's offset in binary, after zeros that give its number of bits.
unfoldable pub word : Codebook → ℕ → List Bool
word book n =
    let v = n + 2 ^ book.exp - (book.last + 1) * 2 ^ book.rice in
    let l = floor_log2 v in
    if nat_le (n / 2 ^ book.rice) book.last
    then zeros (n / 2 ^ book.rice) ++ true ∷ bits_of book.rice n
    else (zeros (l - book.exp + book.last + 1) ++ bits_of (l + 1) v)

-- the number of bits after z zeros and a 1
unfoldable pub tail : Codebook → ℕ → ℕ
tail book z = if nat_le z book.last then book.rice else (z - book.last - 1 + book.exp)

-- the least number whose codeword begins with z zeros and a 1
unfoldable pub first : Codebook → ℕ → ℕ
first book z =
    if nat_le z book.last then z * 2 ^ book.rice
    else (2 ^ (z - book.last - 1 + book.exp) + (book.last + 1) * 2 ^ book.rice - 2 ^ book.exp)

-- why no codeword is read
pub data WordFault : Type 0 where
  at_end : WordFault
  too_large : WordFault

-- the greatest number of zeros of a codeword that is read
abbrev pub most : Codebook → ℕ
most book = 21 - book.exp + book.last

-- the number of leading zeros
abbrev pub leading : List Bool → ℕ
leading [] = 0
leading (true ∷ l) = 0
leading (false ∷ l) = suc (leading l)

-- numbers above 2^20 are not read
abbrev pub within : ℕ → List Bool → Result (ℕ × List Bool) WordFault
within n rest = if nat_lt (2 ^ 20) n then Err too_large else Ok (n, rest)

-- the number whose codeword has z zeros and these bits after its 1
unfoldable pub after : Codebook → ℕ → List Bool → Result (ℕ × List Bool) WordFault
after book z l =
    if nat_lt (length l) (tail book z) then Err at_end
    else within (first book z + value (take (tail book z) l)) (drop (tail book z) l)

-- The number whose codeword comes first, and the bits after it. Zeros are counted first: too many of them are a
-- fault, also where the bits end. Otherwise the bits may end before a 1 or after it.
unfoldable pub code_at : Codebook → List Bool → Result (ℕ × List Bool) WordFault
code_at book l =
    if nat_lt (most book) (leading l) then Err too_large
    else (if nat_eq (leading l) (length l) then Err at_end else after book (leading l) (drop (suc (leading l)) l))
