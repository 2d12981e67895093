-- The numbers of bytes, by std's lemmas.
use Rattle.std.proofs.Common.{◌≡◌, ℕ, List, [], ◌∷◌, ◌<◌, length, get_or, refl, ap, arith, ◌%◌}
use Rattle.std.specs.Int.{w8, w16, w32, w64, from_be_bytes}
use Rattle.std.proofs.lemmas.Nat.{from_be_bytes-to_be_bytes_2, from_be_bytes-to_be_bytes_4, from_be_bytes-to_be_bytes_8, be_bytes_2, be_bytes_4, be_bytes_8}
use Rattle.pw_fields.specs.Numbers.{number_bytes, IsReadAgain}

one_byte : (bytes : List ℕ) → length bytes ≡ 1 → ((i : ℕ) → get_or bytes i 0 < 256) → number_bytes 1 (from_be_bytes w8 bytes) ≡ bytes
one_byte [] len small = absurd (omega (arith, len))
one_byte (b ∷ []) len small = let same : b % 256 ≡ b = omega (arith, small 0) in ap (λ n. n ∷ []) same
one_byte (b ∷ c ∷ rest) len small = absurd (omega (arith, len))

pub one : IsReadAgain 1 w8
one = record { number = λ n small. omega (arith, small); bytes = one_byte }

pub two : IsReadAgain 2 w16
two = record { number = from_be_bytes-to_be_bytes_2; bytes = λ bytes len small. be_bytes_2 bytes _ len small refl }

pub four : IsReadAgain 4 w32
four = record { number = from_be_bytes-to_be_bytes_4; bytes = λ bytes len small. be_bytes_4 bytes _ len small refl }

pub eight : IsReadAgain 8 w64
eight = record { number = from_be_bytes-to_be_bytes_8; bytes = λ bytes len small. be_bytes_8 bytes _ len small refl }
