-- Big-endian numbers. Our own definitions.
use Rattle.std.specs.Prelude.{◌≡◌, ℕ, zero, suc, ◌/◌, ◌%◌, ◌<◌, ◌^◌, List, [], ◌∷◌, length, slice_index}
use Rattle.std.specs.Int.{Width, from_be_bytes}

-- the k bytes of a number, the most significant first: its 256^(k − 1)th part modulo 256, .., its 256th part modulo 256, the number modulo 256
abbrev pub number_bytes : ℕ → ℕ → List ℕ
number_bytes zero number = []
number_bytes (suc zero) number = number % 256 ∷ []
number_bytes (suc (suc k)) number = number / 256 ^ suc k % 256 ∷ number_bytes (suc k) number

-- std's reading at a width of k bytes is the inverse
pub record IsReadAgain (k : ℕ) (w : Width) : Type 0 where
  pub number : (n : ℕ) → n < 256 ^ k → from_be_bytes w (number_bytes k n) ≡ n
  pub bytes : (bytes : List ℕ) → length bytes ≡ k → ((i : ℕ) → slice_index bytes i < 256) → number_bytes k (from_be_bytes w bytes) ≡ bytes
