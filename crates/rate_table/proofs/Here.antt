-- The number whose bytes come first, by its width.
use Rattle.std.proofs.Common.{◌≡◌, ℕ, ◌+◌, ◌^◌, ◌<◌, List, [], ◌∷◌, ◌++◌, refl, arith}
use Rattle.std.specs.Int.{w8, w16, w32, w64, to_be_bytes}
use Rattle.std.proofs.lemmas.Nat.{from_be_bytes-to_be_bytes_2, from_be_bytes-to_be_bytes_4, from_be_bytes-to_be_bytes_8}
use Rattle.pw_outside.specs.Reading.{number_at}
use Rattle.pw_outside.proofs.Steps.{number-here, found}
use Rattle.rate_table.specs.declared.fault.ProofKind.{ProofKind}

module _ (short : ProofKind) (n place : ℕ) where
  pub byte-here : (behind : List ℕ) → number_at short w8 (record { place = place; bytes = n ∷ behind }) ≡ found n (place + 1) behind
  byte-here behind = number-here short w8 n place (n ∷ []) behind refl (omega arith)

  pub two-here : (behind : List ℕ) → n < 2 ^ 16
      → number_at short w16 (record { place = place; bytes = to_be_bytes w16 n ++ behind }) ≡ found n (place + 2) behind
  two-here behind small = number-here short w16 n place (to_be_bytes w16 n) behind refl (from_be_bytes-to_be_bytes_2 n small)

  pub four-here : (behind : List ℕ) → n < 2 ^ 32
      → number_at short w32 (record { place = place; bytes = to_be_bytes w32 n ++ behind }) ≡ found n (place + 4) behind
  four-here behind small = number-here short w32 n place (to_be_bytes w32 n) behind refl (from_be_bytes-to_be_bytes_4 n small)

  pub eight-here : (behind : List ℕ) → n < 2 ^ 64
      → number_at short w64 (record { place = place; bytes = to_be_bytes w64 n ++ behind }) ≡ found n (place + 8) behind
  eight-here behind small = number-here short w64 n place (to_be_bytes w64 n) behind refl (from_be_bytes-to_be_bytes_8 n small)
