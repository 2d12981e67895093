-- The word that goes on after zeros and a 1.
use Rattle.std.proofs.Common.{◌≡◌, ℕ, ◌^◌, ◌<◌, ◌≤◌, inl, inr, Bool, true, List, ◌∷◌, ◌++◌, Ok, Err, sym, ap, ◌∙◌, arith, append_assoc}
use Rattle.std.proofs.lemmas.Bool.{cases_lt}
use Rattle.pw_bits.specs.Bits.{bits_of, zeros}
use Rattle.pr_codes.specs.declared.book.Codebook.{Codebook}
use Rattle.pr_codes.specs.Words.{word, tail, after, at_end, too_large}
use Rattle.pr_codes.proofs.WordsLemmas.{parts, spelled, same_zeros, after_again, after_large}

module _ (book : Codebook) (z : ℕ) (l : List Bool) (n : ℕ) (rest : List Bool) (stands : zeros z ++ true ∷ l ≡ word book n ++ rest) where
  behind : (z ≡ (parts book n).z) × (l ≡ bits_of (tail book (parts book n).z) (parts book n).t ++ rest)
  behind =
      let p = parts book n in
      same_zeros z p.z l (bits_of (tail book p.z) p.t ++ rest) (stands ∙ ap (λ w. w ++ rest) (spelled book n p) ∙ append_assoc (zeros p.z) (true ∷ bits_of (tail book p.z) p.t) rest)

  pub goes_on : n ≤ 2 ^ 20 → after book z l ≡ Ok (n, rest)
  goes_on small =
      let p = parts book n in
      ap (λ k. after book k l) behind.0 ∙ ap (after book p.z) behind.1 ∙ after_again book p.z p.t rest p.low (omega (arith, p.is)) ∙ ap (λ m. Ok (m, rest)) (sym p.is)

  pub goes_on_large : 2 ^ 20 < n → after book z l ≡ Err too_large
  goes_on_large large =
      let p = parts book n in
      ap (λ k. after book k l) behind.0 ∙ ap (after book p.z) behind.1 ∙ after_large book p.z p.t rest p.low (omega (arith, p.is))

  pub goes_on_whole : after book z l ≡ Err at_end → ⊥
  goes_on_whole ended = elim (cases_lt (2 ^ 20) n) [
    | inl large ↦ let e = goes_on_large large in cc
    | inr small ↦ let e = goes_on small in cc
  ]
