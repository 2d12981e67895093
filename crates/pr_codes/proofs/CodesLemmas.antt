-- What a reader's steps say of the word at the start.
use Rattle.std.proofs.Common.{◌≡◌, ℕ, suc, ◌+◌, ◌^◌, ◌<◌, ◌≤◌, Bool, true, List, [], ◌∷◌, ◌++◌, length, Ok, Err, ap, sym, ◌∙◌, subst, arith, append_assoc, append-nil}
use Rattle.pr_codes.specs.declared.book.Codebook.{Codebook}
use Rattle.pw_bits.specs.Bits.{bits_of, zeros}
use Rattle.pr_codes.specs.Words.{at_end, too_large, tail, first, after, code_at, most}
use Rattle.pr_codes.proofs.WordsLemmas.{after_again, after_large, after_short, code_at_one, code_at_end, code_at_many}

module _ (book : Codebook) (z size least : ℕ) (l : List Bool) (is_size : size ≡ tail book z) (is_least : least ≡ first book z) where
  taken : (low : ℕ) (rest : List Bool) → l ≡ bits_of size low ++ rest → l ≡ bits_of (tail book z) low ++ rest
  taken low rest e = e ∙ ap (λ k. bits_of k low ++ rest) is_size

  pub reads_number : (low : ℕ) (rest : List Bool) → low < 2 ^ size → least + low ≤ 2 ^ 20 → l ≡ bits_of size low ++ rest → after book z l ≡ Ok (least + low, rest)
  reads_number low rest fits small e =
      ap (after book z) (taken low rest e)
      ∙ after_again book z low rest (subst (λ k. low < 2 ^ k) is_size fits) (omega (arith, is_least))
      ∙ ap (λ f. Ok (f + low, rest)) (sym is_least)

  pub reads_large : (low : ℕ) (rest : List Bool) → low < 2 ^ size → 2 ^ 20 < least + low → l ≡ bits_of size low ++ rest → after book z l ≡ Err too_large
  reads_large low rest fits large e =
      ap (after book z) (taken low rest e) ∙ after_large book z low rest (subst (λ k. low < 2 ^ k) is_size fits) (omega (arith, is_least))

  pub reads_short : length l < size → after book z l ≡ Err at_end
  reads_short short = after_short book z l (omega (arith, is_size))

module _ (book : Codebook) (bound : ℕ) (l rest : List Bool) (is_most : bound ≡ most book) where
  pub one_reads : (k : ℕ) → k ≤ bound → l ≡ (zeros k ++ true ∷ []) ++ rest → code_at book l ≡ after book k rest
  one_reads k few e = ap (code_at book) (e ∙ append_assoc (zeros k) (true ∷ []) rest) ∙ code_at_one book k rest (omega (arith, is_most))

  pub end_reads : (k : ℕ) → k ≤ bound → l ≡ zeros k ++ rest → rest ≡ [] → code_at book l ≡ Err at_end
  end_reads k few e none = ap (code_at book) (e ∙ ap (λ r. zeros k ++ r) none ∙ append-nil (zeros k)) ∙ code_at_end book k (omega (arith, is_most))

  pub many_reads : l ≡ zeros (bound + 1) ++ rest → code_at book l ≡ Err too_large
  many_reads e = ap (code_at book) (e ∙ ap (λ n. zeros n ++ rest) (let u : bound + 1 ≡ suc (most book) = omega (arith, is_most) in u)) ∙ code_at_many book rest
