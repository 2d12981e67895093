-- Reading DC coefficients one by one.
use Rattle.std.proofs.Common.{◌≡◌, ℕ, suc, Bool, true, false, List, [], ◌∷◌, ◌++◌, Result, Ok, Err, refl, ap, sym, ◌∙◌, subst, append_assoc, ℤ, ◌+ℤ◌}
use Rattle.pr_codes.specs.declared.book.Codebook.{Codebook}
use Rattle.pr_coeff.specs.Component.{dc_book, turned, is_negative}
use Rattle.pr_coeff.specs.Reading.{Fault, codeword, run_past, level_range, ◌>>=◌, word_at, unfolded, is_small, First, first_of, first_at, firsts_at, with_first}
use Rattle.pr_coeff.specs.Calls.{IsFault}
use Rattle.pr_coeff.specs.declared.read.CoeffFault.{CoeffFault}
use Rattle.pr_coeff.specs.declared.read.CoeffFault.TheVariants as faults

module _ (b : Codebook) (l : List Bool) (last : ℤ) (neg : Bool) (code : ℕ) (is : b ≡ dc_book code) where
  pub first_value : (n : ℕ) (rest : List Bool) (v : ℤ) (negative : Bool) → word_at b l ≡ Ok (n, rest) → is_small (last +ℤ turned neg (unfolded n)) ≡ true →
      v ≡ last +ℤ turned neg (unfolded n) → negative ≡ is_negative (turned neg (unfolded n)) →
      first_at last neg code l ≡ Ok (record { value = v; negative = negative; code = n; rest = rest })
  unfolding first_at
  first_value n rest v negative e small value sign =
      ap (λ w. w >>= first_of last neg) (ap (λ b. word_at b l) (sym is) ∙ e) ∙ rw (small, value, sign) refl

  pub first_large : (n : ℕ) (rest : List Bool) → word_at b l ≡ Ok (n, rest) → is_small (last +ℤ turned neg (unfolded n)) ≡ false → first_at last neg code l ≡ Err level_range
  unfolding first_at
  first_large n rest e large =
      ap (λ w. w >>= first_of last neg) (ap (λ b. word_at b l) (sym is) ∙ e) ∙ rw large refl

  pub first_err : (f : Fault) → word_at b l ≡ Err f → first_at last neg code l ≡ Err f
  unfolding first_at
  first_err f e = ap (λ w. w >>= first_of last neg) (ap (λ b. word_at b l) (sym is) ∙ e)

  pub first_fault : (f : CoeffFault) → IsFault f (word_at b l) → IsFault f (first_at last neg code l)
  first_fault faults.Codeword h = first_err codeword h
  first_fault faults.RunPast h = first_err run_past h
  first_fault faults.LevelRange h = first_err level_range h
  first_fault faults.Failed h = tt

pub fault_is : {A : Type 0} (f : CoeffFault) (found : Result A Fault) → f ≡ faults.LevelRange → found ≡ Err level_range → IsFault f found
fault_is {A} f found e h = subst (λ f. IsFault f found) (sym e) h

-- an error of a sub-parser is the parser's error
pub fault_whole : {A B : Type 0} (f : CoeffFault) (part : Result A Fault) (whole : Result B Fault) → ((x : Fault) → part ≡ Err x → whole ≡ Err x) → IsFault f part → IsFault f whole
fault_whole faults.Codeword part whole h e = h codeword e
fault_whole faults.RunPast part whole h e = h run_past e
fault_whole faults.LevelRange part whole h e = h level_range e
fault_whole faults.Failed part whole h e = tt

-- ---- a list of DC coefficients

-- coefficients that were read before, and what is still read
abbrev pub with_front : List ℤ → Result (List ℤ × List Bool) Fault → Result (List ℤ × List Bool) Fault
with_front front read = read >>= λ ds. Ok (front ++ ds.0, ds.1)

pub with_front-more : (front : List ℤ) (d : ℤ) (read : Result (List ℤ × List Bool) Fault) → with_front front (with_first d read) ≡ with_front (front ++ d ∷ []) read
with_front-more front d (Ok x) = ap (λ (l : List ℤ). (let r : Result (List ℤ × List Bool) Fault = Ok (l, x.1) in r)) (sym (append_assoc front (d ∷ []) x.0))
with_front-more front d (Err e) = refl

pub with_front-one : (d : ℤ) (read : Result (List ℤ × List Bool) Fault) → with_first d read ≡ with_front (d ∷ []) read
with_front-one d (Ok x) = refl
with_front-one d (Err e) = refl

pub firsts_more : (k m : ℕ) (last : ℤ) (neg : Bool) (code : ℕ) (l : List Bool) (d : First) → m ≡ suc k → first_at last neg code l ≡ Ok d →
    firsts_at m last neg code l ≡ with_first d.value (firsts_at k d.value d.negative d.code d.rest)
firsts_more k m last neg code l d is e = ap (λ m. firsts_at m last neg code l) is ∙ ap (λ r. r >>= λ d. firsts_at k d.value d.negative d.code d.rest >>= λ ds. Ok (d.value ∷ ds.0, ds.1)) e

pub firsts_err : (k m : ℕ) (last : ℤ) (neg : Bool) (code : ℕ) (l : List Bool) (f : Fault) → m ≡ suc k → first_at last neg code l ≡ Err f → firsts_at m last neg code l ≡ Err f
firsts_err k m last neg code l f is e = ap (λ m. firsts_at m last neg code l) is ∙ ap (λ r. r >>= λ d. firsts_at k d.value d.negative d.code d.rest >>= λ ds. Ok (d.value ∷ ds.0, ds.1)) e
