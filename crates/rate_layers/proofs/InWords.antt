-- Marks in 64-bit words.
use Rattle.std.proofs.Common.{◌≡◌, ℕ, zero, suc, ◌*◌, ◌/◌, ◌%◌, ◌^◌, ◌<◌, ◌≤◌, List, [], ◌∷◌, ◌++◌, length, get_or, set, replicate, Bool, true, false, eqb, bit_or, refl, sym, ap, ◌∙◌, arith, ⊎_elim}
use Rattle.std.specs.Int.{bit_at, w64}
use Rattle.std.proofs.Math.Nat.{div-lt_iff_lt-mul}
use Rattle.std.proofs.lemmas.List.{get_or-set_same, get_or-set_other, get_or-replicate, length-replicate, length-set}
use Rattle.std.proofs.lemmas.List.FromFn.{length-map-range_with_len, get_or-map-range_with_len, fill_by_all}
use Rattle.std.proofs.lemmas.Nat.Bits.{bit_at-zero, bit_at_set_same, bit_at_set_other}
use Rattle.std.proofs.lemmas.Bool.{cases_eq}
use Rattle.rate_layers.specs.inner.Bits.{is_set, marks_in}

module _ (words : List ℕ) (count : ℕ) where
  pub marks_length : length (marks_in words count) ≡ count
  unfolding marks_in
  marks_length = length-map-range_with_len (is_set words) 0 count

  pub mark_at : (i : ℕ) (d : Bool) → i < count → get_or (marks_in words count) i d ≡ is_set words i
  unfolding marks_in
  mark_at i d n = get_or-map-range_with_len (is_set words) 0 count i i d n (omega arith)

  -- a word has the mark
  pub has_word : (i : ℕ) → i < count → count ≤ length words * 64 → i / 64 < length words
  has_word i n w = (div-lt_iff_lt-mul (omega arith)).1 (omega arith)

  -- the marks after a bit was set
  module _ (i word : ℕ) (n : i < count) (w : count ≤ length words * 64) (is : word ≡ get_or words (i / 64) 0) where
    new : ℕ
    new = bit_or word (1 * 2 ^ (i % 64) % 2 ^ 64)

    with_bit : List ℕ
    with_bit = set words (i / 64) new

    each : (k : ℕ) → k < count → get_or (set (marks_in words count) i true) k false ≡ is_set with_bit k
    unfolding new with_bit
    each k m = ⊎_elim (λ e. here e) (λ e. there e) (cases_eq k i)
      where
        low : (j : ℕ) → j % 64 < 64
        low j = omega arith

        -- the word of a mark
        same_word : k / 64 ≡ i / 64 → get_or (set words (i / 64) new) (k / 64) 0 ≡ new
        same_word e = ap (λ j. get_or (set words (i / 64) new) j 0) e ∙ get_or-set_same words (i / 64) new 0 (has_word i n w)

        here : k ≡ i → get_or (set (marks_in words count) i true) k false ≡ is_set (set words (i / 64) new) k
        here e =
            ap (λ j. get_or (set (marks_in words count) i true) j false) e
            ∙ get_or-set_same (marks_in words count) i true false (omega (arith, marks_length))
            ∙ sym (ap (λ v. eqb (bit_at v (k % 64)) 1) (same_word (ap (λ j. j / 64) e))
            ∙ ap (λ j. eqb (bit_at new (j % 64)) 1) e
            ∙ ap (λ b. eqb b 1) (bit_at_set_same w64 word (i % 64) (low i)))

        there : (k ≡ i → ⊥) → get_or (set (marks_in words count) i true) k false ≡ is_set (set words (i / 64) new) k
        there e =
            get_or-set_other (marks_in words count) i k true false e ∙ mark_at k false m
            ∙ sym (⊎_elim
            (λ s. ap (λ v. eqb (bit_at v (k % 64)) 1) (same_word s)
            ∙ ap (λ b. eqb b 1) (bit_at_set_other w64 word (i % 64) (low i) (k % 64) (λ f. e (omega (arith, s, f))))
            ∙ ap (λ v. eqb (bit_at v (k % 64)) 1) (is ∙ ap (λ j. get_or words j 0) (sym s)))
            (λ s. ap (λ v. eqb (bit_at v (k % 64)) 1) (get_or-set_other words (i / 64) (k / 64) new 0 s))
            (cases_eq (k / 64) (i / 64)))

    pub set_one : marks_in (set words (i / 64) (bit_or word (1 * 2 ^ (i % 64) % 2 ^ 64))) count ≡ set (marks_in words count) i true
    unfolding marks_in new with_bit
    set_one = sym (fill_by_all (is_set with_bit) (set (marks_in words count) i true) count false (length-set (marks_in words count) i true ∙ marks_length) each)

-- no mark is set in zero words
pub none_set : (size count : ℕ) → count ≤ size * 64 → marks_in (replicate size 0) count ≡ replicate count false
unfolding marks_in
none_set size count w = sym (fill_by_all (is_set (replicate size 0)) (replicate count false) count false (length-replicate count false)
    (λ k n. get_or-replicate count k false false n
    ∙ sym (ap (λ v. eqb (bit_at v (k % 64)) 1) (get_or-replicate size (k / 64) 0 0 ((div-lt_iff_lt-mul (omega arith)).1 (omega arith)))
    ∙ ap (λ b. eqb b 1) (bit_at-zero (k % 64)))))

pub last_set : (n : ℕ) → set (replicate (suc n) false) n true ≡ replicate n false ++ true ∷ []
last_set zero = refl
last_set (suc n) = ap (λ l. false ∷ l) (last_set n)
