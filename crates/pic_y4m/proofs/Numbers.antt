-- Reading numbers: the test for digits, and its meaning.
use Rattle.std.proofs.Common.{◌≡◌, ℕ, ◌^◌, ◌<◌, ◌≤◌, true, ◌&&◌, ltb, leb, List, [], ◌∷◌, length, Some, None, refl, sym, ap, arith, ⊎_elim}
use Rattle.std.proofs.lemmas.Bool.{ltb-true, ltb-false, lt-ltb, leb-true, le-leb, and_parts, cases_Bool}
use Rattle.std.specs.Char.{digit_value}
use Rattle.std.specs.Str.Parse.{digits_value, AllDigits}
use Rattle.pw_text.specs.Decimal.{IsDecimal}
use Rattle.pic_y4m.specs.Values.{all_digits, when_within, number_within}

pub digits-tested : (bs : List ℕ) → AllDigits 10 bs → all_digits bs ≡ true
digits-tested [] h = refl
digits-tested (b ∷ bs) h = rw (lt-ltb (digit_value b) 10 h.0) (digits-tested bs h.1)

pub tested-digits : (bs : List ℕ) → all_digits bs ≡ true → AllDigits 10 bs
tested-digits [] h = tt
tested-digits (b ∷ bs) h = let p = and_parts _ _ h in (ltb-true _ _ p.0, tested-digits bs p.1)

-- a number that is read is the one that the bytes spell
pub number-read : (low high : ℕ) (bs : List ℕ) (n : ℕ) → IsDecimal bs → n ≡ digits_value 10 bs → number_within low high bs ≡ when_within low high n
unfolding number_within
number-read low high bs n d e =
    let some : ltb 0 (length bs) ≡ true = lt-ltb 0 (length bs) d.some in
    let digits : all_digits bs ≡ true = digits-tested bs d.digits in
    rw (some, digits) (ap (when_within low high) (sym e))

pub within-inside : (low high n : ℕ) → low ≤ n → n ≤ high → when_within low high n ≡ Some n
within-inside low high n a b = rw (le-leb low n a, le-leb n high b) refl

pub within-above : (low high n : ℕ) → high < n → when_within low high n ≡ None
within-above low high n a = ⊎_elim (λ t. let m : n ≤ high = leb-true n high (and_parts (leb low n) (leb n high) t).1 in absurd (omega arith)) (λ f. rw f refl) (cases_Bool (leb low n && leb n high))

pub within-below : (low high n : ℕ) → n < low → when_within low high n ≡ None
within-below low high n a = ⊎_elim (λ t. let m : low ≤ n = leb-true low n (and_parts (leb low n) (leb n high) t).0 in absurd (omega arith)) (λ f. rw f refl) (cases_Bool (leb low n && leb n high))

-- if no number is read, none is within limits below 2^64
pub number-unread : (low high : ℕ) (bs : List ℕ) → high < 2 ^ 64 → (IsDecimal bs → ⊥) → number_within low high bs ≡ None
unfolding number_within
number-unread low high bs lt none =
    ⊎_elim
    (λ yes. let p = and_parts (ltb 0 (length bs)) (all_digits bs) yes in
    let big : high < digits_value 10 bs = large (ltb-true _ _ p.0) (tested-digits bs p.1) in
    rw (p.0, p.1) (within-above low high (digits_value 10 bs) big))
    (λ no. rw no refl)
    (cases_Bool (ltb 0 (length bs) && all_digits bs))
  where
    large : 0 < length bs → AllDigits 10 bs → high < digits_value 10 bs
    large some digits = ⊎_elim
        (λ t. absurd (none (record { some = some; digits = digits; small = ltb-true _ _ t })))
        (λ f. let ge = ltb-false _ _ f in omega arith)
        (cases_Bool (ltb (digits_value 10 bs) (2 ^ 64)))
