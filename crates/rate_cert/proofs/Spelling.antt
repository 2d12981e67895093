-- A LEB128 number as a loop writes it.
use Rattle.std.proofs.Common.{◌≡◌, ℕ, zero, suc, ◌+◌, ◌-◌, ◌/◌, ◌%◌, ◌^◌, ◌<◌, ◌≤◌, List, [], ◌∷◌, ◌++◌, refl, sym, ap, ◌∙◌, arith, append_assoc}
use Rattle.std.proofs.lemmas.Nat.{div_below}
use Rattle.rate_cert.specs.Numbers.{groups_of, number_bytes, limit}
use Rattle.rate_cert.proofs.Numbered.{groups-last, groups-further}

last-group : (k n : ℕ) → n < 128 → groups_of k n ≡ n ∷ []
unfolding groups_of
last-group zero n lt = refl
last-group (suc k) n lt = groups-last k n lt

-- the last group of the rest completes it
pub spelled-last : (k n : ℕ) (front total : List ℕ) → n < 128 → front ++ groups_of k n ≡ total → front ++ n ∷ [] ≡ total
spelled-last k n front total lt so_far = sym (ap (λ (l : List ℕ). front ++ l) (last-group k n lt)) ∙ so_far

pub spelled-end : (i n : ℕ) (front total : List ℕ) → 9 ≤ i → front ++ groups_of (9 - i) n ≡ total → front ++ n ∷ [] ≡ total
unfolding groups_of
spelled-end i n front total le so_far =
    let k : 9 - i ≡ 0 = omega (arith, le) in
    sym (ap (λ (m : ℕ). front ++ groups_of m n) k) ∙ so_far

-- one group more
pub spelled-more : (i n byte : ℕ) (front total : List ℕ) → i < 9 → 128 ≤ n → byte ≡ 128 + n % 128 → front ++ groups_of (9 - i) n ≡ total → (front ++ byte ∷ []) ++ groups_of (9 - (i + 1)) (n / 128) ≡ total
spelled-more i n byte front total lt le e so_far =
    let k : 9 - i ≡ suc (9 - (i + 1)) = omega (arith, lt) in
    let one : groups_of (9 - i) n ≡ (128 + n % 128) ∷ groups_of (9 - (i + 1)) (n / 128) = ap (λ (m : ℕ). groups_of m n) k ∙ groups-further (9 - (i + 1)) n le in
    append_assoc front (byte ∷ []) (groups_of (9 - (i + 1)) (n / 128))
    ∙ ap (λ (b : ℕ). front ++ b ∷ groups_of (9 - (i + 1)) (n / 128)) e
    ∙ sym (ap (λ (l : List ℕ). front ++ l) one) ∙ so_far

limit-nine : limit 9 ≡ 18446744073709551616
unfolding limit
limit-nine = refl

pub small-first : (n : ℕ) → n < 2 ^ 64 → n < limit (9 - 0)
small-first n lt = omega (arith, lt, limit-nine)

pub small-more : (i n : ℕ) → i < 9 → n < limit (9 - i) → n / 128 < limit (9 - (i + 1))
unfolding limit
small-more i n lt small =
    let k : 9 - i ≡ suc (9 - (i + 1)) = omega (arith, lt) in
    div_below n 128 (limit (9 - (i + 1))) (omega arith) (omega (arith, small, ap limit k))

pub small-last : (i n : ℕ) → 9 ≤ i → n < limit (9 - i) → n < 2
unfolding limit
small-last i n le small = let k : 9 - i ≡ 0 = omega (arith, le) in omega (arith, small, ap limit k)

pub spelled-start : (front : List ℕ) (n : ℕ) → front ++ groups_of (9 - 0) n ≡ front ++ number_bytes n
unfolding number_bytes
spelled-start front n = refl
