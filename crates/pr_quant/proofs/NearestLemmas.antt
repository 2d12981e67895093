-- The nearest multiple from a division.
use Rattle.std.proofs.Common.{◌≡◌, ℕ, suc, ◌+◌, ◌-◌, ◌*◌, ◌/◌, ◌%◌, ◌^◌, ◌<◌, ◌≤◌, inl, inr, ℤ, pos, negsuc, ◌-ℤ◌, neg_ℤ, nat_abs, to_z, of_z, w32, true, false, ap, sym, ◌∙◌, subst, arith, rules, lit≤}
use Rattle.std.proofs.lemmas.Int.{ints}
use Rattle.std.specs.Int.{abs_diff}
use Rattle.std.proofs.lemmas.Bool.{cases_lt, lt-ltb, le-ltb}
use Rattle.std.proofs.lemmas.Nat.{mul-le}
use Rattle.std.proofs.Math.IntN.{neg_ℤ-neg_ℤ}
use borrow.Author.Differences.{neg_is, product_is}
use lib.Signed.{lt_z}
use Rattle.pr_quant.specs.Quantised.{distance, IsNearest, nearest_quotient, quantised, squared, error_of, greatest_coefficient}

-- k times m is within half of m of a, and below it where both halves are alike
pub record IsWithinHalf (a m k : ℕ) : Type 0 where
  pub low : 2 * (m * k) + 1 ≤ 2 * a + m
  pub high : 2 * a < 2 * (m * k) + m + 1

rounds_up : (a m : ℕ) → 0 < m → m < 2 * (a % m) → IsWithinHalf a m (a / m + 1)
rounds_up a m h more = record { low = omega arith; high = omega arith }

rounds_down : (a m : ℕ) → 0 < m → 2 * (a % m) ≤ m → IsWithinHalf a m (a / m)
rounds_down a m h less = record { low = omega arith; high = omega arith }

pub quotient_within : (a m : ℕ) → 0 < m → IsWithinHalf a m (nearest_quotient a m)
quotient_within a m h = elim (cases_lt m (2 * (a % m))) [
  | inl more ↦ rw (lt-ltb m (2 * (a % m)) more) (rounds_up a m h more)
  | inr less ↦ rw (le-ltb m (2 * (a % m)) less) (rounds_down a m h less)
]

-- the one division of the code
pub division_within : (a m : ℕ) → 0 < m → IsWithinHalf a m ((2 * a + m - 1) / (2 * m))
division_within a m h = record { low = omega arith; high = omega arith }

pub within_once : (a m j k : ℕ) → IsWithinHalf a m j → IsWithinHalf a m k → j ≡ k
within_once a m j k f g = elim (cases_lt j k) [
  | inl lt ↦ let e : m * (j + 1) ≤ m * k = mul-le m (j + 1) m k (omega arith) (omega arith) in absurd (omega arith)
  | inr le ↦ elim (cases_lt k j) [
    | inl lt ↦ let e : m * (k + 1) ≤ m * j = mul-le m (k + 1) m j (omega arith) (omega arith) in absurd (omega arith)
    | inr ge ↦ omega arith
  ]
]

pub division_is : (a m : ℕ) → 0 < m → (2 * a + m - 1) / (2 * m) ≡ nearest_quotient a m
division_is a m h = within_once a m _ _ (division_within a m h) (quotient_within a m h)

-- how far two natural numbers are apart
abbrev pub apart : ℕ → ℕ → ℕ
apart a b = (a - b) + (b - a)

-- a natural number and its nearest multiple k times m, against any j times m
closest : (a m k j : ℕ) → 0 < m → IsWithinHalf a m k →
    (apart a (m * k) ≤ apart a (m * j)) × (apart a (m * k) ≡ apart a (m * j) → k ≤ j)
closest a m k j h w = elim (cases_lt j k) [
  | inl lt ↦ let f : m * (j + 1) ≤ m * k = mul-le m (j + 1) m k (omega arith) (omega arith) in
      (omega arith, λ e. absurd (omega arith))
  | inr le ↦ elim (cases_lt k j) [
    | inl lt ↦ let f : m * (k + 1) ≤ m * j = mul-le m (k + 1) m j (omega arith) (omega arith) in (omega arith, λ e. omega arith)
    | inr ge ↦ let e : j ≡ k = omega arith in (omega (arith, ap (λ n. m * n) e), λ _. omega arith)
  ]
]

distance-pos : (a m j : ℕ) → distance (pos a) m (pos j) ≡ apart a (m * j)
distance-pos a m j = omega (arith, ints)

distance-negsuc : (a m j : ℕ) → distance (pos a) m (negsuc j) ≡ a + m * suc j
distance-negsuc a m j = omega (arith, ints)

nearest_pos : (a m k : ℕ) → 0 < m → IsWithinHalf a m k → (p : ℤ) →
    (distance (pos a) m (pos k) ≤ distance (pos a) m p) × (distance (pos a) m (pos k) ≡ distance (pos a) m p → nat_abs (pos k) ≤ nat_abs p)
nearest_pos a m k h w (pos j) = rw (distance-pos a m k, distance-pos a m j) (closest a m k j h w)
nearest_pos a m k h w (negsuc j) =
    let g : m * 1 ≤ m * suc j = mul-le m 1 m (suc j) (omega arith) (omega arith) in
    rw (distance-pos a m k, distance-negsuc a m j) (omega arith, λ e. absurd (omega arith))

IsNearest-pos : (a m k : ℕ) → 0 < m → IsWithinHalf a m k → IsNearest (pos a) m (pos k)
IsNearest-pos a m k h w = record {
  nearest = λ p. (nearest_pos a m k h w p).0;
  smaller = λ p. (nearest_pos a m k h w p).1;
}

-- a number and its multiples with the other sign
distance-neg : (c : ℤ) (m : ℕ) (q : ℤ) → distance (neg_ℤ c) m (neg_ℤ q) ≡ distance c m q
distance-neg c m q =
    let n = neg_is q in
    omega (arith, ints, ap (λ (x : ℕ). x * m) n.0, ap (λ (x : ℕ). x * m) n.1, product_is q (pos m), product_is (neg_ℤ q) (pos m))

abs-neg : (q : ℤ) → nat_abs (neg_ℤ q) ≡ nat_abs q
abs-neg q = omega (arith, ints)

IsNearest-neg : (c : ℤ) (m : ℕ) (q : ℤ) → IsNearest c m q → IsNearest (neg_ℤ c) m (neg_ℤ q)
IsNearest-neg c m q f =
    let other : (p : ℤ) → distance c m (neg_ℤ p) ≡ distance (neg_ℤ c) m p = λ p. sym (distance-neg c m (neg_ℤ p)) ∙ ap (distance (neg_ℤ c) m) (neg_ℤ-neg_ℤ p) in record {
      nearest = λ p. rw (distance-neg c m q, ← other p) (f.nearest (neg_ℤ p));
      smaller = λ p e. rw (abs-neg q, ← abs-neg p) (f.smaller (neg_ℤ p) (sym (distance-neg c m q) ∙ e ∙ sym (other p)));
    }

pub quantised_nearest : (c : ℤ) (m : ℕ) → 0 < m → IsNearest c m (quantised c m)
unfolding quantised
quantised_nearest (pos a) m h = IsNearest-pos a m (nearest_quotient a m) h (quotient_within a m h)
quantised_nearest (negsuc a) m h =
    let k = nearest_quotient (suc a) m in IsNearest-neg (pos (suc a)) m (pos k) (IsNearest-pos (suc a) m k h (quotient_within (suc a) m h))

both_ways : (c : ℤ) (m b : ℕ) → 0 < m → distance c m (pos (suc b)) ≤ distance c m (pos 0) → distance c m (negsuc b) ≤ distance c m (pos 0) → ⊥
both_ways c m b h f g =
    let k : m * 1 ≤ m * suc b = mul-le m 1 m (suc b) (omega arith) (omega arith) in omega (arith, ints)

not_both : (c : ℤ) (m a b : ℕ) → 0 < m → IsNearest c m (pos a) → IsNearest c m (negsuc b) → ⊥
not_both c m a b h f g =
    let e : distance c m (pos a) ≡ distance c m (negsuc b) = omega (arith, f.nearest (negsuc b), g.nearest (pos a)) in
    let s : a ≡ suc b = omega (arith, f.smaller (negsuc b) e, g.smaller (pos a) (sym e)) in
    both_ways c m b h (subst (λ x. distance c m (pos x) ≤ distance c m (pos 0)) s (f.nearest (pos 0))) (g.nearest (pos 0))

-- there is one nearest multiple
pub one_nearest : (c : ℤ) (m : ℕ) (p q : ℤ) → 0 < m → IsNearest c m p → IsNearest c m q → p ≡ q
one_nearest c m (pos a) (pos b) h f g =
    let e : distance c m (pos a) ≡ distance c m (pos b) = omega (arith, f.nearest (pos b), g.nearest (pos a)) in
    ap pos (omega (arith, f.smaller (pos b) e, g.smaller (pos a) (sym e)))
one_nearest c m (negsuc a) (negsuc b) h f g =
    let e : distance c m (negsuc a) ≡ distance c m (negsuc b) = omega (arith, f.nearest (negsuc b), g.nearest (negsuc a)) in
    ap negsuc (omega (arith, f.smaller (negsuc b) e, g.smaller (negsuc a) (sym e)))
one_nearest c m (pos a) (negsuc b) h f g = absurd (not_both c m a b h f g)
one_nearest c m (negsuc a) (pos b) h f g = absurd (not_both c m b a h g f)

-- a value that is nearest is the quantised one
pub nearest_is : (c : ℤ) (m : ℕ) (q : ℤ) → 0 < m → IsNearest c m q → q ≡ quantised c m
nearest_is c m q h f = one_nearest c m q (quantised c m) h f (quantised_nearest c m h)

-- a quotient is at most its number
pub within_small : (a m k : ℕ) → 0 < m → IsWithinHalf a m k → k ≤ a
within_small a m k h w = elim (cases_lt a k) [
  | inl lt ↦ let f : m * (a + 1) ≤ m * k = mul-le m (a + 1) m k (omega arith) (omega arith) in
      let g : 1 * a ≤ m * a = mul-le 1 a m a (omega arith) (omega arith) in
      absurd (omega arith)
  | inr le ↦ le
]

-- at a multiplier of at least n, a quotient is at most b, where b + 1 would be too far
pub within_bound : (a m k n b : ℕ) → IsWithinHalf a m k → n ≤ m → a ≤ greatest_coefficient → 2 * greatest_coefficient ≤ n * (2 * b + 1) → k ≤ b
within_bound a m k n b w h s t = elim (cases_lt b k) [
  | inl lt ↦ let f : m * (2 * b + 2) ≤ m * (2 * k) = mul-le m (2 * b + 2) m (2 * k) (omega arith) (omega arith) in
      let g : n * (2 * b + 1) ≤ m * (2 * b + 1) = mul-le n (2 * b + 1) m (2 * b + 1) h (omega arith) in
      absurd (omega arith)
  | inr le ↦ le
]

-- the magnitude of a quantised value is the quotient of magnitudes
pub abs-quantised : (c : ℤ) (m : ℕ) → nat_abs (quantised c m) ≡ nearest_quotient (nat_abs c) m
unfolding quantised
abs-quantised (pos a) m = search rules
abs-quantised (negsuc a) m = abs-neg (pos (nearest_quotient (suc a) m))

pub quantised_within : (c : ℤ) (m : ℕ) → 0 < m → IsWithinHalf (nat_abs c) m (nat_abs (quantised c m))
quantised_within c m h = subst (IsWithinHalf (nat_abs c) m) (sym (abs-quantised c m)) (quotient_within (nat_abs c) m h)

pub quantised_small : (c : ℤ) (m : ℕ) → nat_abs c ≤ greatest_coefficient → (2 ≤ m → nat_abs (quantised c m) ≤ 8191) × (4 ≤ m → nat_abs (quantised c m) ≤ 4096)
quantised_small c m s = (
  λ l. within_bound (nat_abs c) m _ 2 8191 (quantised_within c m (omega arith)) l s (lit≤ tt),
  λ l. within_bound (nat_abs c) m _ 4 4096 (quantised_within c m (omega arith)) l s (lit≤ tt),
)

same_sign : (a m k : ℕ) → distance (pos a) m (pos k) ≡ abs_diff a (k * m)
same_sign a m k = omega (arith, ints)

-- a number and its nearest multiple have one sign
pub distance-quantised : (c : ℤ) (m : ℕ) → distance c m (quantised c m) ≡ abs_diff (nat_abs c) (nat_abs (quantised c m) * m)
unfolding quantised
distance-quantised (pos a) m = same_sign a m (nearest_quotient a m)
distance-quantised (negsuc a) m =
    let k = nearest_quotient (suc a) m in
    distance-neg (pos (suc a)) m (pos k) ∙ same_sign (suc a) m k ∙ ap (λ n. abs_diff (suc a) (n * m)) (sym (abs-neg (pos k)))

-- the distance is at most half of the multiplier
pub quantised_half : (c : ℤ) (m : ℕ) → 0 < m → 2 * distance c m (quantised c m) ≤ m
quantised_half c m h =
    let w = quantised_within c m h in omega (arith, distance-quantised c m, w.low, w.high)

-- the distance is at most the number itself
pub quantised_near : (c : ℤ) (m : ℕ) → 0 < m → distance c m (quantised c m) ≤ nat_abs c
quantised_near c m h = omega (arith, ints, (quantised_nearest c m h).nearest (pos 0))

pub product_small : (c : ℤ) (m : ℕ) → 0 < m → nat_abs (quantised c m) * m ≤ 2 * nat_abs c
product_small c m h = omega (arith, distance-quantised c m, quantised_near c m h)

pub square_small : (e : ℕ) → e ≤ greatest_coefficient → squared e < 2 ^ 28
square_small e h = omega (arith, mul-le e e greatest_coefficient greatest_coefficient h h)

pub error_small : (c : ℤ) (m : ℕ) → 0 < m → nat_abs c ≤ greatest_coefficient → error_of c m < 2 ^ 28
error_small c m h s = square_small (distance c m (quantised c m)) (omega (arith, quantised_near c m h))

-- what the code computes
pub machine_below : (c : ℤ) (m u : ℕ) → nat_abs c ≤ greatest_coefficient → 0 < m → u ≡ nat_abs c → lt_z c (pos 0) ≡ true →
    to_z w32 (of_z w32 (pos 0 -ℤ to_z w32 ((2 * u + m - 1) / (2 * m)))) ≡ quantised c m
unfolding quantised
machine_below (pos a) m u s h e l = absurd (omega (arith, ints))
machine_below (negsuc a) m u s h e l =
    let d : (2 * u + m - 1) / (2 * m) ≡ nearest_quotient (suc a) m = ap (λ v. (2 * v + m - 1) / (2 * m)) e ∙ division_is (suc a) m h in
    subst (λ v. to_z w32 (of_z w32 (pos 0 -ℤ to_z w32 v)) ≡ neg_ℤ (pos (nearest_quotient (suc a) m))) (sym d)
    (omega (arith, ints, within_small (suc a) m (nearest_quotient (suc a) m) h (quotient_within (suc a) m h)))

pub machine_above : (c : ℤ) (m u : ℕ) → nat_abs c ≤ greatest_coefficient → 0 < m → u ≡ nat_abs c → lt_z c (pos 0) ≡ false →
    to_z w32 ((2 * u + m - 1) / (2 * m)) ≡ quantised c m
unfolding quantised
machine_above (pos a) m u s h e l =
    let d : (2 * u + m - 1) / (2 * m) ≡ nearest_quotient a m = ap (λ v. (2 * v + m - 1) / (2 * m)) e ∙ division_is a m h in
    subst (λ v. to_z w32 v ≡ pos (nearest_quotient a m)) (sym d) (omega (arith, ints, within_small a m (nearest_quotient a m) h (quotient_within a m h)))
machine_above (negsuc a) m u s h e l = absurd (omega (arith, ints))
