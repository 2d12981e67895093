-- The sum of a slice's errors.
use Rattle.std.proofs.Common.{◌≡◌, ℕ, zero, suc, ◌+◌, ◌*◌, ◌^◌, ◌<◌, ◌≤◌, List, length, map, get_or, ℤ, pos, nat_abs, arith, refl, ap, add-one, subst}
use Rattle.std.specs.List.{All, sum, range_with_len}
use Rattle.std.proofs.lemmas.List.Sums.{sum_by-le}
use Rattle.std.proofs.lemmas.List.FromFn.{sum_by-map-range_with_len_more}
use Rattle.pr_quant.specs.Quantised.{distance, quantised, error_of, greatest_coefficient}
use Rattle.pr_quant.specs.Errors.{multipliers, block_error, part_error, HasCoefficients, SliceErrorIsSmall}
use Rattle.pr_quant.proofs.NearestLemmas.{distance-quantised, square_small, error_small}

-- at no multiplier all of the coefficient is lost
any_error : (c : ℤ) (m : ℕ) → nat_abs c ≤ greatest_coefficient → error_of c m < 2 ^ 28
any_error c zero h = square_small (distance c 0 (quantised c 0)) (omega (arith, distance-quantised c 0))
any_error c (suc m) h = error_small c (suc m) (omega arith) h

-- the sum of the squared errors of the first n coefficients of a block
unfoldable pub errors_below : List ℕ → List ℤ → ℕ → ℕ
errors_below ms block n = sum (map (λ p. error_of (get_or block p (pos 0)) (get_or ms p 0)) (range_with_len 0 n))

pub errors_none : (ms : List ℕ) (block : List ℤ) → errors_below ms block 0 ≡ 0
unfolding errors_below
errors_none ms block = refl

pub errors_more : (ms : List ℕ) (block : List ℤ) (n : ℕ) → errors_below ms block (n + 1) ≡ errors_below ms block n + error_of (get_or block n (pos 0)) (get_or ms n 0)
unfolding errors_below
errors_more ms block n = sum_by-map-range_with_len_more (λ (e : ℕ). e) (λ p. error_of (get_or block p (pos 0)) (get_or ms p 0)) 0 n n (omega arith)

pub errors_all : (ms : List ℕ) (block : List ℤ) (n : ℕ) → n ≡ 64 → errors_below ms block n ≡ block_error ms block
unfolding errors_below block_error
errors_all ms block n e = ap (λ k. sum (map (λ p. error_of (get_or block p (pos 0)) (get_or ms p 0)) (range_with_len 0 k))) e

errors_small : (ms : List ℕ) (block : List ℤ) → HasCoefficients block → (n : ℕ) → n ≤ 64 → errors_below ms block n ≤ n * 2 ^ 28
errors_small ms block has zero h = rw (errors_none ms block) (omega arith)
errors_small ms block has (suc n) h =
    let so_far = errors_small ms block has n (omega arith) in
    let one = any_error (get_or block n (pos 0)) (get_or ms n 0) (has n (omega arith)) in
    let next : errors_below ms block (n + 1) ≤ (n + 1) * 2 ^ 28 = omega (arith, so_far, one, errors_more ms block n) in
    subst (λ k. errors_below ms block k ≤ k * 2 ^ 28) (add-one n) next

pub block_error_small : (ms : List ℕ) (block : List ℤ) → HasCoefficients block → block_error ms block ≤ 64 * 2 ^ 28
block_error_small ms block has = let h = errors_small ms block has 64 (omega arith) in omega (arith, h, errors_all ms block 64 refl)

pub part_error_small : (weights : List ℕ) (index : ℕ) (blocks : List (List ℤ)) → All HasCoefficients blocks → part_error weights index blocks ≤ length blocks * (64 * 2 ^ 28)
unfolding part_error
part_error_small weights index blocks has =
    sum_by-le (block_error (multipliers weights index)) (64 * 2 ^ 28) blocks (λ k d l. block_error_small (multipliers weights index) (get_or blocks k d) (has k d l))

pub slice_error_small : SliceErrorIsSmall
slice_error_small weights index y cb cr few a b c =
    omega (arith, few, part_error_small weights.luma index y a, part_error_small weights.chroma index cb b, part_error_small weights.chroma index cr c)
