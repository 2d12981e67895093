-- The gains of the states are the squares of the coefficients minus their errors.
use Rattle.std.proofs.Common.{◌≡◌, ℕ, zero, suc, ◌+◌, ◌*◌, ◌<◌, ◌≤◌, inl, inr, List, [], ◌∷◌, length, map, get_or, ℤ, pos, nat_abs, refl, sym, ap, ◌∙◌, arith}
use Rattle.std.specs.List.{sum, sum_by, range_with_len}
use Rattle.std.proofs.lemmas.Bool.{cases_lt}
use Rattle.std.proofs.lemmas.List.{get_or-map}
use Rattle.std.proofs.lemmas.List.Sums.{sum_by-cons}
use Rattle.pr_quant.specs.Quantised.{scale_of, error_of}
use Rattle.pr_quant.specs.Turns.{gain_of}
use Rattle.pr_quant.proofs.NearestLemmas.{abs-quantised}
use Rattle.pr_quant.proofs.TurnLemmas.{rests}
use Rattle.pr_coeff.specs.Component.{places, IsScan}
use Rattle.pr_coeff.specs.declared.scan.Scan.{Scan}
use Rattle.pr_coeff.specs.declared.scan.Scan.TheVariants.{Progressive, Interlaced}
use Rattle.rate_build.specs.declared.walk.State.{State}
use Rattle.pr_quant.specs.Errors.{multipliers, block_error, part_error}
use Rattle.rate_build.specs.inner.Walk.{start_state, level_at, taken, after_value, after_blocks, after_places, size_at, sum_blocks, squares_at, squares_behind, dc_gain}
use Rattle.rate_build.proofs.Walking.{value_none, value_some}

-- ---- one value

gain_none : (size m : ℕ) → gain_of size 0 m ≡ 0
unfolding gain_of
gain_none size m = omega arith

taken_gain : (place level gain : ℕ) (st : State) → (taken place level gain st).gain ≡ st.gain + gain
unfolding taken
taken_gain place level gain st = refl

value_gain : (place size m : ℕ) (st : State) → (after_value place size m st).gain ≡ st.gain + gain_of size (level_at size m) m
value_gain place size m st = elim (cases_lt 0 (level_at size m)) [
  | inl h ↦ ap (λ (s : State). s.gain) (value_some place size m st h) ∙ taken_gain place (level_at size m) (gain_of size (level_at size m) m) st
  | inr h ↦
      let none : level_at size m ≡ 0 = omega arith in
      omega (arith, ap (λ (s : State). s.gain) (value_none place size m st none), ap (λ l. gain_of size l m) none, gain_none size m)
]

-- the error of a coefficient of a block
abbrev pub error_at : List (List ℤ) → ℕ → ℕ → ℕ → ℕ
error_at blocks p m i = error_of (get_or (get_or blocks i []) p (pos 0)) m

rest_at : (blocks : List (List ℤ)) (p m i : ℕ) → 0 < m → error_at blocks p m i + gain_of (size_at blocks i p) (level_at (size_at blocks i p) m) m ≡ size_at blocks i p * size_at blocks i p
unfolding size_at level_at
rest_at blocks p m i some =
    let c = get_or (get_or blocks i []) p (pos 0) in
    ap (λ l. error_of c m + gain_of (nat_abs c) l m) (sym (abs-quantised c m)) ∙ rests c m some

-- ---- sums

blocks_gain : (blocks : List (List ℤ)) (p m from i : ℕ) (st : State) → 0 < m → (after_blocks blocks p m from i st).gain + sum_blocks (error_at blocks p m) i ≡ st.gain + squares_at blocks p i
unfolding after_blocks sum_blocks squares_at
blocks_gain blocks p m from zero st some = refl
blocks_gain blocks p m from (suc i) st some =
    omega (arith, blocks_gain blocks p m from i st some, value_gain (from + i) (size_at blocks i p) m (after_blocks blocks p m from i st), rest_at blocks p m i some)

dcs_gain : (blocks : List (List ℤ)) (m i : ℕ) → 0 < m → dc_gain blocks m i + sum_blocks (error_at blocks 0 m) i ≡ squares_at blocks 0 i
unfolding dc_gain sum_blocks squares_at
dcs_gain blocks m zero some = refl
dcs_gain blocks m (suc i) some = omega (arith, dcs_gain blocks m i some, rest_at blocks 0 m i some)

sum_both : (f g : ℕ → ℕ) (n : ℕ) → sum_blocks (λ i. f i + g i) n ≡ sum_blocks f n + sum_blocks g n
unfolding sum_blocks
sum_both f g zero = refl
sum_both f g (suc n) = omega (arith, sum_both f g n)

sum_nothing : (n : ℕ) → sum_blocks (λ i. 0) n ≡ 0
unfolding sum_blocks
sum_nothing zero = refl
sum_nothing (suc n) = omega (arith, sum_nothing n)

sum_same : (f g : ℕ → ℕ) (n : ℕ) → ((i : ℕ) → f i ≡ g i) → sum_blocks f n ≡ sum_blocks g n
unfolding sum_blocks
sum_same f g zero h = refl
sum_same f g (suc n) h = omega (arith, sum_same f g n h, h n)

-- position by position or block by block
turned_sum : (e : ℕ → ℕ → ℕ) (ps : List ℕ) (n : ℕ) → sum (map (λ p. sum_blocks (e p) n) ps) ≡ sum_blocks (λ i. sum (map (λ p. e p i) ps)) n
turned_sum e [] n = sym (sum_nothing n)
turned_sum e (p ∷ ps) n =
    omega (
      arith,
      sum_by-cons (λ (k : ℕ). k) (sum_blocks (e p) n) (map (λ p. sum_blocks (e p) n) ps),
      turned_sum e ps n,
      sum_both (e p) (λ i. sum (map (λ p. e p i) ps)) n,
      sum_same (λ i. sum (map (λ p. e p i) (p ∷ ps))) (λ i. e p i + sum (map (λ p. e p i) ps)) n (λ i. sum_by-cons (λ (k : ℕ). k) (e p i) (map (λ p. e p i) ps)),
    )

sum_first : (f : ℕ → ℕ) (n : ℕ) → sum_blocks f (suc n) ≡ f 0 + sum_blocks (λ i. f (suc i)) n
unfolding sum_blocks
sum_first f zero = omega arith
sum_first f (suc n) = omega (arith, sum_first f n)

sum_zero : (f : ℕ → ℕ) → sum_blocks f 0 ≡ 0
unfolding sum_blocks
sum_zero f = refl

sum_listed : (g : List ℤ → ℕ) (blocks : List (List ℤ)) → sum_blocks (λ i. g (get_or blocks i [])) (length blocks) ≡ sum_by g blocks
sum_listed g [] = sum_zero (λ i. g [])
sum_listed g (b ∷ blocks) = omega (arith, sum_first (λ i. g (get_or (b ∷ blocks) i [])) (length blocks), sum_listed g blocks, sum_by-cons g b blocks)

-- the positions of a scan are all positions
all_places : (scan : Scan) (f : ℕ → ℕ) → sum_blocks (λ k. f (get_or (places scan) (k + 1) 0)) 63 + f 0 ≡ sum (map f (range_with_len 0 64))
unfolding sum_blocks
all_places Progressive f = omega arith
all_places Interlaced f = omega arith

module _ (weights : List ℕ) (blocks : List (List ℤ)) (index : ℕ) (whole : length weights ≡ 64) (some : (p : ℕ) → p < 64 → 0 < get_or weights p 0 * scale_of index) where
  abbrev ms : List ℕ
  ms = multipliers weights index

  multiplier_at : (p : ℕ) → p < 64 → get_or weights p 0 * scale_of index ≡ get_or ms p 0
  unfolding multipliers
  multiplier_at p h = sym (get_or-map (λ (w : ℕ). w * scale_of index) weights p 0 0 (omega arith))

  -- the errors of all blocks at a position
  abbrev errors : ℕ → ℕ
  errors p = sum_blocks (error_at blocks p (get_or ms p 0)) (length blocks)

  places_gain : (scan : List ℕ) (k : ℕ) → IsScan scan → k ≤ 63
      → (after_places scan weights blocks (scale_of index) k start_state).gain + sum_blocks (λ k. errors (get_or scan (k + 1) 0)) k ≡ squares_behind scan blocks k
  unfolding after_places sum_blocks squares_behind
  places_gain scan zero is le = refl
  places_gain scan (suc k) is le =
      let p = get_or scan (k + 1) 0 in
      let m = get_or weights p 0 * scale_of index in
      let inside = (is.places (k + 1) (omega arith)).0 in
      let st = after_places scan weights blocks (scale_of index) k start_state in
      let same : sum_blocks (error_at blocks p m) (length blocks) ≡ errors p = ap (λ m. sum_blocks (error_at blocks p m) (length blocks)) (multiplier_at p inside) in
      omega (arith, places_gain scan k is (omega arith), same, blocks_gain blocks p m (k * length blocks) (length blocks) st (some p inside))

  part_is : sum (map errors (range_with_len 0 64)) ≡ part_error weights index blocks
  unfolding part_error block_error
  part_is = turned_sum (λ p i. error_at blocks p (get_or ms p 0) i) (range_with_len 0 64) (length blocks) ∙ sum_listed (block_error ms) blocks

  -- the gains of all coefficients and their errors add up to their squares
  pub part_gain : (scan : Scan) → IsScan (places scan) → (after_places (places scan) weights blocks (scale_of index) 63 start_state).gain + dc_gain blocks (get_or weights 0 0 * scale_of index) (length blocks) + part_error weights index blocks
      ≡ squares_behind (places scan) blocks 63 + squares_at blocks 0 (length blocks)
  part_gain scan is =
      let m = get_or weights 0 0 * scale_of index in
      let same : sum_blocks (error_at blocks 0 m) (length blocks) ≡ errors 0 = ap (λ m. sum_blocks (error_at blocks 0 m) (length blocks)) (multiplier_at 0 (omega arith)) in
      omega (arith, places_gain (places scan) 63 is (omega arith), dcs_gain blocks m (length blocks) (some 0 (omega arith)), same, all_places scan errors, part_is)
