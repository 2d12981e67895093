-- A block quantised position by position, and a part block by block.
use Rattle.std.proofs.Common.{◌≡◌, ℕ, ◌+◌, ◌-◌, ◌<◌, ◌≤◌, List, [], length, map, take, get_or, ℤ, pos, nat_abs, set, to_z, of_z, w16, refl, sym, ap, ◌∙◌, subst, arith}
use Rattle.std.specs.List.{sum_by, range_with_len}
use Rattle.std.proofs.lemmas.List.{get_or-map, ext_get_or, length-map, get_or-take, length-take-le}
use Rattle.std.proofs.lemmas.List.Edits.{fill_by_more}
use Rattle.std.proofs.lemmas.List.FromFn.{fill_by_all, get_or-map-range_with_len, length-map-range_with_len}
use Rattle.std.proofs.lemmas.Int.{to_z-of_z, fits_signed_from_abs}
use Rattle.pr_dct.proofs.SumLemmas.{filled_more}
use Rattle.pr_quant.specs.Quantised.{quantised}
use Rattle.pr_coeff.specs.Component.{component}
use Rattle.rate_build.specs.declared.costs.Measure.{Measure}
use Rattle.pr_quant.specs.Errors.{multipliers, block_error, part_error}
use Rattle.rate_build.specs.Measures.{quantised_block, quantised_part, measured, all_measured}

pub block_filled : (ms : List ℕ) (block values : List ℤ) → length values ≡ 64
    → ((k : ℕ) → k < 64 → get_or values k (pos 0) ≡ quantised (get_or block k (pos 0)) (get_or ms k 0)) → values ≡ quantised_block ms block
unfolding quantised_block
block_filled ms block values whole each = fill_by_all (λ p. quantised (get_or block p (pos 0)) (get_or ms p 0)) values 64 (pos 0) whole each

-- blocks that are a prefix of others
pub blocks_filled : (ms : List ℕ) (blocks quantised : List (List ℤ)) → length blocks ≤ length quantised
    → ((k : ℕ) → k < length blocks → get_or quantised k [] ≡ quantised_block ms (get_or blocks k [])) → take (length blocks) quantised ≡ map (quantised_block ms) blocks
blocks_filled ms blocks quantised room each =
    ext_get_or [] (take (length blocks) quantised) (map (quantised_block ms) blocks)
    (length-take-le (length blocks) quantised room ∙ sym (length-map blocks (quantised_block ms)))
    (λ k l. let h : k < length blocks = omega (arith, length-take-le (length blocks) quantised room) in
    get_or-take (length blocks) quantised k [] h ∙ each k h ∙ sym (get_or-map (quantised_block ms) blocks k [] [] h))

pub kept : (v : ℤ) → nat_abs v ≤ 16383 → to_z w16 (of_z w16 v) ≡ v
kept v h = to_z-of_z w16 v (fits_signed_from_abs w16 v (omega (arith, h)))

-- one value more of a block
pub value_more : (ms : List ℕ) (block values : List ℤ) (i : ℕ) (v r : ℤ) → length values ≡ 64 → i < 64 → nat_abs v ≤ 8191 → v ≡ quantised (get_or block i (pos 0)) (get_or ms i 0) → r ≡ to_z w16 (of_z w16 v)
    → ((k : ℕ) → k < i → get_or values k (pos 0) ≡ quantised (get_or block k (pos 0)) (get_or ms k 0))
    → (length (set values i r) ≡ 64) × ((k : ℕ) → k < i + 1 → get_or (set values i r) k (pos 0) ≡ quantised (get_or block k (pos 0)) (get_or ms k 0))
value_more ms block values i v r whole lt small e f before =
    filled_more (λ p. quantised (get_or block p (pos 0)) (get_or ms p 0)) values 64 i r whole lt (f ∙ kept v (omega (arith, small)) ∙ e) before

-- ---- all indices

pub measured_is : (scan weights : List ℕ) (blocks : List (List ℤ)) (index : ℕ) (m : Measure) (ms : List ℕ) → ms ≡ multipliers weights index
    → m.bytes ≡ length (component scan (map (quantised_block ms) blocks)) → m.error ≡ sum_by (block_error ms) blocks → m ≡ measured scan weights blocks index
unfolding quantised_part part_error
measured_is scan weights blocks index m ms is bytes error =
    let b = bytes ∙ ap (λ (ms : List ℕ). length (component scan (map (quantised_block ms) blocks))) is in
    let e = error ∙ ap (λ (ms : List ℕ). sum_by (block_error ms) blocks) is in
    λ j. record { bytes = b j; error = e j }

pub all_filled : (scan weights : List ℕ) (blocks : List (List ℤ)) (lo hi : ℕ) (measures : List Measure) → length measures ≡ hi + 1 - lo
    → ((k : ℕ) → k < length measures → get_or measures k (record { bytes = 0; error = 0 }) ≡ measured scan weights blocks (lo + k)) → measures ≡ all_measured scan weights blocks lo hi
all_filled scan weights blocks lo hi measures whole each =
    let f = measured scan weights blocks in
    let none : Measure = record { bytes = 0; error = 0 } in
    ext_get_or none measures (map f (range_with_len lo (hi + 1 - lo))) (whole ∙ sym (length-map-range_with_len f lo (hi + 1 - lo)))
    (λ k l. each k l ∙ sym (get_or-map-range_with_len f lo (hi + 1 - lo) k (lo + k) none (omega arith) refl))

pub measures_more : (f : ℕ → Measure) (measures : List Measure) (i : ℕ) (m : Measure) → i < length measures → m ≡ f i
    → ((k : ℕ) → k < i → get_or measures k (record { bytes = 0; error = 0 }) ≡ f k)
    → (k : ℕ) → k < i + 1 → get_or (set measures i m) k (record { bytes = 0; error = 0 }) ≡ f k
measures_more f measures i m within e before =
    subst (λ (x : Measure). (k : ℕ) → k < i + 1 → get_or (set measures i x) k (record { bytes = 0; error = 0 }) ≡ f k) (sym e) (fill_by_more f measures i (record { bytes = 0; error = 0 }) within before)
