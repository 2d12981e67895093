-- Bounds of quantised values, errors and components.
use Rattle.std.proofs.Common.{◌≡◌, ℕ, ◌+◌, ◌*◌, ◌-◌, ◌^◌, ◌<◌, ◌≤◌, inl, inr, List, [], ◌∷◌, length, map, take, get_or, ℤ, pos, nat_abs, refl, sym, ap, ◌∙◌, subst, arith}
use Rattle.std.specs.List.{All}
use Rattle.std.proofs.Math.Nat.{mul-le-mul_right}
use Rattle.std.proofs.lemmas.Nat.{mul-le}
use Rattle.std.proofs.lemmas.Bool.{cases_lt, lt-leb, le-leb}
use Rattle.std.proofs.lemmas.List.{get_or-map, get_or-take, get_or_past, length-map}
use Rattle.std.proofs.lemmas.List.Elements.{All-head, All-tail}
use Rattle.std.proofs.lemmas.List.FromFn.{get_or-map-range_with_len, length-map-range_with_len}
use Rattle.pr_dct.specs.Transform.{AreWithin}
use Rattle.pr_quant.specs.Quantised.{scale_of, quantised, greatest_coefficient}
use Rattle.pr_quant.specs.Matrices.{IsWeight}
use Rattle.pr_quant.proofs.NearestLemmas.{quantised_small}
use Rattle.pr_quant.proofs.ErrorLemmas.{part_error_small}
use Rattle.pr_coeff.specs.Component.{AreBlocks, IsScan, component}
use Rattle.pr_coeff.proofs.WholeLemmas.{scan_of as is_scan}
use Rattle.pr_coeff.specs.declared.scan.Scan.TheVariants as scans
use Rattle.pr_frame.specs.Forms.{scan_of}
use Rattle.pw_planes.specs.declared.kinds.Interlace.{Interlace}
use Rattle.pw_planes.specs.declared.kinds.Interlace.TheVariants.{Progressive, TopFirst, BottomFirst}
use Rattle.rate_build.specs.declared.costs.Measure.{Measure}
use Rattle.pr_coeff.proofs.CostLemmas.{component_cost}
use Rattle.pr_coeff.proofs.WovenLemmas.{AllSmall_from}
use Rattle.pr_quant.specs.Errors.{multipliers, part_error}
use Rattle.rate_build.specs.Measures.{quantised_block, quantised_part, measured, all_measured, no_measure, IsSmall, AreSmall, IsFrameMultiplier, IsCoefficientBlock, ArePart}

-- ---- multipliers

scale_range : (index : ℕ) → 1 ≤ index → index ≤ 224 → (1 ≤ scale_of index) × (scale_of index ≤ 512)
scale_range index least most = elim (cases_lt 128 index) [
  | inl h ↦ rw (lt-leb index 128 h) (omega arith, omega arith)
  | inr h ↦ rw (le-leb index 128 h) (least, omega arith)
]

-- a product of a weight and a scale of an index
product_range : (w f : ℕ) → (2 ≤ w) × (w ≤ 63) → (1 ≤ f) × (f ≤ 512) → IsFrameMultiplier (w * f)
product_range w f weight factor = record {
  least = omega (arith, mul-le 2 1 w f weight.0 factor.0);
  most = omega (arith, mul-le w f 63 512 weight.1 factor.1);
}

pub are_multipliers : (weights : List ℕ) (index : ℕ) → length weights ≡ 64 → All IsWeight weights → 1 ≤ index → index ≤ 224 → (p : ℕ) → p < 64 → IsFrameMultiplier (get_or (multipliers weights index) p 0)
unfolding multipliers
are_multipliers weights index whole each least most p h =
    let lt : p < length weights = omega arith in
    subst IsFrameMultiplier (sym (get_or-map (λ (w : ℕ). w * scale_of index) weights p 0 0 lt)) (product_range (get_or weights p 0) (scale_of index) (each p 0 lt) (scale_range index least most))

-- ---- quantised values

pub quantised_whole : (ms : List ℕ) (block : List ℤ) → length (quantised_block ms block) ≡ 64
unfolding quantised_block
quantised_whole ms block = length-map-range_with_len (λ p. quantised (get_or block p (pos 0)) (get_or ms p 0)) 0 64

module _ (ms : List ℕ) (are : (p : ℕ) → p < 64 → IsFrameMultiplier (get_or ms p 0)) where
  pub value_small : (block : List ℤ) → AreWithin greatest_coefficient block → (k : ℕ) → nat_abs (get_or (quantised_block ms block) k (pos 0)) ≤ 8191
  unfolding quantised_block
  value_small block within k = elim (cases_lt k 64) [
    | inl h ↦
        rw (get_or-map-range_with_len (λ p. quantised (get_or block p (pos 0)) (get_or ms p 0)) 0 64 k k (pos 0) h (omega arith))
        ((quantised_small (get_or block k (pos 0)) (get_or ms k 0) (within k h)).0 (are k h).least)
    | inr h ↦ rw (get_or_past (quantised_block ms block) k (pos 0) (omega (arith, length-map-range_with_len (λ p. quantised (get_or block p (pos 0)) (get_or ms p 0)) 0 64))) (omega arith)
  ]

  pub blocks_fit : (blocks : List (List ℤ)) → All IsCoefficientBlock blocks → AreBlocks (map (quantised_block ms) blocks)
  blocks_fit [] each = tt
  blocks_fit (b ∷ blocks) each =
      let small = value_small b (All-head IsCoefficientBlock b blocks each).within in
      (quantised_whole ms b, AllSmall_from (quantised_block ms b) (λ k l. omega (arith, small k)), blocks_fit blocks (All-tail IsCoefficientBlock b blocks each))

  pub values_small : (blocks : List (List ℤ)) → All IsCoefficientBlock blocks → (i place : ℕ) → nat_abs (get_or (get_or (map (quantised_block ms) blocks) i []) place (pos 0)) ≤ 8191
  values_small blocks each i place = elim (cases_lt i (length blocks)) [
    | inl h ↦ rw (get_or-map (quantised_block ms) blocks i [] [] h) (value_small (get_or blocks i []) (each i [] h).within place)
    | inr h ↦ rw (get_or_past (map (quantised_block ms) blocks) i [] (omega (arith, length-map blocks (quantised_block ms)))) (omega arith)
  ]

-- ---- parts

module _ (weights : List ℕ) (index : ℕ) (whole : length weights ≡ 64) (range : All IsWeight weights) (from : 1 ≤ index) (to : index ≤ 224) where
  pub part_error_within : (blocks : List (List ℤ)) → ArePart blocks → part_error weights index blocks ≤ 2 ^ 39
  part_error_within blocks are =
      omega (arith, part_error_small weights index blocks (λ k d l. (are.each k d l).within), are.few, mul-le-mul_right (64 * 2 ^ 28) are.few)

  -- the bytes of a part
  pub part_short : (scan : List ℕ) → IsScan scan → (blocks : List (List ℤ)) → ArePart blocks → length (component scan (quantised_part weights index blocks)) ≤ 14080
  unfolding quantised_part
  part_short scan is blocks are =
      let q = quantised_block (multipliers weights index) in
      let n = length-map blocks q in
      let small = values_small (multipliers weights index) (are_multipliers weights index whole range from to) blocks are.each in
      let cost = component_cost 13 scan (map q blocks) is (omega arith) (omega (arith, n, are.few)) (λ i p. omega (arith, small i p)) in
      omega (arith, cost, n, are.few)

-- ---- measures

pub measures_small : (scan weights : List ℕ) (blocks : List (List ℤ)) (lo hi : ℕ) (measures : List Measure) → IsScan scan → length weights ≡ 64 → All IsWeight weights → ArePart blocks → 1 ≤ lo → hi ≤ 224
    → take (hi + 1 - lo) measures ≡ all_measured scan weights blocks lo hi → AreSmall measures (hi + 1 - lo)
measures_small scan weights blocks lo hi measures is whole range are from to e k h =
    let n = hi + 1 - lo in
    let at : get_or measures k no_measure ≡ measured scan weights blocks (lo + k) =
    sym (get_or-take n measures k no_measure h) ∙ ap (λ ms. get_or ms k no_measure) e
    ∙ get_or-map-range_with_len (measured scan weights blocks) lo n k (lo + k) no_measure h refl in
    subst IsSmall (sym at) (record {
      bytes = part_short weights (lo + k) whole range (omega arith) (omega arith) scan is blocks are;
      error = part_error_within weights (lo + k) whole range (omega arith) (omega arith) blocks are;
    })
