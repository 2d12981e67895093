-- The samples of a block whose values are all 0 but the first.
use Rattle.std.proofs.Common.{◌≡◌, ◌*◌, ◌-◌, ◌^◌, ◌<◌, ℕ, List, neg_ℤ, get_or, replicate, ℤ, pos, ◌*ℤ◌, nat_abs, ap, ◌∙◌, arith}
use Rattle.std.proofs.lemmas.Int.{ints}
use Rattle.std.proofs.lemmas.List.FromFn.{get_or-map-range_with_len}
use Rattle.pw_planes.specs.declared.kinds.Depth.{Depth}
use Rattle.pr_quant.specs.Quantised.{scale_of, dequantised, clipped}
use Rattle.pr_dct.specs.Transform.{rounded, flat}
use Rattle.pr_dct.specs.Shown as clipping
use Rattle.pr_dct.proofs.HalfLemmas.{flat_samples}
use Rattle.pr_coeff.specs.Component.{Block}
use Rattle.pr_frame.specs.Shown.{products, samples_shown, shown_block}

none_times : (m : ℕ) → pos 0 *ℤ pos m ≡ pos 0
none_times m = omega (arith, ints)

no_product : (m : ℕ) → dequantised (pos 0) m ≡ pos 0
no_product m = ap (clipped (neg_ℤ (pos (2 ^ 19))) (pos (2 ^ 19 - 1))) (none_times m)

pub flat_shown : (depth : Depth) (weights : List ℕ) (index : ℕ) (block : Block) (r : ℤ) (s : ℕ) → ((p : ℕ) → p < 64 → 0 < p → get_or block p (pos 0) ≡ pos 0)
    → r ≡ rounded (flat (dequantised (get_or block 0 (pos 0)) (get_or weights 0 0 * scale_of index))) → pos s ≡ clipping.shown depth r
    → replicate 64 s ≡ shown_block depth weights index block
unfolding shown_block
flat_shown depth weights index block r s none e is =
    let d = products weights index block in
    let zero : (p : ℕ) → p < 64 → 0 < p → get_or d p (pos 0) ≡ pos 0 = λ p l some.
    get_or-map-range_with_len (λ p. dequantised (get_or block p (pos 0)) (get_or weights p 0 * scale_of index)) 0 64 p p (pos 0) l (omega arith)
    ∙ ap (λ v. dequantised v (get_or weights p 0 * scale_of index)) (none p l some) ∙ no_product (get_or weights p 0 * scale_of index) in
    ap (replicate 64) (ap nat_abs is) ∙ ap (samples_shown depth) (flat_samples d r zero e)
