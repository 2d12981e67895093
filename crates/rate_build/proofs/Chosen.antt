-- Slices coded in order, and what each has.
use Rattle.std.proofs.Common.{◌≡◌, ℕ, zero, suc, ◌+◌, ◌-◌, ◌*◌, ◌<◌, ◌≤◌, List, [], ◌∷◌, ◌++◌, length, map, take, drop, get_or, ℤ, pos, nat_abs, refl, sym, ap, ◌∙◌, subst, arith, length-take-le}
use Rattle.std.specs.List.{All, AllZip}
use Rattle.std.proofs.lemmas.List.{length-map, get_or_default}
use Rattle.std.proofs.lemmas.List.Elements.{All-head, All-tail, All-map}
use Rattle.pr_geom.specs.declared.places.SlicePlace.{SlicePlace}
use Rattle.pr_geom.specs.Layout.{slices_of}
use Rattle.pr_quant.specs.declared.weights.Weights.{Weights}
use Rattle.pr_head.specs.declared.frame.FrameHeader.{FrameHeader}
use Rattle.pr_frame.specs.declared.coded.CodedSlice.{CodedSlice}
use Rattle.pr_frame.specs.Coded.{AreCodedSlices, IsWritableBlock}
use Rattle.rate_build.specs.declared.slices.SliceCoefficients.{SliceCoefficients}
use Rattle.pr_quant.specs.Errors.{multipliers}
use Rattle.rate_build.specs.Measures.{quantised_block, quantised_part, IsFrameMultiplier, IsCoefficientBlock}
use Rattle.rate_build.specs.Coefficients.{FrameCoefficients, IsSliceAt}
use Rattle.rate_build.specs.Coding.{coded_slice, coded_slices, coded_picture, weights_in, IsIndex}
use Rattle.rate_build.proofs.InTurn.{take_more}
use Rattle.rate_build.proofs.Small.{value_small}

-- ---- blocks

pub part_is : (weights : List ℕ) (index : ℕ) (blocks values : List (List ℤ)) (ms : List ℕ) → ms ≡ multipliers weights index → values ≡ map (quantised_block ms) blocks → values ≡ quantised_part weights index blocks
unfolding quantised_part
part_is weights index blocks values ms is e = e ∙ ap (λ (ms : List ℕ). map (quantised_block ms) blocks) is

block_writable : (ms : List ℕ) → ((p : ℕ) → p < 64 → IsFrameMultiplier (get_or ms p 0)) → (block : List ℤ) → IsCoefficientBlock block → IsWritableBlock (quantised_block ms block)
block_writable ms are block is k d l = subst (λ (v : ℤ). nat_abs v ≤ 8191) (get_or_default (quantised_block ms block) k (pos 0) d l) (value_small ms are block is.within k)

pub blocks_writable : (ms : List ℕ) → ((p : ℕ) → p < 64 → IsFrameMultiplier (get_or ms p 0)) → (blocks values : List (List ℤ)) → All IsCoefficientBlock blocks → values ≡ map (quantised_block ms) blocks → All IsWritableBlock values
blocks_writable ms are blocks values each e =
    subst (All IsWritableBlock) (sym e) (All-map IsWritableBlock (quantised_block ms) blocks (λ k d l. block_writable ms are (get_or blocks k d) (each k d l)))

-- ---- slices

coded_push : (w : Weights) (slices : List SliceCoefficients) (choice : List ℕ) (s : SliceCoefficients) (index : ℕ) → length slices ≡ length choice
    → coded_slices w (slices ++ s ∷ []) (choice ++ index ∷ []) ≡ coded_slices w slices choice ++ coded_slice w index s ∷ []
coded_push w [] [] s index e = refl
coded_push w [] (i ∷ choice) s index e = absurd (omega (arith, e))
coded_push w (x ∷ slices) [] s index e = absurd (omega (arith, e))
coded_push w (x ∷ slices) (i ∷ choice) s index e = ap (λ l. coded_slice w i x ∷ l) (coded_push w slices choice s index (omega (arith, e)))

pub coded_more : (w : Weights) (slices : List SliceCoefficients) (choice : List ℕ) (i : ℕ) (s d : SliceCoefficients) (coded : List CodedSlice) (x : CodedSlice) → i < length slices → length choice ≡ length slices
    → s ≡ get_or slices i d → x ≡ coded_slice w (get_or choice i 0) s → coded ≡ coded_slices w (take i slices) (take i choice)
    → coded ++ x ∷ [] ≡ coded_slices w (take (i + 1) slices) (take (i + 1) choice)
coded_more w slices choice i s d coded x within number is made so_far =
    let a = take_more slices i d s within is in
    let b = take_more choice i 0 (get_or choice i 0) (omega (arith, number)) refl in
    let same : length (take i slices) ≡ length (take i choice) = length-take-le i slices (omega arith) ∙ sym (length-take-le i choice (omega (arith, number))) in
    let one : coded ++ x ∷ [] ≡ coded_slices w (take i slices) (take i choice) ++ coded_slice w (get_or choice i 0) s ∷ [] = λ j. so_far j ++ made j ∷ [] in
    one ∙ sym (coded_push w (take i slices) (take i choice) s (get_or choice i 0) same) ∙ sym (λ j. coded_slices w (a j) (b j))

-- the slices from an index on, and the first ones
coded_drop : (w : Weights) (slices : List SliceCoefficients) (choice : List ℕ) (m : ℕ) → length choice ≡ length slices → coded_slices w (drop m slices) (drop m choice) ≡ drop m (coded_slices w slices choice)
coded_drop w slices choice zero e = refl
coded_drop w [] [] (suc m) e = refl
coded_drop w [] (i ∷ choice) (suc m) e = absurd (omega (arith, e))
coded_drop w (s ∷ slices) [] (suc m) e = absurd (omega (arith, e))
coded_drop w (s ∷ slices) (i ∷ choice) (suc m) e = coded_drop w slices choice m (omega (arith, e))

coded_take : (w : Weights) (slices : List SliceCoefficients) (choice : List ℕ) (n : ℕ) → coded_slices w (take n slices) (take n choice) ≡ take n (coded_slices w slices choice)
coded_take w slices choice zero = refl
coded_take w [] choice (suc n) = refl
coded_take w (s ∷ slices) [] (suc n) = refl
coded_take w (s ∷ slices) (i ∷ choice) (suc n) = ap (λ l. coded_slice w i s ∷ l) (coded_take w slices choice n)

pub coded_range : (w : Weights) (slices : List SliceCoefficients) (choice : List ℕ) (m n : ℕ) → length choice ≡ length slices
    → coded_slices w (take n (drop m slices)) (take n (drop m choice)) ≡ take n (drop m (coded_slices w slices choice))
coded_range w slices choice m n e = coded_take w (drop m slices) (drop m choice) n ∙ ap (take n) (coded_drop w slices choice m e)

-- the coded slices of a picture
pub picture_is : (c : FrameCoefficients) (h : FrameHeader) (choice : List ℕ) (picture count place : ℕ) (slices : List SliceCoefficients) (coded : List CodedSlice)
    → length choice ≡ length c.slices → count ≡ length (slices_of c.layout) → place ≡ picture → slices ≡ c.slices
    → coded ≡ coded_slices (weights_in h) (take (count * place + count - count * place) (drop (count * place) slices)) (take (count * place + count - count * place) (drop (count * place) choice))
    → record { log2 = c.layout.log2; slices = coded } ≡ coded_picture c (coded_slices (weights_in h) c.slices choice) picture
picture_is c h choice picture count place slices coded number count_is place_is slices_are made =
    let w = weights_in h in
    let n = length (slices_of c.layout) in
    let long : count * place + count - count * place ≡ n = omega (arith, count_is) in
    let from : count * place ≡ n * picture = λ j. count_is j * place_is j in
    let told : coded ≡ coded_slices w (take n (drop (n * picture) c.slices)) (take n (drop (n * picture) choice)) =
    made ∙ (λ j. coded_slices w (take (long j) (drop (from j) (slices_are j))) (take (long j) (drop (from j) choice))) in
    let is = told ∙ coded_range w c.slices choice (n * picture) n number in
    λ j. record { log2 = c.layout.log2; slices = is j }

pub are_coded : (h : FrameHeader) (places : List SlicePlace) (slices : List SliceCoefficients) (choice : List ℕ) → AllZip (IsSliceAt h.chroma h.alpha) places slices → length choice ≡ length slices → All IsIndex choice
    → AreCodedSlices h places (coded_slices (weights_in h) slices choice)
unfolding quantised_part
are_coded h [] [] choice zip e each = tt
are_coded h [] (s ∷ slices) choice zip e each = absurd zip
are_coded h (p ∷ places) [] choice zip e each = absurd zip
are_coded h (p ∷ places) (s ∷ slices) [] zip e each = absurd (omega (arith, e))
are_coded h (p ∷ places) (s ∷ slices) (i ∷ choice) zip e each =
    let index = All-head IsIndex i choice each in
    let at = zip.0 in
    let q = λ (weights : List ℕ) (blocks : List (List ℤ)). length-map blocks (quantised_block (multipliers weights i)) in (
      record {
        index_from = index.least;
        index_to = index.most;
        y = q h.luma s.y ∙ at.y;
        cb = q h.chroma_weights s.cb ∙ at.cb;
        cr = q h.chroma_weights s.cr ∙ at.cr;
        alpha = at.values;
        values = at.alpha_range;
      },
      are_coded h places slices choice zip.1 (omega (arith, e)) (All-tail IsIndex i choice each),
    )
