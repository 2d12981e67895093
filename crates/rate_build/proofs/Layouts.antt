-- The coefficients of a picture have its layout.
use Rattle.std.proofs.Common.{◌≡◌, ℕ, ◌+◌, ◌-◌, ◌*◌, ◌/◌, ◌%◌, ◌^◌, ◌<◌, ◌≤◌, inl, inr, List, [], ◌∷◌, ◌++◌, length, map, min, get_or, ℤ, pos, nat_abs, Option, None, Some, refl, sym, ◌∙◌, subst, arith, lit<}
use Rattle.std.specs.List.{All, AllZip, Contains, flat_map, range_with_len}
use Rattle.std.proofs.lemmas.Int.{ints}
use Rattle.std.proofs.lemmas.Bool.{cases_lt}
use Rattle.std.proofs.lemmas.Nat.{mul-le}
use Rattle.std.proofs.lemmas.List.{get_or_past, length-map}
use Rattle.std.proofs.lemmas.List.Elements.{All-map, All-head, All-tail, All-weaker, All-contains_itself}
use Rattle.std.proofs.lemmas.List.FromFn.{length-map-range_with_len}
use Rattle.pw_planes.specs.declared.kinds.AlphaKind.{AlphaKind}
use Rattle.pw_planes.specs.declared.kinds.AlphaKind.TheVariants.{Absent, Eight, Sixteen}
use Rattle.pw_planes.specs.declared.kinds.Chroma.{Chroma}
use Rattle.pw_planes.specs.declared.kinds.Chroma.TheVariants.{C422, C444}
use Rattle.pw_planes.specs.declared.kinds.Depth.{Depth}
use Rattle.pw_planes.specs.declared.kinds.Depth.TheVariants.{D8, D10, D12}
use Rattle.pw_planes.specs.declared.kinds.Interlace.{Interlace}
use Rattle.pw_planes.specs.declared.kinds.Interlace.TheVariants.{Progressive, TopFirst, BottomFirst}
use Rattle.pw_planes.specs.declared.kinds.Parity.{Parity}
use Rattle.pw_planes.specs.declared.kinds.Parity.TheVariants.{Top, Bottom}
use Rattle.pw_planes.specs.Plane.{Raster, sample_at, block_at, field_of, samples_at}
use Rattle.pw_planes.specs.Samples.{sample_bits, signed_sample, first_row}
use Rattle.pw_planes.proofs.RowLemmas.{length-raster, All-raster}
use Rattle.pr_geom.specs.declared.layout.Layout.{Layout}
use Rattle.pr_geom.specs.declared.places.Part.{Part}
use Rattle.pr_geom.specs.declared.places.Part.TheVariants.{Y, Cb, Cr}
use Rattle.pr_geom.specs.declared.places.SlicePlace.{SlicePlace}
use Rattle.pr_geom.specs.Blocks.{corners, blocks_of}
use Rattle.pr_geom.specs.Layout.{slices_of, columns_of, rows_of}
use Rattle.pr_geom.specs.Slices.{pictures_of}
use Rattle.pr_geom.proofs.BlockLemmas.{length-blocks_of}
use Rattle.pr_geom.proofs.SliceLemmas.{slice_inside}
use Rattle.pr_dct.specs.Transform.{cosines, coefficient, coefficients, AreWithin}
use Rattle.pr_dct.specs.inner.Passes.{row_sums}
use Rattle.pr_dct.proofs.PassLemmas.{cosines_reach, passes, all_within}
use Rattle.pr_frame.specs.Forms.{alpha_count, alpha_depth}
use Rattle.rate_build.specs.Measures.{IsCoefficientBlock, ArePart}
use Rattle.rate_build.specs.Coefficients.{coefficients_at, part_coefficients, alpha_values, Planes, field_of_alpha, field_planes, coded_pictures, planes_of, slice_coefficients, picture_coefficients, IsSliceAt, HasDepth}
use Rattle.rate_build.specs.Laws.{HasAlpha, CoefficientsAreOfLayout}
use Rattle.rate_build.proofs.Sliced.{part_length}

-- ---- samples

sample_below : (p : Raster) (x y limit : ℕ) → 0 < limit → All (λ s. s < limit) p.samples → sample_at p x y < limit
unfolding sample_at
sample_below p x y limit some small =
    let k = min y (p.height - 1) * p.width + min x (p.width - 1) in
    elim (cases_lt k (length p.samples)) [
      | inl h ↦ small k 0 h
      | inr h ↦ subst (λ s. s < limit) (sym (get_or_past p.samples k 0 h)) some
    ]

field_below : (p : Raster) (parity : Parity) (limit : ℕ) → 0 < limit → All (λ s. s < limit) p.samples → All (λ s. s < limit) (field_of p parity).samples
field_below p parity limit some small =
    All-raster (λ s. s < limit) p.width (p.height / 2) (λ column row. sample_at p column (2 * row + first_row parity))
    (λ column row _ _. sample_below p column (2 * row + first_row parity) limit some small)

some_samples : (depth : Depth) → 0 < 2 ^ sample_bits depth
some_samples D8 = omega arith
some_samples D10 = omega arith
some_samples D12 = omega arith

-- the samples of a field have the depth of its frame's
pub field_has_depth : (frame field : Raster) (parity : Parity) (depth other : Depth) → field ≡ field_of frame parity → other ≡ depth → HasDepth frame depth → HasDepth field other
field_has_depth frame field parity depth other is same small =
    subst (HasDepth field) (sym same) (subst (λ plane. HasDepth plane depth) (sym is) (field_below frame parity (2 ^ sample_bits depth) (some_samples depth) small))

signed_small : (depth : Depth) (s : ℕ) → s < 2 ^ sample_bits depth → nat_abs (signed_sample depth s) ≤ 2048
signed_small D8 s h = omega (arith, ints)
signed_small D10 s h = omega (arith, ints)
signed_small D12 s h = omega (arith, ints)

-- ---- blocks

block_within : (p : Raster) (x y : ℕ) (depth : Depth) → HasDepth p depth → AreWithin 2048 (block_at p x y depth)
unfolding block_at
block_within p x y depth small k h =
    let f : ℕ → ℕ → ℕ = λ column row. sample_at p (x + column) (y + row) in
    let each : All (λ (v : ℤ). nat_abs v ≤ 2048) (map (signed_sample depth) (samples_at p x y)) =
    All-map (λ (v : ℤ). nat_abs v ≤ 2048) (signed_sample depth) (samples_at p x y)
    (All-raster (λ s. nat_abs (signed_sample depth s) ≤ 2048) 8 8 f
    (λ column row _ _. signed_small depth (f column row) (sample_below p (x + column) (y + row) (2 ^ sample_bits depth) (some_samples depth) small))) in
    each k (pos 0) (omega (arith, length-map (samples_at p x y) (signed_sample depth), length-raster 8 8 f))

coefficients_within : (b : List ℤ) → AreWithin 2048 b → AreWithin 16383 (coefficients b)
coefficients_within b h =
    let rows = row_sums cosines b in
    all_within cosines cosines_reach 2048 b h b rows (row_sums cosines rows) (coefficients b) 16383 refl refl refl (sym (passes cosines b)) (lit< tt)

block_is : (p : Raster) (depth : Depth) (corner : ℕ × ℕ) → HasDepth p depth → IsCoefficientBlock (coefficients_at p depth corner)
unfolding coefficients_at
block_is p depth corner small = record {
  whole = length-map-range_with_len (λ k. coefficient (block_at p corner.0 corner.1 depth) (k / 8) (k % 8)) 0 64;
  within = coefficients_within (block_at p corner.0 corner.1 depth) (block_within p corner.0 corner.1 depth small);
}

-- ---- slices

corners_few : (chroma : Chroma) (part : Part) → (1 ≤ length (corners chroma part)) × (length (corners chroma part) ≤ 4)
corners_few C422 Y = (omega arith, omega arith)
corners_few C444 Y = (omega arith, omega arith)
corners_few C422 Cb = (omega arith, omega arith)
corners_few C422 Cr = (omega arith, omega arith)
corners_few C444 Cb = (omega arith, omega arith)
corners_few C444 Cr = (omega arith, omega arith)

part_is : (p : Raster) (depth : Depth) (chroma : Chroma) (part : Part) (slice : SlicePlace) → HasDepth p depth → 0 < slice.width → slice.width ≤ 8 → ArePart (part_coefficients p depth chroma part slice)
unfolding part_coefficients
part_is p depth chroma part slice small some few =
    let corners_here = corners_few chroma part in
    let number = part_length p depth chroma part slice ∙ length-blocks_of chroma part slice in
    let low = mul-le 1 1 slice.width (length (corners chroma part)) some corners_here.0 in
    let high = mul-le slice.width (length (corners chroma part)) 8 4 few corners_here.1 in
    record {
      some = omega (arith, number, low);
      few = omega (arith, number, high);
      each = All-map IsCoefficientBlock (coefficients_at p depth) (blocks_of chroma part slice) (λ k d l. block_is p depth (get_or (blocks_of chroma part slice) k d) small);
    }

alpha_below : (plane : Raster) (slice : SlicePlace) (limit : ℕ) → 0 < limit → All (λ value. value < limit) plane.samples → All (λ value. value < limit) (alpha_values (Some plane) slice)
unfolding alpha_values
alpha_below plane slice limit some small =
    All-raster (λ value. value < limit) (16 * slice.width) 16 (λ column row. sample_at plane (16 * slice.column + column) (16 * slice.row + row))
    (λ column row _ _. sample_below plane (16 * slice.column + column) (16 * slice.row + row) limit some small)

alpha_number : (plane : Raster) (slice : SlicePlace) → length (alpha_values (Some plane) slice) ≡ 256 * slice.width
unfolding alpha_values
alpha_number plane slice = omega (arith, length-raster (16 * slice.width) 16 (λ column row. sample_at plane (16 * slice.column + column) (16 * slice.row + row)))

alpha_is : (alpha : AlphaKind) (plane : Option Raster) (slice : SlicePlace) → HasAlpha alpha plane
    → (length (alpha_values plane slice) ≡ alpha_count alpha slice) × All (λ value. value < 2 ^ alpha_depth alpha) (alpha_values plane slice)
unfolding alpha_values
alpha_is Absent None slice h = (refl, λ k d l. absurd (omega arith))
alpha_is Absent (Some plane) slice h = absurd h
alpha_is Eight None slice h = absurd h
alpha_is Eight (Some plane) slice h = (alpha_number plane slice, alpha_below plane slice (2 ^ 8) (omega arith) h)
alpha_is Sixteen None slice h = absurd h
alpha_is Sixteen (Some plane) slice h = (alpha_number plane slice, alpha_below plane slice (2 ^ 16) (omega arith) h)

-- the planes of a coded picture have samples of the depth, and alpha of its kind
record ArePlanes (depth : Depth) (alpha : AlphaKind) (p : Planes) : Type 0 where
  y : HasDepth p.y depth
  cb : HasDepth p.cb depth
  cr : HasDepth p.cr depth
  has_alpha : HasAlpha alpha p.alpha

slice_is : (depth : Depth) (alpha : AlphaKind) (p : Planes) (chroma : Chroma) (slice : SlicePlace) → ArePlanes depth alpha p → 0 < slice.width → slice.width ≤ 8
    → IsSliceAt chroma alpha slice (slice_coefficients p depth chroma slice)
slice_is depth alpha p chroma slice are some few =
    let a = alpha_is alpha p.alpha slice are.has_alpha in
    record {
      y = part_length p.y depth chroma Y slice;
      cb = part_length p.cb depth chroma Cb slice;
      cr = part_length p.cr depth chroma Cr slice;
      values = a.0;
      y_part = part_is p.y depth chroma Y slice are.y some few;
      cb_part = part_is p.cb depth chroma Cb slice are.cb some few;
      cr_part = part_is p.cr depth chroma Cr slice are.cr some few;
      alpha_range = a.1;
    }

-- ---- pictures

zip_map : {A B : Type 0} (R : A → B → Type 0) (f : A → B) (xs : List A) → All (λ x. R x (f x)) xs → AllZip R xs (map f xs)
zip_map R f [] each = tt
zip_map R f (x ∷ xs) each = (All-head (λ x. R x (f x)) x xs each, zip_map R f xs (All-tail (λ x. R x (f x)) x xs each))

zip_append : {A B : Type 0} (R : A → B → Type 0) (xs zs : List A) (ys ws : List B) → AllZip R xs ys → AllZip R zs ws → AllZip R (xs ++ zs) (ys ++ ws)
zip_append R [] zs [] ws h k = k
zip_append R [] zs (y ∷ ys) ws h k = absurd h
zip_append R (x ∷ xs) zs [] ws h k = absurd h
zip_append R (x ∷ xs) zs (y ∷ ys) ws h k = (h.0, zip_append R xs zs ys ws h.1 k)

picture_is : (l : Layout) (depth : Depth) (alpha : AlphaKind) (p : Planes) → ArePlanes depth alpha p → AllZip (IsSliceAt l.chroma alpha) (slices_of l) (picture_coefficients l depth p)
unfolding picture_coefficients
picture_is l depth alpha p are =
    let f = slice_coefficients p depth l.chroma in
    zip_map (IsSliceAt l.chroma alpha) f (slices_of l)
    (All-weaker (Contains (slices_of l)) (λ (slice : SlicePlace). IsSliceAt l.chroma alpha slice (f slice))
    (λ slice h. let inside = slice_inside (rows_of l) (columns_of l) l.log2 slice l.allowed.size h in
    slice_is depth alpha p l.chroma slice are inside.0 inside.1)
    (slices_of l) (All-contains_itself (slices_of l)))

field_alpha : (alpha : AlphaKind) (plane : Option Raster) (parity : Parity) → HasAlpha alpha plane → HasAlpha alpha (field_of_alpha plane parity)
field_alpha Absent None parity h = tt
field_alpha Absent (Some plane) parity h = absurd h
field_alpha Eight None parity h = absurd h
field_alpha Eight (Some plane) parity h = field_below plane parity (2 ^ 8) (omega arith) h
field_alpha Sixteen None parity h = absurd h
field_alpha Sixteen (Some plane) parity h = field_below plane parity (2 ^ 16) (omega arith) h

field_is : (depth : Depth) (alpha : AlphaKind) (p : Planes) (parity : Parity) → ArePlanes depth alpha p → ArePlanes depth alpha (field_planes p parity)
field_is depth alpha p parity are =
    let some = some_samples depth in
    let limit = 2 ^ sample_bits depth in
    record {
      y = field_below p.y parity limit some are.y;
      cb = field_below p.cb parity limit some are.cb;
      cr = field_below p.cr parity limit some are.cr;
      has_alpha = field_alpha alpha p.alpha parity are.has_alpha;
    }

-- two pictures in order
both_are : (l : Layout) (depth : Depth) (alpha : AlphaKind) (p q : Planes) → ArePlanes depth alpha p → ArePlanes depth alpha q
    → AllZip (IsSliceAt l.chroma alpha) (slices_of l ++ (slices_of l ++ [])) (picture_coefficients l depth p ++ (picture_coefficients l depth q ++ []))
both_are l depth alpha p q first second =
    let R = IsSliceAt l.chroma alpha in
    zip_append R (slices_of l) (slices_of l ++ []) (picture_coefficients l depth p) (picture_coefficients l depth q ++ []) (picture_is l depth alpha p first)
    (zip_append R (slices_of l) [] (picture_coefficients l depth q) [] (picture_is l depth alpha q second) tt)

frame_is : (l : Layout) (depth : Depth) (alpha : AlphaKind) (p : Planes) (mode : Interlace) → ArePlanes depth alpha p
    → AllZip (IsSliceAt l.chroma alpha) (flat_map (λ picture. slices_of l) (range_with_len 0 (pictures_of mode))) (flat_map (picture_coefficients l depth) (coded_pictures mode p))
frame_is l depth alpha p Progressive are =
    zip_append (IsSliceAt l.chroma alpha) (slices_of l) [] (picture_coefficients l depth p) [] (picture_is l depth alpha p are) tt
frame_is l depth alpha p TopFirst are = both_are l depth alpha (field_planes p Top) (field_planes p Bottom) (field_is depth alpha p Top are) (field_is depth alpha p Bottom are)
frame_is l depth alpha p BottomFirst are = both_are l depth alpha (field_planes p Bottom) (field_planes p Top) (field_is depth alpha p Bottom are) (field_is depth alpha p Top are)

pub of_layout : CoefficientsAreOfLayout
of_layout l p alpha is has = frame_is l p.depth alpha (planes_of p) l.interlace (record { y = is.y; cb = is.cb; cr = is.cr; has_alpha = has })
