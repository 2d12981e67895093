-- The blocks of all slices of a coded picture, each at its position.
use Rattle.std.proofs.Common.{◌≡◌, refl, ℕ, zero, suc, ◌+◌, ◌*◌, ◌/◌, ◌<◌, ◌≤◌, List, [], ◌∷◌, ◌++◌, length, get_or, drop, map, ap, sym, ◌∙◌, subst, arith}
use Rattle.std.specs.List.{flat_map}
use Rattle.std.proofs.lemmas.List.{length-map, drop_more, drop_all}
use Rattle.pw_planes.specs.declared.kinds.AlphaKind.{AlphaKind}
use Rattle.pw_planes.specs.declared.kinds.AlphaKind.TheVariants.{Absent, Eight, Sixteen}
use Rattle.pw_planes.specs.declared.kinds.Depth.{Depth}
use Rattle.pw_planes.specs.Plane.{Raster, uniform}
use Rattle.pr_geom.specs.declared.places.TheConstants.{MAX_SLICES}
use Rattle.pr_geom.specs.declared.places.Part.{Part}
use Rattle.pr_geom.specs.declared.places.Part.TheVariants.{Y, Cb, Cr}
use Rattle.pr_geom.specs.declared.places.SlicePlace.{SlicePlace}
use Rattle.pr_geom.specs.Blocks.{blocks_of, macroblock_width, EachOnce}
use Rattle.pr_geom.specs.declared.layout.Layout.{Layout}
use Rattle.pr_geom.specs.Faults.{slice_count, IsAllowed}
use Rattle.pr_geom.specs.Layout.{slices_of, IsLayoutOf}
use Rattle.pr_geom.specs.Slices.{pictures_of, macroblocks, picture_slices}
use Rattle.pr_geom.proofs.BlockLemmas.{blocks_once}
use Rattle.pr_head.specs.declared.frame.FrameHeader.{FrameHeader}
use Rattle.pr_frame.specs.declared.coded.CodedSlice.{CodedSlice}
use Rattle.pr_frame.specs.declared.coded.CodedPicture.{CodedPicture}
use Rattle.pr_frame.specs.Forms.{places_in, alpha_count}
use Rattle.pr_frame.specs.Coded.{IsCodedSlice, AreCodedSlices, IsCodedPicture}
use Rattle.pr_frame.specs.Shown.{Placed, shown_block, part_of, weights_of, shown_part, value_block, shown_values, all_shown, width_of, height_of, part_plane, alpha_plane}
use Rattle.pr_frame.specs.inner.Placing.{with_placed}
use Rattle.pr_frame.proofs.Placed.{Apart, corners_in, corners_behind, placed_corners, placed_behind, apart_once, all_placed}

-- as many blocks as corners
pub part_count : (h : FrameHeader) (part : Part) (place : SlicePlace) (s : CodedSlice) → IsCodedSlice h place s → length (part_of part s) ≡ length (blocks_of h.chroma part place)
part_count h Y place s ok = ok.y
part_count h Cb place s ok = ok.cb
part_count h Cr place s ok = ok.cr

part_corners : (h : FrameHeader) (depth : Depth) (part : Part) (place : SlicePlace) (s : CodedSlice) → IsCodedSlice h place s → corners_in (shown_part h depth part place s) ≡ blocks_of h.chroma part place
unfolding shown_part
part_corners h depth part place s ok =
    placed_corners (blocks_of h.chroma part place) (map (shown_block depth (weights_of h part) s.index) (part_of part s))
    (length-map (part_of part s) (shown_block depth (weights_of h part) s.index) ∙ part_count h part place s ok)

values_corners : (h : FrameHeader) (place : SlicePlace) (s : CodedSlice) → corners_in (shown_values h place s) ≡ blocks_of h.chroma Y place
unfolding shown_values
values_corners h place s =
    placed_corners (blocks_of h.chroma Y place) (map (value_block place s.alpha) (blocks_of h.chroma Y place))
    (length-map (blocks_of h.chroma Y place) (value_block place s.alpha))

corners_none : corners_in [] ≡ []
unfolding corners_in
corners_none = refl

all_corners : (h : FrameHeader) (part : Part) (f : SlicePlace → CodedSlice → List Placed) → ((place : SlicePlace) (s : CodedSlice) → IsCodedSlice h place s → corners_in (f place s) ≡ blocks_of h.chroma part place)
    → (places : List SlicePlace) (slices : List CodedSlice) → AreCodedSlices h places slices → corners_in (all_shown f places slices) ≡ flat_map (blocks_of h.chroma part) places
all_corners h part f each [] [] ok = corners_none
all_corners h part f each [] (s ∷ ss) ok = absurd ok
all_corners h part f each (p ∷ ps) [] ok = absurd ok
all_corners h part f each (p ∷ ps) (s ∷ ss) ok =
    corners_behind (f p s) (all_shown f ps ss) ∙ (λ i. each p s ok.0 i ++ all_corners h part f each ps ss ok.1 i)

-- no two blocks of a coded picture have the same position
shown_apart : (h : FrameHeader) (part : Part) (f : SlicePlace → CodedSlice → List Placed) → ((place : SlicePlace) (s : CodedSlice) → IsCodedSlice h place s → corners_in (f place s) ≡ blocks_of h.chroma part place)
    → (x : CodedPicture) → IsCodedPicture h x → Apart (all_shown f (places_in h x.log2) x.slices)
shown_apart h part f each x ok =
    let m = macroblocks h.width in
    let rows = macroblocks (h.height / pictures_of h.interlace) in
    let columns = m * (macroblock_width h.chroma part / 8) in
    apart_once (all_shown f (places_in h x.log2) x.slices) columns (rows * 2)
    (subst (λ (l : List (ℕ × ℕ)). EachOnce l columns (rows * 2)) (sym (all_corners h part f each (places_in h x.log2) x.slices ok.slices)) (blocks_once h.chroma part m rows x.log2))

-- the plane of a part, with the blocks of all slices written
pub part_written : (h : FrameHeader) (depth : Depth) (part : Part) (x : CodedPicture) → IsCodedPicture h x
    → with_placed (uniform (width_of h part) (height_of h) 0) (all_shown (shown_part h depth part) (places_in h x.log2) x.slices) ≡ part_plane h depth part x
part_written h depth part x ok =
    all_placed (width_of h part) (height_of h) (all_shown (shown_part h depth part) (places_in h x.log2) x.slices)
    (shown_apart h part (shown_part h depth part) (part_corners h depth part) x ok)

-- and the alpha plane
pub values_written : (h : FrameHeader) (x : CodedPicture) → IsCodedPicture h x
    → with_placed (uniform h.width (height_of h) 0) (all_shown (shown_values h) (places_in h x.log2) x.slices) ≡ alpha_plane h x
values_written h x ok =
    all_placed h.width (height_of h) (all_shown (shown_values h) (places_in h x.log2) x.slices)
    (shown_apart h Y (shown_values h) (λ place s _. values_corners h place s) x ok)

-- ---- slices in order

pub coded_count : (h : FrameHeader) (places : List SlicePlace) (slices : List CodedSlice) → AreCodedSlices h places slices → length slices ≡ length places
coded_count h [] [] ok = refl
coded_count h [] (s ∷ ss) ok = absurd ok
coded_count h (p ∷ ps) [] ok = absurd ok
coded_count h (p ∷ ps) (s ∷ ss) ok = ap suc (coded_count h ps ss ok.1)

pub coded_at : (h : FrameHeader) (places : List SlicePlace) (slices : List CodedSlice) (n : ℕ) (none : SlicePlace) (nothing : CodedSlice) → AreCodedSlices h places slices → n < length slices → IsCodedSlice h (get_or places n none) (get_or slices n nothing)
coded_at h [] [] n none nothing ok l = absurd (omega arith)
coded_at h [] (s ∷ ss) n none nothing ok l = absurd ok
coded_at h (p ∷ ps) [] n none nothing ok l = absurd ok
coded_at h (p ∷ ps) (s ∷ ss) zero none nothing ok l = ok.0
coded_at h (p ∷ ps) (s ∷ ss) (suc n) none nothing ok l = coded_at h ps ss n none nothing ok.1 (omega arith)

-- one slice more is written
pub shown_more : (f : SlicePlace → CodedSlice → List Placed) (places : List SlicePlace) (slices : List CodedSlice) (n : ℕ) (none : SlicePlace) (nothing : CodedSlice) → n < length places → n < length slices
    → (p : Raster) → with_placed p (all_shown f (drop n places) (drop n slices))
    ≡ with_placed (with_placed p (f (get_or places n none) (get_or slices n nothing))) (all_shown f (drop (n + 1) places) (drop (n + 1) slices))
shown_more f places slices n none nothing h l p =
    (λ i. with_placed p (all_shown f (drop_more places n none h i) (drop_more slices n nothing l i)))
    ∙ placed_behind p (f (get_or places n none) (get_or slices n nothing)) (all_shown f (drop (n + 1) places) (drop (n + 1) slices))

pub shown_end : (f : SlicePlace → CodedSlice → List Placed) (places : List SlicePlace) (slices : List CodedSlice) (n : ℕ) → length slices ≤ n → (p : Raster) → with_placed p (all_shown f (drop n places) (drop n slices)) ≡ p
unfolding with_placed
shown_end f places slices n h p =
    ap (λ l. with_placed p (all_shown f (drop n places) l)) (drop_all n slices h) ∙ ap (with_placed p) (none_shown f (drop n places))
  where
    none_shown : (f : SlicePlace → CodedSlice → List Placed) (places : List SlicePlace) → all_shown f places [] ≡ []
    none_shown f [] = refl
    none_shown f (p ∷ ps) = refl

-- the slices of a frame's layout
pub layout_places : (l : Layout) (h : FrameHeader) (log2 : ℕ) → IsLayoutOf l h.width h.height log2 h.interlace h.chroma → slices_of l ≡ places_in h log2
layout_places l h log2 e = λ i. picture_slices (macroblocks (e.width i)) (macroblocks (e.height i / pictures_of (e.interlace i))) (e.log2 i)

pub few_slices : (h : FrameHeader) (x : CodedPicture) → IsAllowed h.width h.height x.log2 h.interlace → length (places_in h x.log2) ≤ MAX_SLICES
unfolding slice_count
few_slices h x ok = ok.slices

-- a slice of a frame with alpha has 256 values for each macroblock
pub some_alpha : (kind : AlphaKind) (place : SlicePlace) → (kind ≡ Absent → ⊥) → alpha_count kind place ≡ 256 * place.width
some_alpha Absent place some = absurd (some refl)
some_alpha Eight place some = refl
some_alpha Sixteen place some = refl
