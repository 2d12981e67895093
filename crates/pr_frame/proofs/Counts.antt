-- Counts of slices and of their blocks.
use Rattle.std.proofs.Common.{◌≡◌, ℕ, zero, suc, ◌*◌, ◌/◌, ◌<◌, ◌≤◌, List, [], ◌∷◌, length, drop, get_or, refl, ap, arith, pow_mono}
use Rattle.pw_planes.specs.declared.kinds.Chroma.{Chroma}
use Rattle.pw_planes.specs.declared.kinds.Chroma.TheVariants.{C422, C444}
use Rattle.pr_geom.specs.declared.places.SlicePlace.{SlicePlace}
use Rattle.pr_geom.specs.declared.places.Part.{Part}
use Rattle.pr_geom.specs.declared.places.Part.TheVariants.{Y, Cb, Cr}
use Rattle.pr_geom.specs.Slices.{pictures_of, macroblocks, no_slice}
use Rattle.pr_geom.specs.Blocks.{blocks_of}
use Rattle.pr_geom.specs.Faults.{slice_count}
use Rattle.pr_geom.proofs.SliceLemmas.{slice_bounds}
use Rattle.pr_geom.proofs.BlockLemmas.{luma_count, narrow_count, wide_count}
use Rattle.pr_head.specs.declared.frame.FrameHeader.{FrameHeader}
use Rattle.pr_head.specs.declared.picture.PictureHeader.{PictureHeader}
use Rattle.pr_head.specs.Picture.{slices_in, sizes_of}
use Rattle.pr_frame.specs.Forms.{places_in, block_count}

-- the number of blocks of a part
pub record HasBlocksOf (h : FrameHeader) (place : SlicePlace) : Type 0 where
  pub some : (part : Part) → 0 < block_count h place part
  pub few : (part : Part) → block_count h place part ≤ 32
  pub wide : 0 < place.width
  pub narrow : place.width ≤ 8

abbrev pub AllHave : FrameHeader → List SlicePlace → Type 0
AllHave h [] = Unit {0}
AllHave h (place ∷ places) = HasBlocksOf h place × AllHave h places

-- a part of a slice has two or four blocks in each macroblock
chroma-count : (chroma : Chroma) (part : Part) (place : SlicePlace) → (part ≡ Y → ⊥) → (2 * place.width ≤ length (blocks_of chroma part place)) × (length (blocks_of chroma part place) ≤ 4 * place.width)
chroma-count C422 part place other = let e = narrow_count C422 part place refl other in (omega (arith, e), omega (arith, e))
chroma-count C444 part place other = let e = wide_count C444 part place refl in (omega (arith, e), omega (arith, e))

count-is : (h : FrameHeader) (place : SlicePlace) (part : Part) → (2 * place.width ≤ block_count h place part) × (block_count h place part ≤ 4 * place.width)
count-is h place Y = let e = luma_count h.chroma Y place refl in (omega (arith, e), omega (arith, e))
count-is h place Cb = chroma-count h.chroma Cb place (λ e. absurd cc)
count-is h place Cr = chroma-count h.chroma Cr place (λ e. absurd cc)

pub have-blocks : (h : FrameHeader) (place : SlicePlace) → 0 < place.width → place.width ≤ 8 → HasBlocksOf h place
have-blocks h place some few = record {
  some = λ part. omega (arith, (count-is h place part).0);
  few = λ part. omega (arith, (count-is h place part).1);
  wide = some;
  narrow = few;
}

have-all : (h : FrameHeader) (places : List SlicePlace) → ((k : ℕ) → k < length places → HasBlocksOf h (get_or places k no_slice)) → AllHave h places
have-all h [] all = tt
have-all h (p ∷ places) all = (all 0 (omega arith), have-all h places (λ k lt. all (suc k) (omega arith)))

pub places-have : (h : FrameHeader) (log2 : ℕ) → log2 ≤ 3 → AllHave h (places_in h log2)
places-have h log2 small = have-all h (places_in h log2) (λ k lt.
    let inside = slice_bounds (macroblocks (h.height / pictures_of h.interlace)) (macroblocks h.width) log2 k lt in
    have-blocks h _ inside.0 (omega (arith, inside.1, pow_mono {i = log2} {j = 3} small)))

pub length-sizes : (count : ℕ) (l : List ℕ) → length (sizes_of count l) ≡ count
unfolding sizes_of
length-sizes zero l = refl
length-sizes (suc count) l = ap suc (length-sizes count (drop 2 l))

pub count-places : (h : FrameHeader) (r : PictureHeader) → slices_in h r ≡ length (places_in h r.log2)
unfolding slice_count
count-places h r = refl
