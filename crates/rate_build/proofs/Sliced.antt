-- A slice of coefficients, made of its parts.
use Rattle.std.proofs.Common.{◌≡◌, ℕ, List, length, ℤ}
use Rattle.std.proofs.lemmas.List.{length-map}
use Rattle.pw_planes.specs.declared.kinds.Chroma.{Chroma}
use Rattle.pw_planes.specs.declared.kinds.Depth.{Depth}
use Rattle.pw_planes.specs.Plane.{Raster}
use Rattle.pr_geom.specs.declared.places.Part.{Part}
use Rattle.pr_geom.specs.declared.places.Part.TheVariants.{Y, Cb, Cr}
use Rattle.pr_geom.specs.declared.places.SlicePlace.{SlicePlace}
use Rattle.pr_geom.specs.Blocks.{blocks_of}
use Rattle.rate_build.specs.declared.slices.SliceCoefficients.{SliceCoefficients}
use Rattle.rate_build.specs.Coefficients.{coefficients_at, part_coefficients, alpha_values, Planes, slice_coefficients}

pub part_length : (plane : Raster) (depth : Depth) (chroma : Chroma) (part : Part) (slice : SlicePlace) → length (part_coefficients plane depth chroma part slice) ≡ length (blocks_of chroma part slice)
unfolding part_coefficients
part_length plane depth chroma part slice = length-map (blocks_of chroma part slice) (coefficients_at plane depth)

module _ (p : Planes) (depth : Depth) (chroma : Chroma) (slice : SlicePlace) (y cb cr : List (List ℤ)) (alpha : List ℕ)
    (y_is : y ≡ part_coefficients p.y depth chroma Y slice) (cb_is : cb ≡ part_coefficients p.cb depth chroma Cb slice) (cr_is : cr ≡ part_coefficients p.cr depth chroma Cr slice)
    (alpha_is : alpha ≡ alpha_values p.alpha slice) where
  abbrev sliced : SliceCoefficients
  sliced = record { y = y; cb = cb; cr = cr; alpha = alpha }

  pub slice_is : sliced ≡ slice_coefficients p depth chroma slice
  slice_is = λ j. record { y = y_is j; cb = cb_is j; cr = cr_is j; alpha = alpha_is j }
