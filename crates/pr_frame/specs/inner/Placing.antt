-- Planes, while blocks are written into them.
use Rattle.std.specs.Prelude.{ℕ, ◌+◌, ◌*◌, ◌≤◌, List, [], ◌∷◌, ◌⊎◌, ◌≡◌}
use Rattle.pr_geom.specs.declared.places.SlicePlace.{SlicePlace}
use Rattle.pw_planes.specs.Plane.{Raster, with_block}
use Rattle.pr_frame.specs.Shown.{Placed}

-- the plane with these blocks written at their corners, in order
unfoldable pub with_placed : Raster → List Placed → Raster
with_placed p [] = p
with_placed p (b ∷ bs) = with_placed (with_block p b.corner.0 b.corner.1 b.samples) bs

-- the corner of a block of luma in a slice
pub record IsInSlice (place : SlicePlace) (x y : ℕ) : Type 0 where
  pub left : 16 * place.column ≤ x
  pub right : x + 8 ≤ 16 * place.column + 16 * place.width
  pub row : (y ≡ 16 * place.row) ⊎ (y ≡ 16 * place.row + 8)
