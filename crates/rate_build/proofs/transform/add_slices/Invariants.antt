use Rattle.std.proofs.Common.{◌≡◌, ◌++◌, map, take}
use Rattle.pr_geom.specs.Layout.{slices_of}
use Rattle.rate_build.specs.Coefficients.{planes_of, slice_coefficients}
use Rattle.rate_build.proofs.transform.add_slices.Given as goal

abbrev pub invariant-loop-number : goal.invariant-loop-number
invariant-loop-number l = l.slices.items ≡ l.initial.slices.items ++ map (slice_coefficients (planes_of l.picture) l.picture.depth l.layout.chroma) (take l.number (slices_of l.layout))
