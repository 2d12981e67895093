-- The alpha values of a slice are ready to be written.
use Rattle.std.proofs.Common.{◌≡◌, ℕ, zero, suc, ◌^◌, ◌<◌, ◌≤◌, List, [], ◌∷◌, length, get_or, refl, arith}
use Rattle.std.specs.List.{All, AllZip}
use Rattle.std.proofs.lemmas.List.Elements.{All-nil, All-cons, All-head, All-tail}
use Rattle.pw_planes.specs.declared.kinds.AlphaKind.{AlphaKind}
use Rattle.pw_planes.specs.declared.kinds.AlphaKind.TheVariants.{Absent, Eight, Sixteen}
use Rattle.pw_planes.specs.declared.kinds.Chroma.{Chroma}
use Rattle.pr_geom.specs.declared.places.Part.TheVariants.{Y}
use Rattle.pr_geom.specs.declared.places.SlicePlace.{SlicePlace}
use Rattle.pr_geom.proofs.BlockLemmas.{luma_count}
use Rattle.pr_frame.specs.Forms.{alpha_count, alpha_depth}
use Rattle.pr_frame.specs.Ready.{IsReadyAlpha}
use Rattle.pr_frame.proofs.Short.{alpha-ready}
use Rattle.rate_build.specs.declared.slices.SliceCoefficients.{SliceCoefficients}
use Rattle.rate_build.specs.Coefficients.{IsSliceAt}

slice_alpha : (chroma : Chroma) (alpha : AlphaKind) (place : SlicePlace) (s : SliceCoefficients) → IsSliceAt chroma alpha place s → IsReadyAlpha alpha s.alpha
slice_alpha chroma alpha place s h =
    let e = luma_count chroma Y place refl in
    alpha-ready alpha place s.alpha (omega (arith, e, h.y, h.y_part.some)) (omega (arith, e, h.y, h.y_part.few)) h.values h.alpha_range

pub alphas_of : (chroma : Chroma) (alpha : AlphaKind) (places : List SlicePlace) (slices : List SliceCoefficients) → AllZip (IsSliceAt chroma alpha) places slices → All (λ s. IsReadyAlpha alpha s.alpha) slices
alphas_of chroma alpha [] [] h = All-nil (λ (s : SliceCoefficients). IsReadyAlpha alpha s.alpha)
alphas_of chroma alpha [] (s ∷ slices) h = absurd h
alphas_of chroma alpha (p ∷ places) [] h = absurd h
alphas_of chroma alpha (p ∷ places) (s ∷ slices) h =
    All-cons (λ (s : SliceCoefficients). IsReadyAlpha alpha s.alpha) s slices (slice_alpha chroma alpha p s h.0) (alphas_of chroma alpha places slices h.1)
