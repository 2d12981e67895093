-- Layouts, and the invariant of a run's parameters.
use Rattle.std.proofs.Common.{◌≡◌, refl, ℕ, ◌*◌, ◌/◌, ◌<◌, ◌≤◌, Bool, true, false, cond, Option, None, arith, length, sym, subst}
use Rattle.std.specs.Prelude.{is_none, nat_le, ◌&&◌}
use Rattle.std.proofs.lemmas.Bool.Decides.{nat_tests}
use Rattle.pw_planes.specs.declared.kinds.Chroma.{Chroma}
use Rattle.pw_planes.specs.declared.kinds.Interlace.{Interlace}
use Rattle.pr_geom.specs.declared.layout.Layout.{Layout}
use Rattle.pr_geom.specs.Layout.{slices_of, IsLayoutOf}
use Rattle.pr_geom.specs.Slices.{pictures_of, macroblocks, picture_slices}
use Rattle.pr_geom.specs.Faults.{slice_count}
use Rattle.pr_quant.specs.declared.weights.Matrix.{Matrix}
use Rattle.pr_quant.specs.declared.weights.Matrix.TheVariants.{Flat, Steep}
use Rattle.pr_quant.specs.Matrices.{weights_of}
use Rattle.rate_cert.specs.Settings as cert
use Rattle.rate_cert.specs.Settings.{IsSettings}
use Rattle.run_encode.specs.declared.job.Job.{Job}
use Rattle.run_encode.specs.Groups.{IsJob, settings_of, frame_slices}

pub laid : (l : Layout) (w h n : ℕ) (mode : Interlace) (format : Chroma) → IsLayoutOf l w h n mode format → length (slices_of l) ≡ slice_count w h n mode
unfolding slice_count
laid l w h n mode format is =
    λ i. length (picture_slices (macroblocks (is.width i)) (macroblocks (is.height i / pictures_of (is.interlace i))) (is.log2 i))

pub few-enough : {F : Type 0} (fault : Option F) (k m : ℕ) → None ≡ fault → k ≡ m → k ≤ 131070 → (is_none fault && nat_le m 131070) ≡ true
few-enough {F} fault k m e same h = subst (λ (f : Option F). (is_none f && nat_le m 131070) ≡ true) e (subst (λ n. nat_le n 131070 ≡ true) same (grind (arith, nat_tests)))

pub too-many : {F : Type 0} (fault : Option F) (k m : ℕ) → None ≡ fault → k ≡ m → 131070 < k → (is_none fault && nat_le m 131070) ≡ false
too-many {F} fault k m e same h = subst (λ (f : Option F). (is_none f && nat_le m 131070) ≡ false) e (subst (λ n. nat_le n 131070 ≡ false) same (grind (arith, nat_tests)))

-- the settings of the proof give a frame the same number of slices
pub slices-same : (j : Job) → IsJob j → cert.frame_slices (settings_of j) ≡ frame_slices j
slices-same j is =
    let l = laid j.layout j.head.width j.head.height j.layout.log2 j.head.interlace j.head.chroma is.layout in
    λ i. pictures_of (sym is.layout.interlace i) * (sym l i)

form-few : (b : Bool) → ◌≤◌ (cond b 1 0) 2
form-few true = omega arith
form-few false = omega arith

form-other : {P : Type 0} (b : Bool) → ◌≡◌ {A = ℕ} (cond b 1 0) 2 → P
form-other true e = absurd (omega (arith, e))
form-other false e = absurd (omega (arith, e))

-- the settings of a run are valid settings of a proof
pub settings-are : (j : Job) → IsJob j → IsSettings (settings_of j)
settings-are j is = record {
  form = form-few j.raw;
  group_from = is.some_group;
  group_to = is.small_group;
  products = λ e. form-other j.raw e;
  size = is.log2;
  layout = is.no_fault;
  slices = subst (λ n. j.group * n ≤ 131070) (sym (slices-same j is)) is.slices;
  lo = is.least;
  order = is.order;
  hi = is.most;
  num_from = is.head.some_num;
  num_to = is.head.num;
  den_from = is.head.some_den;
  den_to = is.head.den;
  luma_count = is.matrices.luma;
  luma = is.weights.luma;
  chroma_count = is.matrices.chroma;
  chroma_weights = is.weights.chroma;
  some_budget = is.some_budget;
  budget = is.budget;
}

-- a named matrix has 64 weights
pub weights-number : (name : Matrix) → length (weights_of name) ≡ 64
weights-number Flat = refl
weights-number Steep = refl
