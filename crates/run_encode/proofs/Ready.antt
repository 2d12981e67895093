-- Pictures of a run can be coded: their coefficients are those of the layout, tables of groups are within the limits, and the frame of
-- a choice can be written.
use Rattle.std.proofs.Common.{◌≡◌, refl, ◌+◌, ◌*◌, ◌<◌, ◌≤◌, Option, None, Some, List, [], ◌∷◌, arith, length, map, ap, sym, subst, ◌∙◌}
use Rattle.std.specs.Prelude.{IfSome, is_some}
use Rattle.std.specs.List.{All, AllByRecursion}
use Rattle.std.proofs.lemmas.List.Sums.{sum_by-cons}
use Rattle.std.proofs.lemmas.List.Elements.{All-from_recursion}
use Rattle.std.proofs.lemmas.Nat.{mul-le}
use Rattle.pw_planes.specs.declared.kinds.AlphaKind.{AlphaKind}
use Rattle.pw_planes.specs.declared.kinds.AlphaKind.TheVariants.{Absent, Eight, Sixteen}
use Rattle.pw_planes.specs.declared.picture.Picture.{Picture}
use Rattle.pw_planes.specs.Picture.{HasSize}
use Rattle.pw_planes.specs.Plane.{Raster}
use Rattle.pr_geom.specs.declared.layout.Layout.{Layout}
use Rattle.pr_geom.specs.Layout.{slices_of}
use Rattle.pr_geom.specs.Slices.{pictures_of}
use Rattle.pr_frame.specs.Coded.{HasArrays, IsWritableHeader}
use Rattle.pic_y4m.specs.Frames.{has_alpha}
use Rattle.pic_raw.specs.Raw.{IsPicture, alpha_limit}
use Rattle.rate_table.specs.Table.{IsTable, indices}
use Rattle.rate_build.specs.Coefficients.{FrameCoefficients, AreOfLayout, IsPictureOf, HasDepth}
use Rattle.rate_build.specs.Coding.{IsHeaderOf}
use Rattle.rate_build.specs.Groups.{GroupTableIsTable, group_slices}
use Rattle.rate_build.specs.Laws.{HasAlpha, CoefficientsAreOfLayout, CodedIsReady, ChoiceHasIndices}
use Rattle.rate_build.proofs.Whole.{slices_number}
use Rattle.run_encode.specs.declared.job.Job.{Job}
use Rattle.run_encode.specs.Groups.{IsFrameOf, IsJob, coefficients_in, header_in, frame_slices, table_of_group}
use Rattle.run_encode.proofs.Framed.{FrameIsReady}

-- a format with alpha has a plane of it, within its bit depth
alpha-within : (kind : AlphaKind) (a : Option Raster) → is_some a ≡ has_alpha kind → IfSome a (λ p. All (λ s. s < alpha_limit kind) p.samples) → HasAlpha kind a
alpha-within Absent None e h = tt
alpha-within Absent (Some p) e h = cc
alpha-within Eight None e h = cc
alpha-within Eight (Some p) e h = h
alpha-within Sixteen None e h = cc
alpha-within Sixteen (Some p) e h = h

module _ (j : Job) (is : IsJob j) where
  -- ---- the header of frames

  arrays : HasArrays (header_in j)
  arrays = record { encoder = refl; luma = is.matrices.luma; chroma_weights = is.matrices.chroma }

  writable : IsWritableHeader (header_in j)
  writable = record { version = refl; aspect = omega arith; rate = omega arith; luma = is.weights.luma; chroma_weights = is.weights.chroma }

  header-is : (p : Picture) → IsHeaderOf (coefficients_in j p) (header_in j)
  header-is p = record {
    width = sym is.layout.width;
    height = sym is.layout.height;
    chroma = sym is.layout.chroma;
    interlace = sym is.layout.interlace;
    alpha = refl;
  }

  -- ---- the coefficients of pictures

  picture-of : (p : Picture) → IsPicture j.head p → IsPictureOf j.layout p
  picture-of p h = record {
    size = subst (λ w. HasSize p w j.layout.height) (sym is.layout.width) (subst (λ n. HasSize p j.head.width n) (sym is.layout.height) h.form.size);
    chroma = h.form.chroma ∙ sym is.layout.chroma;
    y = subst (λ d. HasDepth p.y d) (sym h.form.depth) h.form.luma;
    cb = subst (λ d. HasDepth p.cb d) (sym h.form.depth) h.form.cb;
    cr = subst (λ d. HasDepth p.cr d) (sym h.form.depth) h.form.cr;
  }

  module _ (of-layout : CoefficientsAreOfLayout) where
    frame-of : (p : Picture) → IsPicture j.head p → IsFrameOf j (coefficients_in j p)
    frame-of p h = record {
      layout = refl;
      of = of-layout j.layout p j.head.alpha (picture-of p h) (alpha-within j.head.alpha p.alpha h.form.alpha h.alpha);
      header = header-is p;
    }

    pub frames-of-pictures : (ps : List Picture) → AllByRecursion (IsPicture j.head) ps → AllByRecursion (IsFrameOf j) (map (coefficients_in j) ps)
    frames-of-pictures [] h = tt
    frames-of-pictures (p ∷ ps) h = (frame-of p h.0, frames-of-pictures ps h.1)

  -- ---- the table of a group

  slices-together : (cs : List FrameCoefficients) → AllByRecursion (IsFrameOf j) cs → group_slices cs ≡ length cs * frame_slices j
  slices-together [] of = omega arith
  slices-together (c ∷ cs) of =
      let here : length c.slices ≡ frame_slices j = slices_number c of.0.of ∙ ap (λ (l : Layout). pictures_of l.interlace * length (slices_of l)) of.0.layout in
      let times : length (c ∷ cs) * frame_slices j ≡ frame_slices j + length cs * frame_slices j = omega arith in
      omega (arith, here, times, slices-together cs of.1, sum_by-cons (λ (x : FrameCoefficients). length x.slices) c cs)

  all-of-layout : (cs : List FrameCoefficients) → AllByRecursion (IsFrameOf j) cs → AllByRecursion AreOfLayout cs
  all-of-layout [] of = tt
  all-of-layout (c ∷ cs) of = (of.0.of, all-of-layout cs of.1)

  pub group-is-table : GroupTableIsTable → (cs : List FrameCoefficients) → AllByRecursion (IsFrameOf j) cs → 1 ≤ length cs → length cs ≤ j.group → IsTable (table_of_group j cs)
  unfolding table_of_group
  group-is-table law cs of some few =
      let budget = mul-le (length cs) j.budget j.group j.budget few (omega arith) in
      let slices = mul-le (length cs) (frame_slices j) j.group (frame_slices j) few (omega arith) in
      (law cs j.weights j.lo j.hi j.budget (All-from_recursion AreOfLayout cs (all-of-layout cs of)) is.matrices is.weights is.least is.order is.most some is.some_budget
      (omega (arith, budget, is.budget)) (omega (arith, slices, is.slices, slices-together cs of))).1

  -- ---- coded frames

  pub all-ready : CodedIsReady → ChoiceHasIndices → (cs : List FrameCoefficients) → AllByRecursion (IsFrameOf j) cs → AllByRecursion (FrameIsReady j) cs
  all-ready coded has [] of = tt
  all-ready coded has (c ∷ cs) of =
      let ready : FrameIsReady j c = λ choice h.
      let n = has c j.weights j.lo j.hi 0 choice is.least is.most h in
      let r = coded c (header_in j) (indices choice) of.0.of of.0.header arrays writable n.0 n.1 in
      (r.shape, r.writable) in
      (ready, all-ready coded has cs of.1)
