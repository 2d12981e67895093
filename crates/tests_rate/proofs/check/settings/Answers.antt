use Rattle.std.proofs.Common.{◌≡◌, ◌*◌, None, refl, sym, subst, arith, ◌≤◌, ℕ}
use Rattle.pw_planes.specs.declared.kinds.Interlace.TheVariants.{Progressive}
use Rattle.pr_geom.specs.Faults.{first_fault, slice_count}
use Rattle.pr_geom.specs.Slices.{picture_slices, row_slices}
use Rattle.tests_rate.proofs.check.settings.Goals as goal

layout : first_fault 32 16 0 Progressive ≡ None
unfolding slice_count picture_slices row_slices
layout = refl

two : slice_count 32 16 0 Progressive ≡ 2
unfolding slice_count picture_slices row_slices
two = refl

few : (group n : ℕ) → n ≡ 2 → group ≤ 8 → group * (1 * n) ≤ 131070
few group n e h = subst (λ (k : ℕ). group * (1 * k) ≤ 131070) (sym e) (omega (arith, h))

pub returns : goal.returns
returns c = record {
  form = omega arith;
  group_from = c.requires.group_from;
  group_to = c.requires.group_to;
  products = λ e. absurd (omega (arith, e));
  size = omega arith;
  layout = layout;
  slices = few c.args.group (slice_count 32 16 0 Progressive) two c.requires.group_to;
  lo = omega arith;
  order = c.requires.hi_from;
  hi = c.requires.hi_to;
  num_from = omega arith;
  num_to = omega arith;
  den_from = omega arith;
  den_to = omega arith;
  luma_count = c.weights-luma.ensures.count;
  luma = c.weights-luma.ensures.each;
  chroma_count = c.weights-chroma_weights.ensures.count;
  chroma_weights = c.weights-chroma_weights.ensures.each;
  some_budget = c.requires.some;
  budget = c.requires.small;
}
