-- The table of a group of frames is within the limits of tables.
use Rattle.std.proofs.Common.{◌≡◌, ℕ, ◌+◌, ◌*◌, ◌^◌, ◌<◌, ◌≤◌, List, [], ◌∷◌, length, length-append, map, refl, arith}
use Rattle.std.specs.List.{All, sum_by, flat_map}
use Rattle.std.proofs.lemmas.Nat.{mul-le}
use Rattle.std.proofs.lemmas.List.{length-map}
use Rattle.std.proofs.lemmas.List.Elements.{All-nil, All-head, All-tail, All-append}
use Rattle.std.proofs.lemmas.List.Sums.{sum_by-cons}
use Rattle.pr_geom.specs.Layout.{slices_of}
use Rattle.pr_geom.specs.Slices.{pictures_of}
use Rattle.pr_quant.specs.declared.weights.Weights.{Weights}
use Rattle.rate_table.specs.Table.{Table, IsTable, IsSliceTable}
use Rattle.rate_build.specs.Coefficients.{FrameCoefficients, AreOfLayout}
use Rattle.rate_build.specs.Tables.{table_of, fixed_bytes, AreWeights}
use Rattle.rate_build.specs.Laws.{AreMatrices}
use Rattle.rate_build.specs.Groups.{group_slices, GroupTableIsTable}
use Rattle.rate_build.proofs.Whole.{slices_number, pictures_few}
use Rattle.rate_build.proofs.Limits.{table_within}

module _ (w : Weights) (whole : AreMatrices w) (weights : AreWeights w) (lo hi budget : ℕ) (least : 1 ≤ lo) (order : lo ≤ hi) (most : hi ≤ 224) (some_budget : 1 ≤ budget) (small : budget < 2 ^ 31) where
  abbrev one : FrameCoefficients → Table
  one c = table_of c w lo hi budget

  one_within : (c : FrameCoefficients) → AreOfLayout c → IsTable (one c)
  one_within c are = table_within c w lo hi budget are whole weights least order most some_budget small

  -- what holds of the table of the first frames
  record Bounds (cs : List FrameCoefficients) : Type 0 where
    budget_is : sum_by (λ (t : Table). t.budget) (map one cs) ≡ length cs * budget
    fixed_few : sum_by (λ (t : Table). t.fixed) (map one cs) ≤ 172 * length cs + 2 * group_slices cs
    number : length (flat_map (λ (t : Table). t.slices) (map one cs)) ≡ group_slices cs
    frames : length cs ≤ group_slices cs
    each : All IsSliceTable (flat_map (λ (t : Table). t.slices) (map one cs))

  fixed_of : (c : FrameCoefficients) → AreOfLayout c → fixed_bytes c.layout ≤ 172 + 2 * length c.slices
  fixed_of c are =
      let n = length (slices_of c.layout) in
      let p = pictures_of c.layout.interlace in
      let two : p * (8 + 2 * n) ≡ 8 * p + 2 * (p * n) = omega arith in
      omega (arith, two, slices_number c are, (pictures_few c.layout.interlace).1)

  bounds : (cs : List FrameCoefficients) → All AreOfLayout cs → Bounds cs
  bounds [] are = record { budget_is = omega arith; fixed_few = omega arith; number = refl; frames = omega arith; each = All-nil IsSliceTable }
  bounds (c ∷ cs) are =
      let first = All-head AreOfLayout c cs are in
      let t = one_within c first in
      let b = bounds cs (All-tail AreOfLayout c cs are) in
      let n : length (one c).slices ≡ length c.slices = length-map c.slices _ in
      let slices = sum_by-cons (λ (c : FrameCoefficients). length c.slices) c cs in
      let suc_times : length (c ∷ cs) * budget ≡ budget + length cs * budget = omega arith in
      record {
        budget_is = omega (arith, suc_times, b.budget_is, sum_by-cons (λ (t : Table). t.budget) (one c) (map one cs));
        fixed_few = omega (arith, b.fixed_few, slices, fixed_of c first, sum_by-cons (λ (t : Table). t.fixed) (one c) (map one cs));
        number = omega (arith, n, b.number, slices, length-append (one c).slices (flat_map (λ (t : Table). t.slices) (map one cs)));
        frames = omega (arith, t.some, n, b.frames, slices);
        each = All-append IsSliceTable (one c).slices (flat_map (λ (t : Table). t.slices) (map one cs)) t.each b.each;
      }

pub group_within : GroupTableIsTable
group_within cs w lo hi budget are whole weights least order most some some_budget limit few =
    let small : budget < 2 ^ 31 = omega (arith, limit, mul-le 1 budget (length cs) budget some (omega arith)) in
    let b = bounds w whole weights lo hi budget least order most some_budget small cs are in (
      b.budget_is,
      record {
        some_budget = omega (arith, b.budget_is, mul-le 1 1 (length cs) budget some some_budget);
        budget_limit = omega (arith, b.budget_is, limit);
        fixed_limit = omega (arith, b.fixed_few, b.frames, few);
        some = omega (arith, b.number, b.frames, some);
        few = omega (arith, b.number, few);
        each = b.each;
      },
    )
