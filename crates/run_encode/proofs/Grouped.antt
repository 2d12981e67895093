-- The table of a group: its budget, its fixed bytes and its slices.
use Rattle.std.proofs.Common.{◌≡◌, refl, ◌+◌, ◌*◌, List, [], ◌∷◌, arith, length, map, ap, ◌∙◌, length-append}
use Rattle.std.specs.List.{flat_map, AllByRecursion, sum_by}
use Rattle.std.proofs.lemmas.List.Folds.{flat_map-map}
use Rattle.std.proofs.lemmas.List.Sums.{sum_by-cons}
use Rattle.rate_table.specs.Table.{Table, group_table}
use Rattle.rate_build.specs.Coefficients.{FrameCoefficients}
use Rattle.rate_build.specs.Tables.{table_of, fixed_bytes}
use Rattle.run_encode.specs.declared.job.Job.{Job}
use Rattle.run_encode.specs.Groups.{IsFrameOf, frame_slices, slice_tables, table_of_group}
use Rattle.run_encode.proofs.Shares.{slices-are}

module _ (j : Job) where
  abbrev one : FrameCoefficients → Table
  one c = table_of c j.weights j.lo j.hi j.budget

  -- it is the frames' tables joined
  pub table-is : (cs : List FrameCoefficients) → table_of_group j cs ≡ group_table (map one cs)
  unfolding table_of_group
  table-is cs = refl

  pub table-slices : (cs : List FrameCoefficients) → (table_of_group j cs).slices ≡ flat_map (slice_tables j) cs
  unfolding table_of_group
  table-slices cs = flat_map-map (λ (t : Table). t.slices) one cs

  budgets : (cs : List FrameCoefficients) → sum_by (λ (t : Table). t.budget) (map one cs) ≡ length cs * j.budget
  budgets [] = omega arith
  budgets (c ∷ cs) =
      let more = budgets cs in
      let times : length (c ∷ cs) * j.budget ≡ j.budget + length cs * j.budget = omega arith in
      omega (arith, times, more, sum_by-cons (λ (t : Table). t.budget) (one c) (map one cs))

  pub table-budget : (cs : List FrameCoefficients) → (table_of_group j cs).budget ≡ length cs * j.budget
  unfolding table_of_group
  table-budget cs = budgets cs

  fixed : (cs : List FrameCoefficients) → AllByRecursion (IsFrameOf j) cs → sum_by (λ (t : Table). t.fixed) (map one cs) ≡ length cs * fixed_bytes j.layout
  fixed [] is = omega arith
  fixed (c ∷ cs) is =
      let more = fixed cs is.1 in
      let here : fixed_bytes c.layout ≡ fixed_bytes j.layout = ap fixed_bytes is.0.layout in
      let times : length (c ∷ cs) * fixed_bytes j.layout ≡ fixed_bytes j.layout + length cs * fixed_bytes j.layout = omega arith in
      omega (arith, times, more, here, sum_by-cons (λ (t : Table). t.fixed) (one c) (map one cs))

  pub table-fixed : (cs : List FrameCoefficients) → AllByRecursion (IsFrameOf j) cs → (table_of_group j cs).fixed ≡ length cs * fixed_bytes j.layout
  unfolding table_of_group
  table-fixed cs is = fixed cs is

  slices-number : (cs : List FrameCoefficients) → AllByRecursion (IsFrameOf j) cs → length (flat_map (slice_tables j) cs) ≡ length cs * frame_slices j
  slices-number [] is = omega arith
  slices-number (c ∷ cs) is =
      let more = slices-number cs is.1 in
      let here = slices-are j c is.0 in
      let times : length (c ∷ cs) * frame_slices j ≡ frame_slices j + length cs * frame_slices j = omega arith in
      omega (arith, times, more, here, length-append (slice_tables j c) (flat_map (slice_tables j) cs))

  pub table-number : (cs : List FrameCoefficients) → AllByRecursion (IsFrameOf j) cs → length (table_of_group j cs).slices ≡ length cs * frame_slices j
  table-number cs is = ap length (table-slices cs) ∙ slices-number cs is
