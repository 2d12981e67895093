-- The groups of pictures by their numbers: how many pictures each has, that its frames are of the run, and that its table is within the
-- limits.
use Rattle.std.proofs.Common.{ℕ, ◌*◌, ◌<◌, ◌≤◌, arith, length, map, drop}
use Rattle.std.specs.List.{AllByRecursion}
use Rattle.std.proofs.lemmas.List.{length-map}
use Rattle.std.proofs.lemmas.List.Elements.{All-take, All-drop, recursion_from_All}
use Rattle.pic_y4m.specs.Frames.{Pictures}
use Rattle.pic_raw.specs.Raw.{IsPicture}
use Rattle.rate_table.specs.Table.{IsTable}
use Rattle.rate_build.specs.Groups.{GroupTableIsTable, group_at}
use Rattle.rate_build.specs.Laws.{CoefficientsAreOfLayout}
use Rattle.run_encode.specs.declared.job.Job.{Job}
use Rattle.run_encode.specs.Groups.{IsFrameOf, IsJob, ArePictures, coefficients_in, group_count, table_in}
use Rattle.run_encode.proofs.Ready.{frames-of-pictures, group-is-table}
use Rattle.run_encode.proofs.Numbered.{group-length, count-left}

module _ (of-layout : CoefficientsAreOfLayout) (group-table : GroupTableIsTable) (j : Job) (is : IsJob j) (all : Pictures) (are : ArePictures j.head all) where
  -- the frames of group k
  pub here-frames : (k : ℕ) → AllByRecursion (IsFrameOf j) (map (coefficients_in j) (group_at j.group all.pictures k))
  here-frames k = frames-of-pictures j is of-layout (group_at j.group all.pictures k) (recursion_from_All (IsPicture j.head) (group_at j.group all.pictures k)
      (All-take (IsPicture j.head) j.group (drop (j.group * k) all.pictures) (All-drop (IsPicture j.head) (j.group * k) all.pictures are.each)))

  pub here-some : (k : ℕ) → k < group_count j.group all → 1 ≤ length (group_at j.group all.pictures k)
  here-some k lt =
      let left = count-left j.group k (length all.pictures) all.fault is.some_group lt in
      omega (arith, group-length j.group k all.pictures, left, is.some_group)

  pub here-few : (k : ℕ) → length (group_at j.group all.pictures k) ≤ j.group
  here-few k = omega (arith, group-length j.group k all.pictures)

  -- its table is within the limits
  pub here-table : (k : ℕ) → k < group_count j.group all → IsTable (table_in j (group_at j.group all.pictures k))
  here-table k lt =
      let n = length-map (group_at j.group all.pictures k) (coefficients_in j) in
      group-is-table j is group-table (map (coefficients_in j) (group_at j.group all.pictures k)) (here-frames k) (omega (arith, n, here-some k lt)) (omega (arith, n, here-few k))
