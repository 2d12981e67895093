use Rattle.std.proofs.Common.{◌≡◌, drop}
use Rattle.pw_planes.specs.Plane.{uniform}
use Rattle.pr_frame.specs.Forms.{places_in}
use Rattle.pr_frame.specs.Shown.{shown_part, all_shown, width_of, height_of}
use Rattle.pr_frame.specs.inner.Placing.{with_placed}
use Rattle.pr_frame.proofs.pictures.part_plane.Given as goal

abbrev pub invariant-loop-number : goal.invariant-loop-number
invariant-loop-number l = record {
  value : with_placed l.plane (all_shown (shown_part l.header l.depth l.part) (drop l.number (places_in l.header l.picture.log2)) (drop l.number l.picture.slices))
      ≡ with_placed (uniform (width_of l.header l.part) (height_of l.header) 0) (all_shown (shown_part l.header l.depth l.part) (places_in l.header l.picture.log2) l.picture.slices);
}
