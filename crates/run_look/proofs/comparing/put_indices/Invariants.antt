use Rattle.std.proofs.Common.{◌≡◌, ◌++◌, map, take}
use Rattle.pr_frame.specs.declared.coded.CodedSlice.{CodedSlice}
use Rattle.run_look.proofs.comparing.put_indices.Given as goal

abbrev pub invariant-loop-slice : goal.invariant-loop-slice
invariant-loop-slice l = l.found.items ≡ l.initial.found.items ++ map (λ (slice : CodedSlice). slice.index) (take l.slice-index l.picture.slices)
