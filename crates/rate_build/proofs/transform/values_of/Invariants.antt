use Rattle.std.proofs.Common.{◌≡◌, ◌+◌, ◌*◌, ◌/◌, ◌%◌, map}
use Rattle.std.specs.List.{range_with_len}
use Rattle.pw_planes.specs.Plane.{sample_at}
use Rattle.rate_build.proofs.transform.values_of.Given as goal

abbrev pub invariant-loop-k : goal.invariant-loop-k
invariant-loop-k l = l.values.items ≡ map (λ k. sample_at l.plane (16 * l.slice.column + k % (16 * l.slice.width)) (16 * l.slice.row + k / (16 * l.slice.width))) (range_with_len 0 l.k)
