-- The least and the greatest of numbers after others.
use Rattle.std.proofs.Common.{◌≡◌, ℕ, ◌≤◌, min, max, List, [], ◌∷◌, ◌++◌, arith}
use Rattle.pr_frame.specs.Shown.{least, greatest}

pub least_small : (ns : List ℕ) → least ns ≤ 255
least_small [] = omega arith
least_small (n ∷ ns) = omega (arith, least_small ns)

pub least_behind : (ms ns : List ℕ) → least (ms ++ ns) ≡ min (least ms) (least ns)
least_behind [] ns = omega (arith, least_small ns)
least_behind (m ∷ ms) ns = omega (arith, least_behind ms ns)

pub greatest_behind : (ms ns : List ℕ) → greatest (ms ++ ns) ≡ max (greatest ms) (greatest ns)
greatest_behind [] ns = omega arith
greatest_behind (m ∷ ms) ns = omega (arith, greatest_behind ms ns)
