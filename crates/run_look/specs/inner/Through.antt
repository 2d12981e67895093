-- The effect of reading on a source whose bytes are visible (our own).
use Rattle.std.specs.Prelude.{◌≡◌, ℕ, List, Option, IsSome}
use Rattle.std.proofs.Common.{refl}
use Rattle.pw_outside.specs.Reading.{AreBytes, bytes_of}

-- It is the same source, its bytes stay visible, and those that it returned are below 256. A prime marks the later
-- state.
pub record GaveBytes {N : Type 0} (left left' : Option (List ℕ)) (n n' : N) : Type 0 where
  pub same : n' ≡ n
  pub told : IsSome left → IsSome left'
  pub bytes : IsSome left → AreBytes (bytes_of left') → AreBytes (bytes_of left)

pub GaveBytes-same : {N : Type 0} (left : Option (List ℕ)) (n : N) → GaveBytes left left n n
GaveBytes-same left n = record { same = refl; told = λ t. t; bytes = λ t fit. fit }
