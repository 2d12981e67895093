-- Parts of a source (our own).
use Rattle.std.proofs.Common.{◌≡◌, refl, ℕ, List, take, drop, Option, Some, None, arith}
use Rattle.std.specs.Option.{option_map}
use Rattle.std.proofs.lemmas.List.{length-take}
use Rattle.pw_outside.specs.Ports.{IsBound, Lowers, GoesOn}
use Rattle.pw_outside.specs.Reading.{bytes_of}
use Rattle.std.specs.Prelude.{IsSome}
use Rattle.pw_outside.proofs.Loops.{Lowers-same}

-- no more bytes are left than the window has
pub window-bound : (n : ℕ) (left : Option (List ℕ)) → IsBound (Some n) (option_map (take n) left)
window-bound n None = tt
window-bound n (Some xs) = omega (arith, length-take n xs)

-- the first n of the bytes that are left, or fewer where there are no more
abbrev pub first_bytes : ℕ → Option (List ℕ) → Option (List ℕ)
first_bytes n left = option_map (take n) left

-- What reading from a window makes of its source: the same source, whose `becomes` is preserved, whose bound is no
-- higher, whose bytes stay visible, and which has the same bytes after the window. A prime marks the later state.
pub record Moves {X N : Type 0} (Becomes : X → X → Type 0) (most most' : Option ℕ) (left left' : Option (List ℕ)) (a a' : X) (n n' : N) (w w' : ℕ) : Type 0 where
  pub same : n' ≡ n
  pub port : GoesOn Becomes a a'
  pub bound : Lowers most most' 0
  pub told : IsSome left → IsSome left'
  pub behind : IsSome left → drop w' (bytes_of left') ≡ drop w (bytes_of left)

pub Moves-same : {X N : Type 0} (Becomes : X → X → Type 0) (most : Option ℕ) (left : Option (List ℕ)) (a : X) (n : N) (w : ℕ) → Moves Becomes most most left left a a n n w w
Moves-same Becomes most left a n w = record { same = refl; port = λ first h. h; bound = Lowers-same most; told = λ t. t; behind = λ t. refl }
