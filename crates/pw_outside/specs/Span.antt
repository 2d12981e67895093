-- Parts of a store (our own definitions).
use Rattle.std.proofs.Common.{◌≡◌, refl, ℕ, ◌-◌, ◌≤◌, List, take, drop, Option, Some, None, arith}
use Rattle.std.specs.Option.{option_map}
use Rattle.std.proofs.lemmas.List.{length-take}
use Rattle.pw_outside.specs.Ports.{IsBound}

-- the bytes from offset `at` up to `end`, or up to the end of all bytes where that comes first
abbrev pub part : ℕ → ℕ → Option (List ℕ) → Option (List ℕ)
part at end bytes = option_map (λ xs. take (end - at) (drop at xs)) bytes

-- no more bytes are left than lie before the end
pub part-bound : (at end : ℕ) (bytes : Option (List ℕ)) → IsBound (Some (end - at)) (part at end bytes)
part-bound at end None = tt
part-bound at end (Some xs) = omega (arith, length-take (end - at) (drop at xs))

-- What reading from a part makes of its store: the same store with the same bytes, the part with the same end and
-- at least the same start. A prime marks the later state.
pub record Passes {N : Type 0} (bytes bytes' : Option (List ℕ)) (n n' : N) (end end' at at' : ℕ) : Type 0 where
  pub same : n' ≡ n
  pub kept : bytes' ≡ bytes
  pub ends : end' ≡ end
  pub passed : at ≤ at'

pub Passes-same : {N : Type 0} (bytes : Option (List ℕ)) (n : N) (end at : ℕ) → Passes bytes bytes n n end end at at
Passes-same bytes n end at = record { same = refl; kept = refl; ends = refl; passed = omega arith }
