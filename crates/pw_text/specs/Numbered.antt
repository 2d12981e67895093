-- Lines with their numbers. Our own definitions.
use Rattle.std.specs.Prelude.{ℕ, ◌+◌, List, [], ◌∷◌, ◌++◌}

-- the lines of the items, each made of its number and the item; the first item has this number
abbrev pub numbered : {X : Type 0} → (ℕ → X → List ℕ) → ℕ → List X → List ℕ
numbered line number [] = []
numbered line number (x ∷ xs) = line number x ++ numbered line (number + 1) xs
