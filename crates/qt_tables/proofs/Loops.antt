-- Reading consecutive rows in a loop.
use Rattle.std.proofs.Common.{◌≡◌, ℕ, suc, ◌-◌, ◌+◌, ◌*◌, ◌<◌, List, [], ◌∷◌, ◌++◌, Result, Ok, sym, ◌∙◌, append_assoc, arith}
use Rattle.pw_outside.specs.Reading.{Fault}
use Rattle.qt_tables.specs.declared.fault.MovieKind.{MovieKind}
use Rattle.qt_atoms.specs.Written.{rows}

-- one more row
pub rows-more : {X : Type 0} (row : ℕ → X) (front : List X) (from step count i : ℕ) (x : X) (total : List X) → i < count → row (from + step * i) ≡ x
    → front ++ rows row (from + step * i) step (count - i) ≡ total → (front ++ x ∷ []) ++ rows row (from + step * (i + 1)) step (count - (i + 1)) ≡ total
rows-more {X} row front from step count i x total lt h so_far =
    let k : count - i ≡ suc (count - (i + 1)) = omega arith in
    let next : (from + step * i) + step ≡ from + step * (i + 1) = omega arith in
    let one : front ++ rows row (from + step * i) step (count - i) ≡ (front ++ x ∷ []) ++ rows row (from + step * (i + 1)) step (count - (i + 1)) =
    rw (k, h, next) (sym (append_assoc front (x ∷ []) (rows row (from + step * (i + 1)) step (count - (i + 1))))) in
    sym one ∙ so_far

abbrev found : {X : Type 0} → X → Result X (Fault MovieKind)
found x = Ok x

-- one more row that was read
pub rows-read : {X : Type 0} (row : ℕ → X) (front : List X) (from step count i : ℕ) (x : X) (total : List X) → i < count → found (row (from + step * i)) ≡ found x
    → front ++ rows row (from + step * i) step (count - i) ≡ total → (front ++ x ∷ []) ++ rows row (from + step * (i + 1)) step (count - (i + 1)) ≡ total
rows-read row front from step count i x total lt h so_far = let e : row (from + step * i) ≡ x = cc in rows-more row front from step count i x total lt e so_far
