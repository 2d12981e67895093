-- Offsets below 2^62.
use Rattle.std.proofs.Common.{◌≡◌, ℕ, ◌^◌, ◌<◌, Bool, true, false, nat_le, ◌||◌, List, [], ◌∷◌, refl, arith}
use Rattle.std.proofs.lemmas.Bool.Decides.{nat_tests}
use Rattle.std.specs.List.{AllByRecursion, list_any, All}
use Rattle.std.proofs.lemmas.List.Elements.{All-from_recursion}

pub both : (a b : Bool) → (a || b) ≡ false → (a ≡ false) × (b ≡ false)
both true b h = absurd cc
both false b h = (refl, h)

near : (xs : List ℕ) → list_any (λ offset. nat_le (2 ^ 62) offset) xs ≡ false → AllByRecursion (λ offset. offset < 2 ^ 62) xs
near [] h = tt
near (x ∷ xs) h = let p = both (nat_le (2 ^ 62) x) (list_any (λ offset. nat_le (2 ^ 62) offset) xs) h in (grind (arith, nat_tests, p.0), near xs p.1)

pub near-of : (xs : List ℕ) → list_any (λ offset. nat_le (2 ^ 62) offset) xs ≡ false → All (λ offset. offset < 2 ^ 62) xs
near-of xs h = All-from_recursion (λ offset. offset < 2 ^ 62) xs (near xs h)

pub none-far : (offsets : List ℕ) → AllByRecursion (λ offset. offset < 2 ^ 62) offsets → list_any (λ offset. nat_le (2 ^ 62) offset) offsets ≡ false
none-far [] h = refl
none-far (offset ∷ offsets) h = let e : nat_le (2 ^ 62) offset ≡ false = grind (arith, nat_tests, h.0) in rw e (none-far offsets h.1)
