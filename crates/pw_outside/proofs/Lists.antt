-- Lists side by side, and bounds of their items.
use Rattle.std.proofs.Common.{ℕ, zero, suc, ◌<◌, List, [], ◌∷◌, ◌++◌, take, drop, get_or}
use Rattle.std.specs.Prelude.{Contains}
use Rattle.std.specs.List.{All, AllZip}
use Rattle.std.proofs.lemmas.List.Elements.{All-head, All-tail, Contains-get_or}

pub zip-take : {A B : Type 0} (R : A → B → Type 0) (n : ℕ) (xs : List A) (ys : List B) → AllZip R xs ys → AllZip R (take n xs) (take n ys)
zip-take R zero xs ys h = tt
zip-take R (suc n) [] [] h = tt
zip-take R (suc n) [] (y ∷ ys) h = absurd h
zip-take R (suc n) (x ∷ xs) [] h = absurd h
zip-take R (suc n) (x ∷ xs) (y ∷ ys) h = (h.0, zip-take R n xs ys h.1)

pub zip-drop : {A B : Type 0} (R : A → B → Type 0) (n : ℕ) (xs : List A) (ys : List B) → AllZip R xs ys → AllZip R (drop n xs) (drop n ys)
zip-drop R zero xs ys h = h
zip-drop R (suc n) [] [] h = tt
zip-drop R (suc n) [] (y ∷ ys) h = absurd h
zip-drop R (suc n) (x ∷ xs) [] h = absurd h
zip-drop R (suc n) (x ∷ xs) (y ∷ ys) h = zip-drop R n xs ys h.1

pub zip-append : {A B : Type 0} (R : A → B → Type 0) (xs xs' : List A) (ys ys' : List B) → AllZip R xs ys → AllZip R xs' ys' → AllZip R (xs ++ xs') (ys ++ ys')
zip-append R [] xs' [] ys' h k = k
zip-append R [] xs' (y ∷ ys) ys' h k = absurd h
zip-append R (x ∷ xs) xs' [] ys' h k = absurd h
zip-append R (x ∷ xs) xs' (y ∷ ys) ys' h k = (h.0, zip-append R xs xs' ys ys' h.1 k)

-- what holds of each item that the list contains
pub all_from : {X : Type 0} (P : X → Type 0) (xs : List X) → ((x : X) → Contains xs x → P x) → All P xs
all_from P xs f k d h = f (get_or xs k d) (Contains-get_or xs k d h)

-- every place has an item below the bound, a place past the end too
pub below-all : (bound : ℕ) (l : List ℕ) → 0 < bound → All (λ value. value < bound) l → (i : ℕ) → get_or l i 0 < bound
below-all bound [] some all i = some
below-all bound (x ∷ l) some all zero = All-head (λ value. value < bound) x l all
below-all bound (x ∷ l) some all (suc i) = below-all bound l some (All-tail (λ value. value < bound) x l all) i
