-- Lists side by side.
use Rattle.std.proofs.Common.{◌≡◌, refl, ℕ, zero, suc, ◌+◌, ◌*◌, ◌<◌, List, [], ◌∷◌, ◌++◌, Some, arith, length, map, take, drop, ap, sym, subst, ◌∙◌}
use Rattle.std.specs.Prelude.{slice_get}
use Rattle.std.specs.List.{flat_map, AllByRecursion, AllZip}
use Rattle.std.proofs.lemmas.List.{take_at, drop_at, drop-drop}

-- ---- the item at an index

pub get-behind : {A : Type 0} (xs ys : List A) (k : ℕ) → slice_get (xs ++ ys) (length xs + k) ≡ slice_get ys k
get-behind [] ys k = ap (slice_get ys) (let e : 0 + k ≡ k = omega arith in e)
get-behind (x ∷ xs) ys k =
    let e : length (x ∷ xs) + k ≡ suc (length xs + k) = omega arith in
    ap (slice_get ((x ∷ xs) ++ ys)) e ∙ get-behind xs ys k

pub get-front : {A : Type 0} (xs ys : List A) (k : ℕ) (x : A) → slice_get xs k ≡ Some x → slice_get (xs ++ ys) k ≡ Some x
get-front [] ys k x e = absurd cc
get-front (y ∷ xs) ys zero x e = e
get-front (y ∷ xs) ys (suc k) x e = get-front xs ys k x e

pub get-within : {A : Type 0} (xs : List A) (k : ℕ) → k < length xs → (x : A) × (slice_get xs k ≡ Some x)
get-within [] k h = absurd (omega (arith, h))
get-within (x ∷ xs) zero h = (x, refl)
get-within (x ∷ xs) (suc k) h = get-within xs k (omega (arith, h))

pub get-mapped : {A B : Type 0} (f : A → B) (xs : List A) (k : ℕ) (x : A) → slice_get xs k ≡ Some x → slice_get (map f xs) k ≡ Some (f x)
get-mapped f [] k x e = absurd cc
get-mapped f (y ∷ xs) zero x e = cc
get-mapped f (y ∷ xs) (suc k) x e = get-mapped f xs k x e

pub all-get : {A : Type 0} (P : A → Type 0) (xs : List A) (k : ℕ) (x : A) → AllByRecursion P xs → slice_get xs k ≡ Some x → P x
all-get P [] k x h e = absurd cc
all-get P (y ∷ xs) zero x h e = let same : y ≡ x = cc in subst P same h.0
all-get P (y ∷ xs) (suc k) x h e = all-get P xs k x h.1 e

-- ---- two lists side by side

pub zip-get : {A B : Type 0} (R : A → B → Type 0) (xs : List A) (ys : List B) (k : ℕ) (y : B) → AllZip R xs ys → slice_get ys k ≡ Some y → (x : A) × (slice_get xs k ≡ Some x) × R x y
zip-get R [] [] k y h e = absurd cc
zip-get R [] (b ∷ ys) k y h e = absurd h
zip-get R (a ∷ xs) [] k y h e = absurd h
zip-get R (a ∷ xs) (b ∷ ys) zero y h e = let same : b ≡ y = cc in (a, refl, subst (R a) same h.0)
zip-get R (a ∷ xs) (b ∷ ys) (suc k) y h e = zip-get R xs ys k y h.1 e

-- ---- parts of equally many items

-- part 0 begins the list
pub part-first : {A : Type 0} (n : ℕ) (l : List A) → drop (n * 0) l ≡ l
part-first n l = ap (λ m. drop m l) (let e : n * 0 ≡ 0 = omega arith in e)

-- part k + 1 is part k of the rest
pub part-next : {A : Type 0} (n k : ℕ) (l : List A) → drop (n * suc k) l ≡ drop (n * k) (drop n l)
part-next n k l = ap (λ m. drop m l) (let e : n * suc k ≡ n + n * k = omega arith in e) ∙ sym (drop-drop (n * k) n l)

-- part k of pieces of n items each is piece k
pub part-of-pieces : {A X : Type 0} (f : X → List A) (n : ℕ) (xs : List X) (k : ℕ) (x : X) → AllByRecursion (λ x. length (f x) ≡ n) xs → slice_get xs k ≡ Some x
    → take n (drop (n * k) (flat_map f xs)) ≡ f x
part-of-pieces f n [] k x h e = absurd cc
part-of-pieces f n (y ∷ xs) zero x h e =
    let same : y ≡ x = cc in
    ap (take n) (part-first n (flat_map f (y ∷ xs))) ∙ take_at (f y) (flat_map f xs) n h.0 ∙ ap f same
part-of-pieces f n (y ∷ xs) (suc k) x h e =
    ap (take n) (part-next n k (flat_map f (y ∷ xs)) ∙ ap (drop (n * k)) (drop_at (f y) (flat_map f xs) n h.0))
    ∙ part-of-pieces f n xs k x h.1 e
