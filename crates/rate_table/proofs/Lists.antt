-- Elements of lists that are built from others.
use Rattle.std.proofs.Common.{◌≡◌, ℕ, zero, suc, ◌*◌, List, [], ◌∷◌, map, length, refl, sym, subst, arith, ◌⊎◌, inl, inr, ⊎_elim}
use Rattle.std.specs.List.{Contains, flat_map}
use Rattle.std.proofs.Math.Nat.{suc-mul}
use Rattle.std.proofs.lemmas.List.{length-append}
use Rattle.std.proofs.lemmas.List.Elements.{Contains-append_left, Contains-append_right, Contains-append_cases}

pub contains_cases : {X : Type 0} (x : X) (xs : List X) (y : X) → Contains (x ∷ xs) y → (x ≡ y) ⊎ Contains xs y
contains_cases x xs y (zero, h, e) = inl e
contains_cases x xs y (suc k, h, e) = inr (k, omega arith, e)

pub contains_tail : {X : Type 0} (x : X) (xs : List X) (y : X) → Contains xs y → Contains (x ∷ xs) y
contains_tail x xs y h = (suc h.0, omega (arith, h.1), h.2)

pub contains_head : {X : Type 0} (x : X) (xs : List X) → Contains (x ∷ xs) x
contains_head x xs = (0, omega arith, refl)

pub contains_none : {X : Type 0} (y : X) → Contains [] y → ⊥
contains_none y h = omega (arith, h.1)

pub contains_map : {X Y : Type 0} (f : X → Y) (xs : List X) (y : Y) → Contains (map f xs) y → (x : X) × Contains xs x × (f x ≡ y)
contains_map f [] y c = absurd (contains_none y c)
contains_map f (x ∷ xs) y c =
    ⊎_elim (λ e. (x, contains_head x xs, e)) (λ i. let r = contains_map f xs y i in (r.0, contains_tail x xs r.0 r.1, r.2)) (contains_cases (f x) (map f xs) y c)

pub map_contains : {X Y : Type 0} (f : X → Y) (xs : List X) (x : X) → Contains xs x → Contains (map f xs) (f x)
map_contains f [] x c = absurd (contains_none x c)
map_contains f (z ∷ xs) x c =
    ⊎_elim (λ e. subst (λ w. Contains (f z ∷ map f xs) (f w)) e (contains_head (f z) (map f xs))) (λ i. contains_tail (f z) (map f xs) (f x) (map_contains f xs x i)) (contains_cases z xs x c)

pub contains_flat : {X Y : Type 0} (f : X → List Y) (xs : List X) (y : Y) → Contains (flat_map f xs) y → (x : X) × Contains xs x × Contains (f x) y
contains_flat f [] y c = absurd (contains_none y c)
contains_flat f (x ∷ xs) y c =
    ⊎_elim (λ i. (x, contains_head x xs, i)) (λ i. let r = contains_flat f xs y i in (r.0, contains_tail x xs r.0 r.1, r.2)) (Contains-append_cases (f x) (flat_map f xs) y c)

pub flat_contains : {X Y : Type 0} (f : X → List Y) (xs : List X) (x : X) (y : Y) → Contains xs x → Contains (f x) y → Contains (flat_map f xs) y
flat_contains f [] x y c d = absurd (contains_none x c)
flat_contains f (z ∷ xs) x y c d =
    ⊎_elim (λ e. Contains-append_left (f z) (flat_map f xs) y (subst (λ w. Contains (f w) y) (sym e) d)) (λ i. Contains-append_right (f z) (flat_map f xs) y (flat_contains f xs x y i d)) (contains_cases z xs x c)

-- one piece for each element, all of the same length
pub length-flat : {X Y : Type 0} (f : X → List Y) (n : ℕ) (xs : List X) → ((x : X) → length (f x) ≡ n) → length (flat_map f xs) ≡ length xs * n
length-flat f n [] each = omega arith
length-flat f n (x ∷ xs) each = omega (arith, length-append (f x) (flat_map f xs), each x, length-flat f n xs each, suc-mul (length xs) n)
