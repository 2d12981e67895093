-- Pictures cut into groups.
use Rattle.std.proofs.Common.{◌≡◌, refl, ℕ, zero, suc, ◌+◌, ◌-◌, ◌*◌, ◌/◌, ◌<◌, ◌≤◌, List, [], ◌∷◌, ◌++◌, arith, length, map, take, drop, ap, sym, take_at, ◌∙◌, length-append, append_assoc}
use Rattle.std.specs.List.{flat_map, range_with_len, AllByRecursion}
use Rattle.std.proofs.lemmas.List.{drop_at, drop-drop}
use Rattle.std.proofs.lemmas.Nat.{div-mul-add, le-div}
use Rattle.rate_build.specs.Groups.{group_at}

-- after a whole group, group k + 1 is group k of the rest
group-behind : {A : Type 0} (size k : ℕ) (g xs : List A) → length g ≡ size → group_at size (g ++ xs) (k + 1) ≡ group_at size xs k
group-behind size k g xs e =
    let n : size * (k + 1) ≡ size + size * k = omega arith in
    ap (λ m. take size (drop m (g ++ xs))) n
    ∙ ap (take size) (sym (drop-drop (size * k) size (g ++ xs)))
    ∙ ap (λ l. take size (drop (size * k) l)) (drop_at g xs size e)

groups-behind : {A : Type 0} (size : ℕ) (g xs : List A) → length g ≡ size → (a n : ℕ)
    → map (group_at size (g ++ xs)) (range_with_len (a + 1) n) ≡ map (group_at size xs) (range_with_len a n)
groups-behind size g xs e a zero = refl
groups-behind {A} size g xs e a (suc n) =
    ap (λ h. h ∷ map (group_at size (g ++ xs)) (range_with_len (a + 1 + 1) n)) (group-behind size a g xs e)
    ∙ ap (λ l. group_at size xs a ∷ l) (groups-behind size g xs e (a + 1) n)

-- the first group
first-group : {A : Type 0} (size : ℕ) (g xs : List A) → length g ≡ size → group_at size (g ++ xs) 0 ≡ g
first-group size g xs e =
    let n : size * 0 ≡ 0 = omega arith in
    ap (λ m. take size (drop m (g ++ xs))) n ∙ take_at g xs size e

-- the groups of whole groups and a rest
pub whole-groups : {X A : Type 0} (f : X → List A) (size : ℕ) (gs : List X) (rest : List A) → AllByRecursion (λ g. length (f g) ≡ size) gs
    → map f gs ≡ map (group_at size (flat_map f gs ++ rest)) (range_with_len 0 (length gs))
whole-groups f size [] rest h = refl
whole-groups f size (g ∷ gs) rest h =
    let xs = flat_map f gs ++ rest in
    let same : flat_map f (g ∷ gs) ++ rest ≡ f g ++ xs = append_assoc (f g) (flat_map f gs) rest in
    ap (λ l. f g ∷ l) (whole-groups f size gs rest h.1)
    ∙ ap (λ x. x ∷ map (group_at size xs) (range_with_len 0 (length gs))) (sym (first-group size (f g) xs h.0))
    ∙ ap (λ l. group_at size (f g ++ xs) 0 ∷ l) (sym (groups-behind size (f g) xs h.0 0 (length gs)))
    ∙ ap (λ l. map (group_at size l) (range_with_len 0 (length (g ∷ gs)))) (sym same)

-- the number of pictures in whole groups
pub whole-length : {X A : Type 0} (f : X → List A) (size : ℕ) (gs : List X) → AllByRecursion (λ g. length (f g) ≡ size) gs → length (flat_map f gs) ≡ size * length gs
whole-length f size [] h = omega arith
whole-length f size (g ∷ gs) h = omega (arith, length-append (f g) (flat_map f gs), whole-length f size gs h.1, h.0)

-- the group after whole groups
pub next-group : {X A : Type 0} (f : X → List A) (size : ℕ) (gs : List X) (rest : List A) → AllByRecursion (λ g. length (f g) ≡ size) gs
    → group_at size (flat_map f gs ++ rest) (length gs) ≡ take size rest
next-group f size gs rest h = ap (take size) (drop_at (flat_map f gs) rest (size * length gs) (whole-length f size gs h))

-- ---- the number of groups

pub count-whole : (size k r : ℕ) → r < size → (size * k + r) / size ≡ k
count-whole size k r h = let e : size * k + r ≡ k * size + r = omega arith in ap (λ n. n / size) e ∙ div-mul-add k size r h

pub count-up-none : (size k : ℕ) → 1 ≤ size → (size * k + 0 + size - 1) / size ≡ k
count-up-none size k h =
    let e : size * k + 0 + size - 1 ≡ k * size + (size - 1) = omega arith in
    let lt : size - 1 < size = omega arith in
    ap (λ n. n / size) e ∙ div-mul-add k size (size - 1) lt

pub count-up-some : (size k r : ℕ) → 1 ≤ r → r ≤ size → (size * k + r + size - 1) / size ≡ k + 1
count-up-some size k r some few =
    let e : size * k + r + size - 1 ≡ (k + 1) * size + (r - 1) = omega arith in
    let lt : r - 1 < size = omega arith in
    ap (λ n. n / size) e ∙ div-mul-add (k + 1) size (r - 1) lt

pub count-least : (size k n : ℕ) → 1 ≤ size → size * k ≤ n → k ≤ n / size
count-least size k n some h = le-div k n size some (omega arith)
