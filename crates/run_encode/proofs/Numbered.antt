-- Groups by their numbers.
use Rattle.std.proofs.Common.{◌≡◌, ℕ, zero, suc, ◌+◌, ◌-◌, ◌*◌, ◌/◌, ◌<◌, ◌≤◌, min, cond, Option, None, Some, List, [], ◌∷◌, ◌++◌, arith, length, map, take, drop, ap, sym, subst, ◌∙◌, length-take, length-drop}
use Rattle.std.specs.Prelude.{is_some}
use Rattle.std.specs.List.{flat_map, range_with_len, AllByRecursion}
use Rattle.std.proofs.lemmas.List.{drop-drop}
use Rattle.std.proofs.lemmas.Nat.{mul-le}
use Rattle.std.proofs.Math.Nat.{mul-div-le, lt-div-mul-add}
use lib.Seq.{take-add}
use Rattle.rate_build.specs.Groups.{group_at}

-- each but the last has as many items as a group
abbrev pub Fulls : {X A : Type 0} → (X → List A) → ℕ → List X → Type 0
Fulls f size [] = Unit {0}
Fulls f size (x ∷ []) = length (f x) ≤ size
Fulls f size (x ∷ y ∷ ys) = (length (f x) ≡ size) × Fulls f size (y ∷ ys)

pub group-length : {A : Type 0} (size k : ℕ) (all : List A) → length (group_at size all k) ≡ min size (length all - size * k)
group-length size k all = length-take size (drop (size * k) all) ∙ ap (min size) (length-drop (size * k) all)

pub fulls : {X A : Type 0} (f : X → List A) (size : ℕ) (all : List A) (a : ℕ) (gs : List X) → map f gs ≡ map (group_at size all) (range_with_len a (length gs))
    → (1 ≤ length gs → size * (a + length gs) < length all + size) → Fulls f size gs
fulls f size all a [] e le = tt
fulls f size all a (x ∷ []) e le =
    let first : f x ≡ group_at size all a = cc in
    omega (arith, ap length first, group-length size a all)
fulls f size all a (x ∷ y ∷ ys) e le =
    let first : f x ≡ group_at size all a = cc in
    let others : map f (y ∷ ys) ≡ map (group_at size all) (range_with_len (a + 1) (length (y ∷ ys))) = cc in
    let n : size * (a + length (x ∷ y ∷ ys)) < length all + size = le (omega arith) in
    let same : a + length (x ∷ y ∷ ys) ≡ (a + 1) + length (y ∷ ys) = omega arith in
    let more : size * (a + 2) ≤ size * (a + length (x ∷ y ∷ ys)) = mul-le size (a + 2) size (a + length (x ∷ y ∷ ys)) (omega arith) (omega arith) in
    let two : size * (a + 2) ≡ size * a + size + size = omega arith in
    let n' : size * ((a + 1) + length (y ∷ ys)) < length all + size = subst (λ m. size * m < length all + size) same n in
    (omega (arith, ap length first, group-length size a all, n, more, two), fulls f size all (a + 1) (y ∷ ys) others (λ _. n'))

-- the same, for the whole groups of a list
pub wholes : {X A : Type 0} (f : X → List A) (size : ℕ) (all : List A) (a : ℕ) (gs : List X) → map f gs ≡ map (group_at size all) (range_with_len a (length gs))
    → size * (a + length gs) ≤ length all → AllByRecursion (λ x. length (f x) ≡ size) gs
wholes f size all a [] e le = tt
wholes f size all a (x ∷ xs) e le =
    let first : f x ≡ group_at size all a = cc in
    let others : map f xs ≡ map (group_at size all) (range_with_len (a + 1) (length xs)) = cc in
    let same : a + length (x ∷ xs) ≡ (a + 1) + length xs = omega arith in
    let le' : size * ((a + 1) + length xs) ≤ length all = subst (λ n. size * n ≤ length all) same le in
    let more : size * (a + 1) ≤ size * ((a + 1) + length xs) = mul-le size (a + 1) size ((a + 1) + length xs) (omega arith) (omega arith) in
    let one : size * (a + 1) ≡ size * a + size = omega arith in
    (omega (arith, ap length first, group-length size a all, le', more, one), wholes f size all (a + 1) xs others le')

-- groups in order are a prefix of the list
pub concat-groups : {X A : Type 0} (f : X → List A) (size : ℕ) (all : List A) (a : ℕ) (gs : List X) → map f gs ≡ map (group_at size all) (range_with_len a (length gs))
    → flat_map f gs ≡ take (size * length gs) (drop (size * a) all)
concat-groups f size all a [] e = let z : size * 0 ≡ 0 = omega arith in ap (λ n. take n (drop (size * a) all)) (sym z)
concat-groups f size all a (x ∷ xs) e =
    let first : f x ≡ group_at size all a = cc in
    let others : map f xs ≡ map (group_at size all) (range_with_len (a + 1) (length xs)) = cc in
    let n : size * length (x ∷ xs) ≡ size + size * length xs = omega arith in
    let m : size * (a + 1) ≡ size * a + size = omega arith in
    ap (λ l. l ++ flat_map f xs) first ∙ ap (λ l. group_at size all a ++ l) (concat-groups f size all (a + 1) xs others
    ∙ ap (λ k. take (size * length xs) (drop k all)) (m) ∙ ap (take (size * length xs)) (sym (drop-drop size (size * a) all)))
    ∙ sym (ap (λ k. take k (drop (size * a) all)) n ∙ take-add size (size * length xs) (drop (size * a) all))

-- ---- the number of groups

abbrev pub count : {F : Type 0} → ℕ → ℕ → Option F → ℕ
count size n fault = cond (is_some fault) (n / size) ((n + size - 1) / size)

pub count-bound : {F : Type 0} (size k n : ℕ) (fault : Option F) → 1 ≤ size → k ≤ count size n fault → size * k < n + size
count-bound size k n None some h =
    let le = mul-le size k size ((n + size - 1) / size) (omega arith) h in
    omega (arith, le, mul-div-le (n + size - 1) size)
count-bound size k n (Some f) some h =
    let le = mul-le size k size (n / size) (omega arith) h in
    omega (arith, le, mul-div-le n size)

pub count-left : {F : Type 0} (size k n : ℕ) (fault : Option F) → 1 ≤ size → k < count size n fault → size * k < n
count-left size k n fault some h =
    let b = count-bound size (k + 1) n fault some (omega (arith, h)) in
    let t : size * (k + 1) ≡ size * k + size = omega arith in
    omega (arith, b, t)

pub count-cut : {F : Type 0} (size n : ℕ) (fault : Option F) (f : F) → fault ≡ Some f → size * count size n fault ≤ n
count-cut {F} size n fault f e = subst (λ (x : Option F). size * count size n x ≤ n) (sym e) (mul-div-le n size)

pub count-all : {F : Type 0} (size n : ℕ) (fault : Option F) → 1 ≤ size → fault ≡ None → n ≤ size * count size n fault
count-all {F} size n fault some e =
    let h = lt-div-mul-add {a = n + size - 1} {b = size} some in
    let t : (n + size - 1) / size * size ≡ size * ((n + size - 1) / size) = omega arith in
    let le : n ≤ size * ((n + size - 1) / size) = omega (arith, h, t) in
    subst (λ (f : Option F). n ≤ size * count size n f) (sym e) le

-- there are at most as many groups as items
pub count-few : (size k n : ℕ) → 1 ≤ size → size * k < n + size → k ≤ n
count-few size zero n some h = omega arith
count-few size (suc k) n some h =
    let t : size * suc k ≡ size * k + size = omega arith in
    let le : 1 * k ≤ size * k = mul-le 1 k size k some (omega arith) in
    omega (arith, h, t, le)

pub count-below : (size k n : ℕ) → 1 ≤ size → size * k < n → k < n
count-below size k n some h = let le : 1 * k ≤ size * k = mul-le 1 k size k some (omega arith) in omega (arith, h, le)
