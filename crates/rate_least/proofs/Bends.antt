-- The Lagrangian multiplier: minimisers for a greater one have no less error, and a binary search finds the
-- greatest that meets the cap.
use Rattle.std.proofs.Common.{◌≡◌, ℕ, ◌+◌, ◌-◌, ◌*◌, ◌<◌, ◌≤◌, List, [], ◌∷◌, ◌++◌, ap, subst, arith, ◌⊎◌, inl, inr, ⊎_elim}
use Rattle.std.specs.List.{Contains, All}
use Rattle.std.proofs.lemmas.List.Sums.{sum_by-cons}
use Rattle.std.proofs.lemmas.List.Elements.{All-head, All-tail}
use Rattle.std.proofs.lemmas.Nat.{mul-le}
use Rattle.std.proofs.lemmas.Bool.{cases_lt}
use Rattle.rate_layers.proofs.Picks.{crossed}
use Rattle.rate_table.specs.declared.entry.Entry.{Entry}
use Rattle.rate_table.specs.Table.{IsChoice, error_of, IsSliceTable}
use Rattle.rate_table.specs.Pairs.{cost}
use Rattle.rate_table.proofs.Lists.{contains_cases, contains_head, contains_tail, contains_none}
use Rattle.rate_least.specs.Held.{IsBent, IsBend, BendMeets, IsGreatestMultiplier}
use Rattle.rate_least.specs.inner.Bent.{Wins}

-- the order of preference
pub wins_self : (m : ℕ) (a b : Entry) → a ≡ b → Wins m a b
wins_self m a b e =
    let c = ap (λ (x : Entry). cost m x) e in
    let s = ap (λ (x : Entry). x.error) e in
    let i = ap (λ (x : Entry). x.index) e in
    record { cheaper = omega arith; better = λ e. omega arith; earlier = λ e g. omega arith }

pub wins_trans : (m : ℕ) (a b c : Entry) → Wins m a b → Wins m b c → Wins m a c
wins_trans m a b c f g = record {
  cheaper = omega (arith, f.cheaper, g.cheaper);
  better = λ e. let u : cost m b ≡ cost m a = omega (arith, f.cheaper, g.cheaper) in let v : cost m c ≡ cost m b = omega (arith, f.cheaper, g.cheaper) in omega (arith, f.better u, g.better v);
  earlier = λ e s.
      let u : cost m b ≡ cost m a = omega (arith, f.cheaper, g.cheaper) in
      let v : cost m c ≡ cost m b = omega (arith, f.cheaper, g.cheaper) in
      let w : b.error ≡ a.error = omega (arith, f.better u, g.better v) in
      omega (arith, f.earlier u w, g.earlier v (omega arith));
}

wins_either : (m : ℕ) (a b : Entry) → Wins m a b ⊎ Wins m b a
wins_either m a b =
    ⊎_elim (λ l. inl (record { cheaper = omega arith; better = λ e. omega arith; earlier = λ e g. omega arith }))
    (λ l. ⊎_elim (λ k. inr (record { cheaper = omega arith; better = λ e. omega arith; earlier = λ e g. omega arith }))
    (λ k. ⊎_elim (λ s. inl (record { cheaper = omega arith; better = λ e. omega arith; earlier = λ e g. omega arith }))
    (λ s. ⊎_elim (λ r. inr (record { cheaper = omega arith; better = λ e. omega arith; earlier = λ e g. omega arith }))
    (λ r. ⊎_elim (λ i. inl (record { cheaper = omega arith; better = λ e. omega arith; earlier = λ e g. omega arith }))
    (λ i. inr (record { cheaper = omega arith; better = λ e. omega arith; earlier = λ e g. omega arith }))
    (cases_lt a.index b.index))
    (cases_lt b.error a.error))
    (cases_lt a.error b.error))
    (cases_lt (cost m b) (cost m a)))
    (cases_lt (cost m a) (cost m b))

pub bent_wins : (m : ℕ) (s : List Entry) (p : Entry) → Contains s p → ((y : Entry) → Contains s y → Wins m p y) → IsBent m s p
bent_wins m s p c w = record { in_slice = c; cheapest = λ y i. (w y i).cheaper; best = λ y i. (w y i).better; first = λ y i. (w y i).earlier }

pub wins_bent : (m : ℕ) (s : List Entry) (p : Entry) → IsBent m s p → (y : Entry) → Contains s y → Wins m p y
wins_bent m s p k y i = record { cheaper = k.cheapest y i; better = k.best y i; earlier = k.first y i }

-- one entry more
pub bent_with : (m : ℕ) (x : Entry) (s : List Entry) (p : Entry) → IsBent m s p → (q : Entry) × IsBent m (x ∷ s) q
bent_with m x s p k =
    ⊎_elim
    (λ w. (x, bent_wins m (x ∷ s) x (contains_head x s) (λ y c. ⊎_elim (λ e. wins_self m x y e) (λ i. wins_trans m x p y w (wins_bent m s p k y i)) (contains_cases x s y c))))
    (λ w. (p, bent_wins m (x ∷ s) p (contains_tail x s p k.in_slice) (λ y c. ⊎_elim (λ e. wins_trans m p x y w (wins_self m x y e)) (λ i. wins_bent m s p k y i) (contains_cases x s y c))))
    (wins_either m x p)

-- the Lagrangian minimiser of a slice that has an entry
pub bent_of : (m : ℕ) (x : Entry) (xs : List Entry) → (p : Entry) × IsBent m (x ∷ xs) p
bent_of m x [] = (x, bent_wins m (x ∷ []) x (contains_head x []) (λ y c. ⊎_elim (λ e. wins_self m x y e) (λ i. absurd (contains_none y i)) (contains_cases x [] y c)))
bent_of m x (y ∷ xs) = let r = bent_of m y xs in bent_with m x (y ∷ xs) r.0 r.1

-- the Lagrangian minimisers of slices that have entries
pub bend_of : (m : ℕ) (slices : List (List Entry)) → All IsSliceTable slices → (c : List Entry) × IsBend m slices c
bend_of m [] a = ([], tt)
bend_of m ([] ∷ ss) a = let h = All-head IsSliceTable [] ss a in absurd (omega (arith, h.some))
bend_of m ((x ∷ s) ∷ ss) a =
    let p = bent_of m x s in
    let c = bend_of m ss (All-tail IsSliceTable (x ∷ s) ss a) in
    (p.0 ∷ c.0, (p.1, c.1))

pub bend_choice : (m : ℕ) (slices : List (List Entry)) (c : List Entry) → IsBend m slices c → IsChoice slices c
bend_choice m [] [] h = tt
bend_choice m [] (x ∷ c) h = absurd h
bend_choice m (s ∷ ss) [] h = absurd h
bend_choice m (s ∷ ss) (x ∷ c) h = (h.0.in_slice, bend_choice m ss c h.1)

bent_up : (m n : ℕ) (s : List Entry) (x y : Entry) → m < n → IsBent m s x → IsBent n s y → x.error ≤ y.error
bent_up m n s x y l a b =
    let c1 : x.error + m * x.size ≤ y.error + m * y.size = a.cheapest y b.in_slice in
    let c2 : y.error + n * y.size ≤ x.error + n * x.size = b.cheapest x a.in_slice in
    ⊎_elim (λ h.
    let e : y.size ≡ x.size + (y.size - x.size) = omega arith in
    absurd (crossed m n x.size (y.size - x.size) x.error y.error l (omega arith)
    (subst (λ z. x.error + m * x.size ≤ y.error + m * z) e c1)
    (subst (λ z. y.error + n * z ≤ x.error + n * x.size) e c2)))
    (λ h. let p : m * y.size ≤ m * x.size = mul-le m y.size m x.size (omega arith) h in omega (arith, c1, p)) (cases_lt x.size y.size)

same_bent : (m : ℕ) (s : List Entry) (x y : Entry) → IsBent m s x → IsBent m s y → x.error ≤ y.error
same_bent m s x y a b =
    let c1 = a.cheapest y b.in_slice in
    let c2 = b.cheapest x a.in_slice in
    a.best y b.in_slice (omega arith)

pub bends_up : (m n : ℕ) (slices : List (List Entry)) (c d : List Entry) → m ≤ n → IsBend m slices c → IsBend n slices d → error_of c ≤ error_of d
bends_up m n [] [] [] l a b = omega arith
bends_up m n [] [] (y ∷ d) l a b = absurd b
bends_up m n [] (x ∷ c) d l a b = absurd a
bends_up m n (s ∷ ss) [] d l a b = absurd a
bends_up m n (s ∷ ss) (x ∷ c) [] l a b = absurd b
bends_up m n (s ∷ ss) (x ∷ c) (y ∷ d) l a b =
    let one : x.error ≤ y.error = ⊎_elim (λ k. bent_up m n s x y k a.0 b.0)
    (λ k. let e : n ≡ m = omega arith in same_bent m s x y a.0 (subst (λ i. IsBent i s y) e b.0)) (cases_lt m n) in
    omega (arith, one, bends_up m n ss c d l a.1 b.1, sum_by-cons (λ (x : Entry). x.error) x c, sum_by-cons (λ (x : Entry). x.error) y d)

-- By the multiplier 0, the minimisers have the least errors.
bend_least : (slices : List (List Entry)) (c d : List Entry) → IsBend 0 slices c → IsChoice slices d → error_of c ≤ error_of d
bend_least [] [] [] a b = omega arith
bend_least [] [] (y ∷ d) a b = absurd b
bend_least [] (x ∷ c) d a b = absurd a
bend_least (s ∷ ss) [] d a b = absurd a
bend_least (s ∷ ss) (x ∷ c) [] a b = absurd b
bend_least (s ∷ ss) (x ∷ c) (y ∷ d) a b =
    let c1 : x.error + 0 * x.size ≤ y.error + 0 * y.size = a.0.cheapest y b.0 in
    omega (arith, c1, bend_least ss c d a.1 b.1, sum_by-cons (λ (x : Entry). x.error) x c, sum_by-cons (λ (x : Entry). x.error) y d)

-- one slice more
pub bend_push : (m : ℕ) (slices : List (List Entry)) (s : List Entry) (c : List Entry) (x : Entry) → IsBend m slices c → IsBent m s x → IsBend m (slices ++ s ∷ []) (c ++ x ∷ [])
bend_push m [] s [] x h i = (i, tt)
bend_push m [] s (y ∷ c) x h i = absurd h
bend_push m (r ∷ slices) s [] x h i = absurd h
bend_push m (r ∷ slices) s (y ∷ c) x h i = (h.0, bend_push m slices s c x h.1 i)

-- If a choice meets the cap, so do the minimisers for 0.
pub first_bend : (slices : List (List Entry)) (cap : ℕ) → All IsSliceTable slices → (d : List Entry) → IsChoice slices d → error_of d ≤ cap → BendMeets slices cap 0
first_bend slices cap ok d h f =
    let c = bend_of 0 slices ok in
    (c.0, c.1, omega (arith, bend_least slices c.0 d c.1 h))

-- all minimisers for one multiplier meet the cap, or none
pub bend_meets : (slices : List (List Entry)) (cap m : ℕ) (c : List Entry) → IsBend m slices c → BendMeets slices cap m → error_of c ≤ cap
bend_meets slices cap m c a (d, b, f) = omega (arith, bends_up m m slices c d (omega arith) a b)

-- If the minimisers for one multiplier don't meet the cap, neither do those for a greater one.
pub none_higher : (slices : List (List Entry)) (cap middle : ℕ) → All IsSliceTable slices → (BendMeets slices cap middle → ⊥) → (n : ℕ) → BendMeets slices cap n → n < middle
none_higher slices cap middle ok none n (c, h, f) =
    ⊎_elim (λ l. l) (λ l. let p = bend_of middle slices ok in
    absurd (none (p.0, p.1, omega (arith, bends_up middle n slices p.0 c l p.1 h)))) (cases_lt n middle)

pub multiplier_same : (slices : List (List Entry)) (cap m n : ℕ) → IsGreatestMultiplier slices cap m → IsGreatestMultiplier slices cap n → m ≡ n
multiplier_same slices cap m n f g = omega (arith, f.greatest n g.limit g.meets, g.greatest m f.limit f.meets)
