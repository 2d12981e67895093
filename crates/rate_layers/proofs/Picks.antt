-- The Lagrangian multiplier exists, and a binary search finds it.
use Rattle.std.proofs.Common.{◌≡◌, ℕ, zero, suc, ◌+◌, ◌-◌, ◌*◌, ◌^◌, ◌<◌, ◌≤◌, List, [], ◌∷◌, ◌++◌, Bool, true, false, leb, sym, ap, ◌∙◌, subst, arith, ◌⊎◌, inl, inr, ⊎_elim}
use Rattle.std.specs.List.{Contains, All}
use Rattle.std.proofs.lemmas.List.Sums.{sum_by-cons}
use Rattle.std.proofs.lemmas.List.Elements.{All-head, All-tail, All-contains, All-weaker}
use Rattle.std.proofs.lemmas.Nat.{mul-le}
use Rattle.std.proofs.lemmas.Bool.{cases_lt, cases_Bool, leb-true, le-leb, true≢false}
use Rattle.rate_table.specs.declared.entry.Entry.{Entry}
use Rattle.rate_table.specs.Table.{Table, IsChoice, Fits, size_of, least_bytes, IsSliceTable, IsTable, IsEntry}
use Rattle.rate_table.specs.Pairs.{cost}
use Rattle.rate_layers.specs.Multiplier.{Wins, IsPick, ArePicks, PicksFit, IsMultiplier}
use Rattle.rate_table.proofs.Lists.{contains_cases, contains_head, contains_tail, contains_none}
use Rattle.rate_table.proofs.Entries.{least_choice}

-- the order of preference
pub wins_self : (m : ℕ) (a b : Entry) → a ≡ b → Wins m a b
wins_self m a b e =
    let c = ap (λ (x : Entry). cost m x) e in
    let s = ap (λ (x : Entry). x.size) e in
    let i = ap (λ (x : Entry). x.index) e in
    record { cheaper = omega arith; smaller = λ e. omega arith; earlier = λ e g. omega arith }

pub wins_trans : (m : ℕ) (a b c : Entry) → Wins m a b → Wins m b c → Wins m a c
wins_trans m a b c f g = record {
  cheaper = omega (arith, f.cheaper, g.cheaper);
  smaller = λ e. let u : cost m b ≡ cost m a = omega (arith, f.cheaper, g.cheaper) in let v : cost m c ≡ cost m b = omega (arith, f.cheaper, g.cheaper) in omega (arith, f.smaller u, g.smaller v);
  earlier = λ e s.
      let u : cost m b ≡ cost m a = omega (arith, f.cheaper, g.cheaper) in
      let v : cost m c ≡ cost m b = omega (arith, f.cheaper, g.cheaper) in
      let w : b.size ≡ a.size = omega (arith, f.smaller u, g.smaller v) in
      omega (arith, f.earlier u w, g.earlier v (omega arith));
}

wins_either : (m : ℕ) (a b : Entry) → Wins m a b ⊎ Wins m b a
wins_either m a b =
    ⊎_elim (λ l. inl (record { cheaper = omega arith; smaller = λ e. omega arith; earlier = λ e g. omega arith }))
    (λ l. ⊎_elim (λ k. inr (record { cheaper = omega arith; smaller = λ e. omega arith; earlier = λ e g. omega arith }))
    (λ k. ⊎_elim (λ s. inl (record { cheaper = omega arith; smaller = λ e. omega arith; earlier = λ e g. omega arith }))
    (λ s. ⊎_elim (λ r. inr (record { cheaper = omega arith; smaller = λ e. omega arith; earlier = λ e g. omega arith }))
    (λ r. ⊎_elim (λ i. inl (record { cheaper = omega arith; smaller = λ e. omega arith; earlier = λ e g. omega arith }))
    (λ i. inr (record { cheaper = omega arith; smaller = λ e. omega arith; earlier = λ e g. omega arith }))
    (cases_lt a.index b.index))
    (cases_lt b.size a.size))
    (cases_lt a.size b.size))
    (cases_lt (cost m b) (cost m a)))
    (cases_lt (cost m a) (cost m b))

pub pick_wins : (m : ℕ) (s : List Entry) (p : Entry) → Contains s p → ((y : Entry) → Contains s y → Wins m p y) → IsPick m s p
pick_wins m s p c w = record { in_slice = c; cheapest = λ y i. (w y i).cheaper; smallest = λ y i. (w y i).smaller; first = λ y i. (w y i).earlier }

pub wins_pick : (m : ℕ) (s : List Entry) (p : Entry) → IsPick m s p → (y : Entry) → Contains s y → Wins m p y
wins_pick m s p k y i = record { cheaper = k.cheapest y i; smaller = k.smallest y i; earlier = k.first y i }

-- one entry more
pub pick_with : (m : ℕ) (x : Entry) (s : List Entry) (p : Entry) → IsPick m s p → (q : Entry) × IsPick m (x ∷ s) q
pick_with m x s p k =
    ⊎_elim
    (λ w. (x, pick_wins m (x ∷ s) x (contains_head x s) (λ y c. ⊎_elim (λ e. wins_self m x y e) (λ i. wins_trans m x p y w (wins_pick m s p k y i)) (contains_cases x s y c))))
    (λ w. (p, pick_wins m (x ∷ s) p (contains_tail x s p k.in_slice) (λ y c. ⊎_elim (λ e. wins_trans m p x y w (wins_self m x y e)) (λ i. wins_pick m s p k y i) (contains_cases x s y c))))
    (wins_either m x p)

-- the Lagrangian minimiser of a slice that has an entry
pub pick_of : (m : ℕ) (x : Entry) (xs : List Entry) → (p : Entry) × IsPick m (x ∷ xs) p
pick_of m x [] = (x, pick_wins m (x ∷ []) x (contains_head x []) (λ y c. ⊎_elim (λ e. wins_self m x y e) (λ i. absurd (contains_none y i)) (contains_cases x [] y c)))
pick_of m x (y ∷ xs) = let r = pick_of m y xs in pick_with m x (y ∷ xs) r.0 r.1

-- the Lagrangian minimisers of slices that have entries
pub picks_of : (m : ℕ) (slices : List (List Entry)) → All IsSliceTable slices → (c : List Entry) × ArePicks m slices c
picks_of m [] a = ([], tt)
picks_of m ([] ∷ ss) a = let h = All-head IsSliceTable [] ss a in absurd (omega (arith, h.some))
picks_of m ((x ∷ s) ∷ ss) a =
    let p = pick_of m x s in
    let c = picks_of m ss (All-tail IsSliceTable (x ∷ s) ss a) in
    (p.0 ∷ c.0, (p.1, c.1))

pub picks_choice : (m : ℕ) (slices : List (List Entry)) (c : List Entry) → ArePicks m slices c → IsChoice slices c
picks_choice m [] [] h = tt
picks_choice m [] (x ∷ c) h = absurd h
picks_choice m (s ∷ ss) [] h = absurd h
picks_choice m (s ∷ ss) (x ∷ c) h = (h.0.in_slice, picks_choice m ss c h.1)

-- The size of the minimisers does not rise with the multiplier, entry by entry.
pub crossed : (m n s k e f : ℕ) → m < n → 0 < k → e + m * s ≤ f + m * (s + k) → f + n * (s + k) ≤ e + n * s → ⊥
crossed m n s k e f l h a b = let p : suc m * k ≤ n * k = mul-le (suc m) k n k (omega arith) (omega arith) in omega arith

pick_down : (m n : ℕ) (s : List Entry) (x y : Entry) → m < n → IsPick m s x → IsPick n s y → y.size ≤ x.size
pick_down m n s x y l a b =
    ⊎_elim (λ h.
    let e : y.size ≡ x.size + (y.size - x.size) = omega arith in
    let c1 : x.error + m * x.size ≤ y.error + m * y.size = a.cheapest y b.in_slice in
    let c2 : y.error + n * y.size ≤ x.error + n * x.size = b.cheapest x a.in_slice in
    absurd (crossed m n x.size (y.size - x.size) x.error y.error l (omega arith)
    (subst (λ z. x.error + m * x.size ≤ y.error + m * z) e c1)
    (subst (λ z. y.error + n * z ≤ x.error + n * x.size) e c2))) (λ h. h) (cases_lt x.size y.size)

same_pick : (m : ℕ) (s : List Entry) (x y : Entry) → IsPick m s x → IsPick m s y → y.size ≤ x.size
same_pick m s x y a b =
    let c1 = a.cheapest y b.in_slice in
    let c2 = b.cheapest x a.in_slice in
    b.smallest x a.in_slice (omega arith)

pub picks_down : (m n : ℕ) (slices : List (List Entry)) (c d : List Entry) → m ≤ n → ArePicks m slices c → ArePicks n slices d → size_of d ≤ size_of c
picks_down m n [] [] [] l a b = omega arith
picks_down m n [] [] (y ∷ d) l a b = absurd b
picks_down m n [] (x ∷ c) d l a b = absurd a
picks_down m n (s ∷ ss) [] d l a b = absurd a
picks_down m n (s ∷ ss) (x ∷ c) [] l a b = absurd b
picks_down m n (s ∷ ss) (x ∷ c) (y ∷ d) l a b =
    let one : y.size ≤ x.size = ⊎_elim (λ k. pick_down m n s x y k a.0 b.0)
    (λ k. let e : n ≡ m = omega arith in same_pick m s x y a.0 (subst (λ i. IsPick i s y) e b.0)) (cases_lt m n) in
    omega (arith, one, picks_down m n ss c d l a.1 b.1, sum_by-cons (λ (x : Entry). x.size) x c, sum_by-cons (λ (x : Entry). x.size) y d)

-- By a multiplier of the limit of errors, the minimisers have the least sizes.
pub picks_least : (m : ℕ) (slices : List (List Entry)) → All (λ s. All (λ x. x.error < m) s) slices → (c d : List Entry) → ArePicks m slices c → IsChoice slices d → size_of c ≤ size_of d
picks_least m [] h [] [] a b = omega arith
picks_least m [] h [] (y ∷ d) a b = absurd b
picks_least m [] h (x ∷ c) d a b = absurd a
picks_least m (s ∷ ss) h [] d a b = absurd a
picks_least m (s ∷ ss) h (x ∷ c) [] a b = absurd b
picks_least m (s ∷ ss) h (x ∷ c) (y ∷ d) a b =
    let in_s = All-head (λ s. All (λ x. x.error < m) s) s ss h in
    let low : y.error < m = All-contains (λ x. x.error < m) s y in_s b.0 in
    let c1 : x.error + m * x.size ≤ y.error + m * y.size = a.0.cheapest y b.0 in
    let one : x.size ≤ y.size = ⊎_elim (λ k. absurd (steep m x.size y.size x.error y.error low k c1)) (λ k. k) (cases_lt y.size x.size) in
    omega (arith, one, picks_least m ss (All-tail (λ s. All (λ x. x.error < m) s) s ss h) c d a.1 b.1, sum_by-cons (λ (x : Entry). x.size) x c, sum_by-cons (λ (x : Entry). x.size) y d)
  where
    steep : (m s t e f : ℕ) → f < m → t < s → e + m * s ≤ f + m * t → ⊥
    steep m s t e f l k h = let p = mul-le m (suc t) m s (omega arith) (omega arith) in omega arith

small_errors : (slices : List (List Entry)) → All IsSliceTable slices → All (λ s. All (λ x. x.error < 2 ^ 43) s) slices
small_errors slices ok = All-weaker IsSliceTable (λ s. All (λ x. x.error < 2 ^ 43) s) (λ s i. All-weaker IsEntry (λ x. x.error < 2 ^ 43) (λ x h. h.error) s i.limits) slices ok

-- the least number that passes, up to one that does
pub least_passing : (test : ℕ → Bool) (n : ℕ) → ((m : ℕ) × (m ≤ n) × (test m ≡ true) × ((k : ℕ) → k < m → test k ≡ false)) ⊎ ((k : ℕ) → k ≤ n → test k ≡ false)
least_passing test zero =
    ⊎_elim (λ h. inl (0, omega arith, h, λ k l. absurd (omega arith))) (λ h. inr (λ k l. let e : k ≡ 0 = omega arith in subst (λ i. test i ≡ false) (sym e) h)) (cases_Bool (test 0))
least_passing test (suc n) =
    ⊎_elim (λ f. inl (f.0, omega (arith, f.1), f.2, f.3))
    (λ none. ⊎_elim (λ h. inl (suc n, omega arith, h, λ k l. none k (omega arith)))
    (λ h. inr (λ k l. ⊎_elim (λ i. none k (omega arith)) (λ i. let e : k ≡ suc n = omega arith in subst (λ j. test j ≡ false) (sym e) h) (cases_lt k (suc n)))) (cases_Bool (test (suc n))))
    (least_passing test n)

-- all minimisers for one multiplier fit, or none
pub picks_fit : (t : Table) (m : ℕ) (c : List Entry) → ArePicks m t.slices c → PicksFit t m → Fits t c
picks_fit t m c a (d, b, f) = omega (arith, picks_down m m t.slices d c (omega arith) b a)

pub multiplier_exists : (t : Table) → IsTable t → (c : List Entry) → IsChoice t.slices c → Fits t c → (m : ℕ) × IsMultiplier t m × (m ≤ 2 ^ 43)
multiplier_exists t ok c h fits =
    ⊎_elim
    (λ f. (
      f.0,
      record {
        fits = ((choice f.0).0, (choice f.0).1, leb-true _ _ f.2);
        least = λ n g. ⊎_elim (λ l. absurd (true≢false (sym (le-leb _ _ (picks_fit t n (choice n).0 (choice n).1 g)) ∙ f.3 n l))) (λ l. l) (cases_lt n f.0);
      },
      f.1,
    ))
    (λ none. absurd (true≢false (sym (le-leb _ _ top) ∙ none (2 ^ 43) (omega arith))))
    (least_passing (λ m. leb (t.fixed + size_of (choice m).0) t.budget) (2 ^ 43))
  where
    choice : (m : ℕ) → (c : List Entry) × ArePicks m t.slices c
    choice m = picks_of m t.slices ok.each

    top : t.fixed + size_of (choice (2 ^ 43)).0 ≤ t.budget
    top = omega (arith, picks_least (2 ^ 43) t.slices (small_errors t.slices ok.each) (choice (2 ^ 43)).0 c (choice (2 ^ 43)).1 h)

-- one slice more
pub picks_push : (m : ℕ) (slices : List (List Entry)) (s : List Entry) (c : List Entry) (x : Entry) → ArePicks m slices c → IsPick m s x → ArePicks m (slices ++ s ∷ []) (c ++ x ∷ [])
picks_push m [] s [] x h i = (i, tt)
picks_push m [] s (y ∷ c) x h i = absurd h
picks_push m (r ∷ slices) s [] x h i = absurd h
picks_push m (r ∷ slices) s (y ∷ c) x h i = (h.0, picks_push m slices s c x h.1 i)

-- If a choice has no more than this size, so have the minimisers for the greatest multiplier.
pub top_picks : (slices : List (List Entry)) (room : ℕ) → All IsSliceTable slices → (d : List Entry) → IsChoice slices d → size_of d ≤ room → (c : List Entry) × ArePicks (2 ^ 43) slices c × (size_of c ≤ room)
top_picks slices room ok d h f =
    let c = picks_of (2 ^ 43) slices ok in
    (c.0, c.1, omega (arith, picks_least (2 ^ 43) slices (small_errors slices ok) c.0 d c.1 h))

-- If the minimisers for one multiplier have more, so have those for each lower one.
pub none_lower : (slices : List (List Entry)) (room middle : ℕ) → All IsSliceTable slices → ((c : List Entry) × ArePicks middle slices c × (size_of c ≤ room) → ⊥) → (n : ℕ) (c : List Entry) → ArePicks n slices c → size_of c ≤ room → middle + 1 ≤ n
none_lower slices room middle ok none n c h f =
    ⊎_elim (λ l. let p = picks_of middle slices ok in
    absurd (none (p.0, p.1, omega (arith, picks_down n middle slices c p.0 (omega arith) h p.1)))) (λ l. omega arith) (cases_lt n (middle + 1))

-- A least multiplier by sizes is that of the table.
pub multiplier_end : (t : Table) (room m : ℕ) → t.fixed + room ≡ t.budget → (c : List Entry) × ArePicks m t.slices c × (size_of c ≤ room) → ((n : ℕ) (c : List Entry) → ArePicks n t.slices c → size_of c ≤ room → m ≤ n) → IsMultiplier t m
multiplier_end t room m e (c, h, f) least = record {
  fits = (c, h, omega arith);
  least = λ n (d, i, g). least n d i (omega arith);
}

pub multiplier_same : (t : Table) (m n : ℕ) → IsMultiplier t m → IsMultiplier t n → m ≡ n
multiplier_same t m n f g = omega (arith, f.least n g.fits, g.least m f.fits)

-- If the fixed bytes plus the least sizes are within the budget, a choice fits.
pub some_fit : (t : Table) → IsTable t → least_bytes t ≤ t.budget → (c : List Entry) × IsChoice t.slices c × Fits t c
some_fit t ok h = let c = least_choice t.slices ok.each in (c.0, c.1, omega (arith, c.2))
