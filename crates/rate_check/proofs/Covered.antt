-- Whether a pair is covered, by the number of pairs of at most its size.
use Rattle.std.proofs.Common.{◌≡◌, ℕ, ◌+◌, ◌-◌, ◌*◌, ◌<◌, ◌≤◌, List, length, get_or, sym, ap, ◌∙◌, subst, arith, inl, inr, ⊎_elim}
use Rattle.std.specs.List.{All, Contains}
use Rattle.std.proofs.lemmas.Bool.{cases_lt}
use Rattle.std.proofs.lemmas.List.{get_or_default}
use Rattle.rate_table.specs.declared.entry.Entry.{Entry}
use Rattle.rate_table.specs.declared.entry.Pair.{Pair}
use Rattle.rate_table.specs.Pairs.{Dominates, joined, RisesAndFalls}
use Rattle.rate_check.specs.declared.bound.Bound.{Bound}
use Rattle.rate_check.specs.inner.Covering.{Covers, CoversEntry, ReachesTo, weight}
use Rattle.rate_check.proofs.Orders.{no_pair, apart}

-- the first i pairs of the layer, joined with the entry, are covered
abbrev pub SoFar : Bound → List Pair → List Pair → Entry → ℕ → Type 0
SoFar b layer next x i = (j : ℕ) (d : Pair) → j < i → Covers b next (joined (get_or layer j d) x)

-- the first n pairs are no larger than each pair from i on, joined with the entry
abbrev pub ReachesFrom : List Pair → List Pair → Entry → ℕ → ℕ → Type 0
ReachesFrom layer next x at i = (k : ℕ) → k < at → (j : ℕ) → i ≤ j → j < length layer → (get_or next k no_pair).size ≤ (get_or layer j no_pair).size + x.size

-- joined sizes rise, so after a pair that can't fit none can
pub no_more : (b : Bound) (layer next : List Pair) (x : Entry) (i : ℕ) → RisesAndFalls layer → i < length layer
    → b.budget < b.taken + ((get_or layer i no_pair).size + x.size) → SoFar b layer next x i → CoversEntry b layer next x
no_more b layer next x i order n full far j d m =
    ⊎_elim (λ l. far j d l)
    (λ l. inr (inl (λ fits. let e = ap (λ (p : Pair). p.size) (get_or_default layer j no_pair d m) in let s = larger l in omega arith)))
    (cases_lt j i)
  where
    larger : i ≤ j → (get_or layer i no_pair).size ≤ (get_or layer j no_pair).size
    larger l = ⊎_elim (λ e. let s = (apart layer no_pair i j order e m).0 in omega arith)
        (λ e. let s : j ≡ i = omega (arith, e, l) in omega (arith, ap (λ k. (get_or layer k no_pair).size) s)) (cases_lt i j)

-- A pair of `next` dominates p exactly if the last one of at most its size has no more error.
pub dominated : (next : List Pair) (p : Pair) (n : ℕ) → RisesAndFalls next → n ≤ length next → ReachesTo next n p.size → (n < length next → p.size < (get_or next n no_pair).size)
    → (q : Pair) × Contains next q × Dominates q p → (0 < n) × ((get_or next (n - 1) no_pair).error ≤ p.error)
dominated next p n order within reached behind (q, (k, m, e), dom) =
    let q' : get_or next k no_pair ≡ q = get_or_default next k no_pair q m ∙ e in
    let small : (get_or next k no_pair).size ≤ p.size = omega (arith, ap (λ (y : Pair). y.size) q', dom.0) in
    let low : (get_or next k no_pair).error ≤ p.error = omega (arith, ap (λ (y : Pair). y.error) q', dom.1) in
    ⊎_elim (λ l. (omega (arith, l), last k l low)) (λ l. absurd (far k m l small)) (cases_lt k n)
  where
    last : (k : ℕ) → k < n → (get_or next k no_pair).error ≤ p.error → (get_or next (n - 1) no_pair).error ≤ p.error
    last k l low = ⊎_elim (λ e. let f = (apart next no_pair k (n - 1) order e (omega arith)).1 in omega (arith, low))
        (λ e. let f : n - 1 ≡ k = omega (arith, e, l) in omega (arith, ap (λ i. (get_or next i no_pair).error) f, low)) (cases_lt k (n - 1))

    far : (k : ℕ) → k < length next → n ≤ k → (get_or next k no_pair).size ≤ p.size → ⊥
    far k m l small = ⊎_elim (λ e. let f = (apart next no_pair n k order e m).0 in let g = behind (omega arith) in omega (arith, f, g, small))
        (λ e. let f : n ≡ k = omega (arith, e, l) in let g = behind (omega arith) in omega (arith, g, small, ap (λ i. (get_or next i no_pair).size) f)) (cases_lt n k)

-- an entry that is pruned at the least cost is pruned with each pair
pub passes : (b : Bound) (layer next : List Pair) (x : Entry) (least : ℕ) → All (λ p. least ≤ weight b.multiplier p) layer
    → b.most < least + (x.error + b.multiplier * x.size) + b.floor → CoversEntry b layer next x
passes b layer next x least low h j d m =
    inr (inr (λ stays. let l = low j d m in omega arith))

-- ---- one pair more

pub one_more : (b : Bound) (layer next : List Pair) (x : Entry) (i : ℕ) → i < length layer → SoFar b layer next x i → Covers b next (joined (get_or layer i no_pair) x) → SoFar b layer next x (i + 1)
one_more b layer next x i n far here j d m =
    ⊎_elim (λ l. far j d l)
    (λ l. let e : j ≡ i = omega (arith, l, m) in
    subst (λ p. Covers b next (joined p x)) (get_or_default layer i no_pair d n ∙ ap (λ k. get_or layer k d) (sym e)) here)
    (cases_lt j i)

pub reaches_on : (layer next : List Pair) (x : Entry) (n i : ℕ) → RisesAndFalls layer → ReachesTo next n ((get_or layer i no_pair).size + x.size) → ReachesFrom layer next x n (i + 1)
reaches_on layer next x n i order reached k m j l lt =
    let r = reached k m in
    let s = (apart layer no_pair i j order (omega arith) lt).0 in
    omega arith

-- by the number of pairs of at most its size, it isn't covered
pub uncovered : (b : Bound) (layer next : List Pair) (x : Entry) (i n : ℕ) → RisesAndFalls next → i < length layer → n ≤ length next → ReachesTo next n ((get_or layer i no_pair).size + x.size)
    → (n < length next → (get_or layer i no_pair).size + x.size < (get_or next n no_pair).size)
    → ((0 < n) × ((get_or next (n - 1) no_pair).error ≤ (get_or layer i no_pair).error + x.error) → ⊥)
    → b.taken + ((get_or layer i no_pair).size + x.size) ≤ b.budget
    → weight b.multiplier (joined (get_or layer i no_pair) x) + b.floor ≤ b.most
    → CoversEntry b layer next x → ⊥
uncovered b layer next x i n order m within reached behind none fits stays all =
    ⊎_elim (λ d. none (dominated next (joined (get_or layer i no_pair) x) n order within reached behind d))
    (λ o. ⊎_elim (λ f. f fits) (λ f. f stays) o)
    (all i no_pair m)

pub last_dominates : (b : Bound) (next : List Pair) (p : Pair) (n : ℕ) → n ≤ length next → ReachesTo next n p.size → (0 < n) × ((get_or next (n - 1) no_pair).error ≤ p.error) → Covers b next p
last_dominates b next p n within reached h =
    inl (get_or next (n - 1) no_pair, (n - 1, omega (arith, h.0), get_or_default next (n - 1) (get_or next (n - 1) no_pair) no_pair (omega (arith, h.0))), (reached (n - 1) (omega (arith, h.0)), h.1))

pub same_product : {a b x y : ℕ} → a ≡ x → b ≡ y → a * b ≡ x * y
same_product e f = λ i. e i * f i
