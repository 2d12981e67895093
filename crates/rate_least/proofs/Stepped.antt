-- The steps from layer to layer, by the number of the slice.
use Rattle.std.proofs.Common.{◌≡◌, ℕ, zero, suc, ◌+◌, ◌-◌, ◌*◌, ◌<◌, ◌≤◌, List, [], ◌∷◌, length, get_or, drop, sym, ap, ◌∙◌, subst, arith, inl, inr, ⊎_elim}
use Rattle.std.specs.Prelude.{◌↔◌}
use Rattle.std.specs.List.{All}
use Rattle.std.proofs.lemmas.Bool.{cases_lt}
use Rattle.rate_check.proofs.Stepped.{sum_step}
use Rattle.rate_table.specs.declared.entry.Entry.{Entry}
use Rattle.rate_table.specs.Table.{least}
use Rattle.rate_table.specs.Pairs.{rest, cost}
use Rattle.rate_least.specs.declared.outcome.WidePair.{WidePair}
use Rattle.rate_least.specs.declared.bound.Bound.{Bound}
use Rattle.rate_least.specs.Pairs.{joined, least_error}
use Rattle.rate_least.specs.Records.{Printed, IsCovered, Steps, AllStep}
use Rattle.rate_least.specs.inner.Covering.{IsBoundOf, Covers, CoversEntry}
use Rattle.rate_least.specs.inner.Printed.{of_layers}

-- a printed record with a multiplier and a size
abbrev pub by : ℕ → ℕ → Printed
by m size = of_layers [] size 0 m []

-- the step over slice k
abbrev pub StepsAt : List (List Entry) → ℕ → ℕ → ℕ → List (List WidePair) → ℕ → Type 0
StepsAt slices cap m size layers k = Steps cap (by m size) (get_or slices k []) (drop (suc k) slices) (get_or layers k []) (get_or layers (suc k) [])

abbrev pub StepsUntil : List (List Entry) → ℕ → ℕ → ℕ → List (List WidePair) → ℕ → Type 0
StepsUntil slices cap m size layers n = (k : ℕ) → k < n → StepsAt slices cap m size layers k

-- the bound agrees with the definitions
pub covers_is : (cap m size : ℕ) (later : List (List Entry)) (b : Bound) → IsBoundOf cap m size later b → (next : List WidePair) (p : WidePair) → Covers b next p ↔ IsCovered cap (by m size) later next p
covers_is cap m size later b o next p =
    let e : b.multiplier * p.size ≡ m * p.size = ap (λ n. n * p.size) o.multiplier in (
      (λ h. ⊎_elim (λ d. inl d) (λ r. inr (⊎_elim (λ f. inl (λ meets. f (omega (arith, o.errors, o.limit, meets)))) (λ f. inr (λ stays. f (omega (arith, o.floor, o.most, e, stays)))) r)) h),
      (λ h. ⊎_elim (λ d. inl d) (λ r. inr (⊎_elim (λ f. inl (λ meets. f (omega (arith, o.errors, o.limit, meets)))) (λ f. inr (λ stays. f (omega (arith, o.floor, o.most, e, stays)))) r)) h),
    )

-- entry by entry, or pair by pair
pub steps_is : (cap m size : ℕ) (later : List (List Entry)) (b : Bound) → IsBoundOf cap m size later b → (slice : List Entry) (layer next : List WidePair)
    → All (CoversEntry b layer next) slice ↔ Steps cap (by m size) slice later layer next
steps_is cap m size later b o slice layer next = (
  (λ h j d n k e m'. (covers_is cap m size later b o next (joined (get_or layer j d) (get_or slice k e))).0 (h k e m' j d n)),
  (λ h k e m' j d n. (covers_is cap m size later b o next (joined (get_or layer j d) (get_or slice k e))).1 (h j d n k e m')),
)

module _ (cap : ℕ) (r : Printed) where
  -- over the remaining slices
  pub all_by_number : (slices : List (List Entry)) (layers : List (List WidePair)) → length layers ≡ suc (length slices)
      → ((k : ℕ) → k < length slices → Steps cap r (get_or slices k []) (drop (suc k) slices) (get_or layers k []) (get_or layers (suc k) [])) → AllStep cap r slices layers
  all_by_number [] layers n h = tt
  all_by_number (s ∷ ss) [] n h = tt
  all_by_number (s ∷ ss) (l ∷ []) n h = absurd (omega (arith, n))
  all_by_number (s ∷ ss) (l ∷ m ∷ ls) n h = (h 0 (omega arith), all_by_number ss (m ∷ ls) (omega (arith, n)) (λ k lt. h (suc k) (omega (arith, lt))))

  pub number_of_all : (slices : List (List Entry)) (layers : List (List WidePair)) → length layers ≡ suc (length slices) → AllStep cap r slices layers
      → (k : ℕ) → k < length slices → Steps cap r (get_or slices k []) (drop (suc k) slices) (get_or layers k []) (get_or layers (suc k) [])
  number_of_all [] layers n h k lt = absurd (omega (arith, lt))
  number_of_all (s ∷ ss) [] n h k lt = absurd (omega (arith, n))
  number_of_all (s ∷ ss) (l ∷ []) n h k lt = absurd (omega (arith, n))
  number_of_all (s ∷ ss) (l ∷ m ∷ ls) n h zero lt = h.0
  number_of_all (s ∷ ss) (l ∷ m ∷ ls) n h (suc k) lt = number_of_all ss (m ∷ ls) (omega (arith, n)) h.1 k (omega (arith, lt))

-- the numbers of the next bound
pub errors_next : (slices : List (List Entry)) (k : ℕ) (s : List Entry) → k < length slices → s ≡ get_or slices k [] → (errors x : ℕ) → errors ≡ least_error (drop k slices) → x ≡ least (λ x. x.error) s
    → (x ≤ errors) × (errors - x ≡ least_error (drop (suc k) slices))
errors_next slices k s n is errors x e f = let step = sum_step (least (λ x. x.error)) slices k s n is in (omega arith, omega arith)

pub costs_next : (slices : List (List Entry)) (m k : ℕ) (s : List Entry) → k < length slices → s ≡ get_or slices k [] → (costs y : ℕ) → costs ≡ rest m (drop k slices) → y ≡ least (cost m) s
    → (y ≤ costs) × (costs - y ≡ rest m (drop (suc k) slices))
costs_next slices m k s n is costs y e f = let step = sum_step (least (λ x. x.error + m * x.size)) slices k s n is in (omega arith, omega arith)

-- one step more
pub until_more : (slices : List (List Entry)) (cap m size : ℕ) (layers : List (List WidePair)) (n : ℕ) → StepsUntil slices cap m size layers n → StepsAt slices cap m size layers n → StepsUntil slices cap m size layers (n + 1)
until_more slices cap m size layers n far here k lt = ⊎_elim (λ l. far k l) (λ l. let e : n ≡ k = omega (arith, l, lt) in subst (StepsAt slices cap m size layers) e here) (cases_lt k n)

-- the step as it is checked
pub step_is : (slices : List (List Entry)) (cap m size k : ℕ) (b : Bound) → IsBoundOf cap m size (drop (suc k) slices) b → (slice : List Entry) (layer next : List WidePair) (layers : List (List WidePair))
    → slice ≡ get_or slices k [] → layer ≡ get_or layers k [] → next ≡ get_or layers (suc k) []
    → All (CoversEntry b layer next) slice ↔ StepsAt slices cap m size layers k
step_is slices cap m size k b o slice layer next layers e f g =
    let h = steps_is cap m size (drop (suc k) slices) b o slice layer next in (
      (λ a. subst (λ x. Steps cap (by m size) (get_or slices k []) (drop (suc k) slices) (get_or layers k []) x) g
          (subst (λ x. Steps cap (by m size) (get_or slices k []) (drop (suc k) slices) x next) f
          (subst (λ x. Steps cap (by m size) x (drop (suc k) slices) layer next) e (h.0 a)))),
      (λ a. h.1 (subst (λ x. Steps cap (by m size) x (drop (suc k) slices) layer next) (sym e)
          (subst (λ x. Steps cap (by m size) (get_or slices k []) (drop (suc k) slices) x next) (sym f)
          (subst (λ x. Steps cap (by m size) (get_or slices k []) (drop (suc k) slices) (get_or layers k []) x) (sym g) a)))),
    )

pub bound_next : (slices : List (List Entry)) (cap m size k : ℕ) (s : List Entry) → k < length slices → s ≡ get_or slices k [] → (errors costs x y : ℕ)
    → errors ≡ least_error (drop k slices) → costs ≡ rest m (drop k slices) → x ≡ least (λ x. x.error) s → y ≡ least (cost m) s
    → (b : Bound) → b.errors ≡ errors - x → b.cap ≡ cap → b.floor ≡ costs - y → b.most ≡ cap + m * size → b.multiplier ≡ m → IsBoundOf cap m size (drop (suc k) slices) b
bound_next slices cap m size k s n is errors costs x y e f g h b bt bb bf bm bl = record {
  errors = bt ∙ (errors_next slices k s n is errors x e g).1;
  limit = bb;
  floor = bf ∙ (costs_next slices m k s n is costs y f h).1;
  most = bm;
  multiplier = bl;
}
