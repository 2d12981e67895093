-- Found frontiers under a smaller size.
use Rattle.std.proofs.Common.{◌≡◌, ℕ, zero, suc, ◌+◌, ◌-◌, ◌*◌, ◌<◌, ◌≤◌, List, [], ◌∷◌, Vec, Global, Bool, true, cond, length, get_or, set, drop, nat_lt, refl, sym, ap, ◌∙◌, subst, arith, ⊎_elim}
use Rattle.std.specs.List.{filter}
use Rattle.std.proofs.lemmas.Bool.{cases_lt, ltb-true, lt-ltb}
use Rattle.std.proofs.lemmas.List.{length-set, get_or-set_same, get_or-set_other, drop_all}
use Rattle.rate_table.proofs.Vectors.{items_of, element}
use Rattle.rate_least.specs.declared.outcome.WidePair.{WidePair}
use Rattle.rate_table.specs.Table.{size_of, error_of}
use Rattle.rate_table.specs.Pairs.{rest}
use Rattle.rate_least.specs.inner.Live.{Capped, AreFound}
use Rattle.rate_least.proofs.Asked.{IsKept, AreKept}
use Rattle.rate_least.proofs.Counts.{kept_less}
use Rattle.rate_least.proofs.Wholes.{kept_same, kept_are_fewer}
use Rattle.rate_least.proofs.Found.{goal_reached, goal_fits, goal_below}
use Rattle.rate_least.proofs.Onward.{filter_has, has_filter, rises_filter}

-- the frontiers up to k are those of the size v, and those after are unchanged
pub record Lessened (t : Capped) (m v : ℕ) (before now : List (List WidePair)) (k : ℕ) : Type 0 where
  pub count : length now ≡ length before
  pub done : (i : ℕ) → i ≤ k → IsKept t m v i (get_or now i [])
  pub left : (i : ℕ) → k < i → get_or now i [] ≡ get_or before i []

-- the pairs of a frontier whose cost is below a ceiling
abbrev pub keeps : ℕ → ℕ → WidePair → Bool
keeps multiplier ceiling p = nat_lt (p.error + multiplier * p.size) ceiling

pub kept_filter : (t : Capped) (m u v k multiplier ceiling : ℕ) (layer : List WidePair) → v ≤ u → IsKept t m u k layer → multiplier ≡ m → ceiling ≡ (t.cap + m * v + 1) - rest m (drop k t.slices) → IsKept t m v k (filter (keeps multiplier ceiling) layer)
kept_filter t m u v k multiplier ceiling layer l h em ec =
    kept_less t m u v k layer (filter (keeps multiplier ceiling) layer) l h
    (rises_filter (keeps multiplier ceiling) layer h.rises)
    (λ p. let e : multiplier * p.size ≡ m * p.size = ap (λ n. n * p.size) em in (
      (λ c. let f = filter_has (keeps multiplier ceiling) layer p c in
          let s = ltb-true (p.error + multiplier * p.size) ceiling f.1 in
          (f.0, omega (arith, s, e, ec))),
      (λ c. has_filter (keeps multiplier ceiling) layer p c.0 (lt-ltb (p.error + multiplier * p.size) ceiling (omega (arith, c.1, e, ec)))),
    ))

items_set : (vs : List (Vec WidePair Global)) (k : ℕ) (v : Vec WidePair Global) → items_of (set vs k v) ≡ set (items_of vs) k v.items
items_set [] k v = refl
items_set (w ∷ vs) zero v = refl
items_set (w ∷ vs) (suc k) v = ap (λ l. w.items ∷ l) (items_set vs k v)

module _ (t : Capped) (m v : ℕ) (before : List (List WidePair)) (count : length before ≡ suc (length t.slices)) where
  pub lessened_first : (layer : List WidePair) → IsKept t m v 0 layer → Lessened t m v before (set before 0 layer) 0
  lessened_first layer h = record {
    count = length-set before 0 layer;
    done = λ i l. let z : 0 ≡ i = omega arith in subst (λ j. IsKept t m v j (get_or (set before 0 layer) j [])) z
        (subst (λ y. IsKept t m v 0 y) (sym (get_or-set_same before 0 layer [] (omega arith))) h);
    left = λ i l. get_or-set_other before 0 i layer [] (λ e. omega arith);
  }

  pub lessened_more : (now : List (List WidePair)) (k : ℕ) (layer : List WidePair) → Lessened t m v before now k → k < length t.slices → IsKept t m v (suc k) layer → Lessened t m v before (set now (k + 1) layer) (k + 1)
  lessened_more now k layer a n h = record {
    count = length-set now (k + 1) layer ∙ a.count;
    done = λ i l. ⊎_elim
        (λ b. subst (λ y. IsKept t m v i y) (sym (get_or-set_other now (k + 1) i layer [] (λ e. omega arith))) (a.done i (omega arith)))
        (λ b. let e : suc k ≡ i = omega arith in
        let e' : suc k ≡ k + 1 = omega arith in
        subst (λ j. IsKept t m v j (get_or (set now (k + 1) layer) j [])) e
        (subst (λ y. IsKept t m v (suc k) y) (sym (ap (λ j. get_or (set now (k + 1) layer) j []) e' ∙ get_or-set_same now (k + 1) layer [] (omega (arith, a.count)))) h))
        (cases_lt i (k + 1));
    left = λ i l. get_or-set_other now (k + 1) i layer [] (λ e. omega arith) ∙ a.left i (omega arith);
  }

-- a vector of the frontiers, and the pairs of it that pass the test
pub kept_vector : (t : Capped) (m u v k : ℕ) (vs : List (Vec WidePair Global)) (old new : Vec WidePair Global) (multiplier ceiling : ℕ) → v ≤ u → k < length vs → IsKept t m u k (get_or (items_of vs) k []) → old ≡ get_or vs k old
    → new.items ≡ filter (keeps multiplier ceiling) old.items → multiplier ≡ m → ceiling ≡ (t.cap + m * v + 1) - rest m (drop k t.slices) → IsKept t m v k new.items
kept_vector t m u v k vs old new multiplier ceiling l n h is e em ec =
    let o = element vs k old old.items n is refl in
    subst (λ y. IsKept t m v k y) (sym e) (kept_filter t m u v k multiplier ceiling old.items l (subst (λ y. IsKept t m u k y) (sym o) h) em ec)

pub set_first : (t : Capped) (m v : ℕ) (vs : List (Vec WidePair Global)) (new : Vec WidePair Global) → length (items_of vs) ≡ suc (length t.slices) → IsKept t m v 0 new.items → Lessened t m v (items_of vs) (items_of (set vs 0 new)) 0
set_first t m v vs new n h = subst (λ l. Lessened t m v (items_of vs) l 0) (sym (items_set vs 0 new)) (lessened_first t m v (items_of vs) n new.items h)

pub set_more : (t : Capped) (m v : ℕ) (before : List (List WidePair)) (vs : List (Vec WidePair Global)) (k : ℕ) (new : Vec WidePair Global) → length before ≡ suc (length t.slices) → Lessened t m v before (items_of vs) k → k < length t.slices → IsKept t m v (suc k) new.items → Lessened t m v before (items_of (set vs (k + 1) new)) (k + 1)
set_more t m v before vs k new n a l h = subst (λ y. Lessened t m v before y (k + 1)) (sym (items_set vs (k + 1) new)) (lessened_more t m v before n (items_of vs) k new.items a l h)

-- ---- the goal stays first

filter_first : (test : WidePair → Bool) (p : WidePair) (back : List WidePair) → test p ≡ true → (left : List WidePair) × (filter test (p ∷ back) ≡ p ∷ left)
filter_first test p back h = (filter test back, ap (λ b. cond b (p ∷ filter test back) (filter test back)) h)

module _ (t : Capped) (m u : ℕ) (goal : WidePair) (before : List (List WidePair)) (found : AreFound t m u goal before) where
  -- the frontier of its size, as a filter of the last frontier
  end_is : (layer : List WidePair) → IsKept t m goal.size (length t.slices) layer → (back : List WidePair) × (layer ≡ goal ∷ back)
  end_is layer h =
      let n = length t.slices in
      let ceiling = (t.cap + m * goal.size + 1) - rest m (drop n t.slices) in
      let k = kept_filter t m u goal.size n m ceiling (get_or before n []) (goal_below t m u goal before found) (found.kept.1 n (omega arith)) refl refl in
      let same = kept_same t m goal.size n layer (filter (keeps m ceiling) (get_or before n [])) h k in
      let z : rest m (drop n t.slices) ≡ 0 = ap (λ l. rest m l) (drop_all n t.slices (omega arith)) in
      let test : keeps m ceiling goal ≡ true = lt-ltb (goal.error + m * goal.size) ceiling (omega (arith, goal_fits t m u goal before found, z)) in
      let f = filter_first (keeps m ceiling) goal found.first.0 test in
      (f.0, same ∙ ap (λ l. filter (keeps m ceiling) l) found.first.1 ∙ f.1)

  pub lessened_end : (now : List (List WidePair)) (k : ℕ) → k ≡ length t.slices → Lessened t m goal.size before now k → AreFound t m goal.size goal now
  lessened_end now k e a =
      let r = goal_reached t m u goal before found in
      let es : size_of r.0 ≡ goal.size = ap (λ (p : WidePair). p.size) r.2 in
      let ee : error_of r.0 ≡ goal.error = ap (λ (p : WidePair). p.error) r.2 in
      let f = goal_fits t m u goal before found in
      let kept : AreKept t m goal.size now = (a.count ∙ found.kept.0, λ i l. a.done i (omega arith)) in
      record {
        kept = kept;
        few = omega (arith, kept_are_fewer t m u goal.size before now (goal_below t m u goal before found) found.kept kept, found.few);
        some = (r.0, r.1, omega arith, omega arith);
        first = end_is (get_or now (length t.slices) []) (kept.1 (length t.slices) (omega arith));
      }
