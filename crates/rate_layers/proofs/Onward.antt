-- Steps from pair to pair.
use Rattle.std.proofs.Common.{◌≡◌, ℕ, zero, suc, ◌+◌, ◌<◌, ◌≤◌, List, [], ◌∷◌, length, get_or, Bool, true, false, ltb, cond, sym, ap, ◌∙◌, subst, arith, ⊎_elim}
use Rattle.std.specs.List.{Contains, filter}
use Rattle.std.specs.List.Sorted.{IsNonDecreasingBy, IsPartitionPoint}
use Rattle.std.proofs.lemmas.List.{get_or_default}
use Rattle.std.proofs.lemmas.List.Elements.{Contains-get_or}
use Rattle.std.proofs.lemmas.Bool.{cases_lt, ltb-true, ltb-false, cases_Bool, true≢false}
use Rattle.rate_table.specs.declared.entry.Entry.{Entry}
use Rattle.rate_table.specs.declared.entry.Pair.{Pair}
use Rattle.rate_table.specs.Table.{IndicesRise}
use Rattle.rate_table.specs.Pairs.{joined}
use Rattle.rate_layers.specs.Layers.{Rises}
use Rattle.rate_layers.specs.inner.Live.{LeadsOn, IsFirstOn}
use Rattle.rate_layers.proofs.Fronts.{first_smaller, rises_tail}
use Rattle.rate_table.proofs.Lists.{contains_cases, contains_head, contains_tail, contains_none}
use Rattle.rate_table.proofs.Entries.{index_after, rest_rises}

-- ---- rising sizes

pub rises_at : (ps : List Pair) (i j : ℕ) (d : Pair) → Rises ps → i < j → j < length ps → (get_or ps i d).size < (get_or ps j d).size
rises_at [] i j d h l n = absurd (omega arith)
rises_at (p ∷ ps) i zero d h l n = absurd (omega arith)
rises_at (p ∷ ps) zero (suc j) d h l n = first_smaller p ps (get_or ps j d) h (Contains-get_or ps j d (omega arith))
rises_at (p ∷ ps) (suc i) (suc j) d h l n = rises_at ps i j d (rises_tail p ps h) (omega arith) (omega arith)

pub rises_sorted : (ps : List Pair) → Rises ps → IsNonDecreasingBy (λ p. p.size) ps
rises_sorted ps h i j d l n =
    ⊎_elim (λ b. omega (arith, rises_at ps i j d h b n)) (λ b. let e : i ≡ j = omega arith in let e' = ap (λ k. (get_or ps k d).size) e in omega arith) (cases_lt i j)

pub same_size : (ps : List Pair) (p q : Pair) → Rises ps → Contains ps p → Contains ps q → p.size ≡ q.size → p ≡ q
same_size [] p q h c d e = absurd (contains_none p c)
same_size (r ∷ ps) p q h c d e =
    ⊎_elim
    (λ i. ⊎_elim (λ j. sym i ∙ j) (λ j. let s = ap (λ (x : Pair). x.size) i in absurd (omega (arith, first_smaller r ps q h j))) (contains_cases r ps q d))
    (λ i. ⊎_elim (λ j. let s = ap (λ (x : Pair). x.size) j in absurd (omega (arith, first_smaller r ps p h i)))
    (λ j. same_size ps p q (rises_tail r ps h) i j e) (contains_cases r ps q d))
    (contains_cases r ps p c)

pub build_rises : (q : Pair) (ps : List Pair) → Rises ps → ((x : Pair) → Contains ps x → q.size < x.size) → Rises (q ∷ ps)
build_rises q [] h f = tt
build_rises q (p ∷ ps) h f = (f p (contains_head p ps), h)

-- ---- pairs that pass a test

pub filter_has : (test : Pair → Bool) (ps : List Pair) (p : Pair) → Contains (filter test ps) p → Contains ps p × (test p ≡ true)
filter_has test [] p c = absurd (contains_none p c)
filter_has test (q ∷ ps) p c =
    ⊎_elim
    (λ e. let c' = subst (λ b. Contains (cond b (q ∷ filter test ps) (filter test ps)) p) e c in
    ⊎_elim (λ i. (subst (λ x. Contains (q ∷ ps) x) i (contains_head q ps), subst (λ x. test x ≡ true) i e))
    (λ i. let r = filter_has test ps p i in (contains_tail q ps p r.0, r.1)) (contains_cases q (filter test ps) p c'))
    (λ e. let c' = subst (λ b. Contains (cond b (q ∷ filter test ps) (filter test ps)) p) e c in
    let r = filter_has test ps p c' in (contains_tail q ps p r.0, r.1))
    (cases_Bool (test q))

pub has_filter : (test : Pair → Bool) (ps : List Pair) (p : Pair) → Contains ps p → test p ≡ true → Contains (filter test ps) p
has_filter test [] p c h = absurd (contains_none p c)
has_filter test (q ∷ ps) p c h =
    ⊎_elim
    (λ e. subst (λ b. Contains (cond b (q ∷ filter test ps) (filter test ps)) p) (sym e)
    (⊎_elim (λ i. subst (λ x. Contains (q ∷ filter test ps) x) i (contains_head q (filter test ps)))
    (λ i. contains_tail q (filter test ps) p (has_filter test ps p i h)) (contains_cases q ps p c)))
    (λ e. subst (λ b. Contains (cond b (q ∷ filter test ps) (filter test ps)) p) (sym e)
    (⊎_elim (λ i. absurd (true≢false (sym h ∙ subst (λ x. test x ≡ false) i e)))
    (λ i. has_filter test ps p i h) (contains_cases q ps p c)))
    (cases_Bool (test q))

pub rises_filter : (test : Pair → Bool) (ps : List Pair) → Rises ps → Rises (filter test ps)
rises_filter test [] h = tt
rises_filter test (q ∷ ps) h =
    let r = rises_filter test ps (rises_tail q ps h) in
    ⊎_elim
    (λ e. subst (λ b. Rises (cond b (q ∷ filter test ps) (filter test ps))) (sym e)
    (build_rises q (filter test ps) r (λ x c. first_smaller q ps x h (filter_has test ps x c).0)))
    (λ e. subst (λ b. Rises (cond b (q ∷ filter test ps) (filter test ps))) (sym e) r)
    (cases_Bool (test q))

-- ---- the position of a size

module _ (ps : List Pair) (size at : ℕ) (h : Rises ps) (parts : IsPartitionPoint (λ (p : Pair). ltb p.size size ≡ true) (λ (p : Pair). ltb p.size size ≡ false) ps at) where
  behind : (q : Pair) → Contains ps q → size ≤ q.size → (k : ℕ) × (k < length ps) × (get_or ps k q ≡ q) × (at ≤ k)
  behind q (k, n, e) l =
      (k, n, e, ⊎_elim (λ b. let s = ltb-true _ _ (parts.0 k q (omega arith) b) in let e' = ap (λ (p : Pair). p.size) e in absurd (omega arith)) (λ b. b) (cases_lt k at))

  -- The pair of this size is here, or there is none.
  pub none_at : (q : Pair) → q.size ≡ size → (at < length ps → get_or ps at q ≡ q → ⊥) → Contains ps q → ⊥
  none_at q e other c =
      let b = behind q c (omega arith) in
      let n = b.1 in
      let e' = ap (λ (p : Pair). p.size) b.2 in
      ⊎_elim
      (λ l. omega (arith, ltb-false _ _ (parts.1 at q (omega arith) (omega arith)), rises_at ps at b.0 q h l n))
      (λ l. let s : b.0 ≡ at = omega (arith, b.3) in
      other (omega arith) (subst (λ k. get_or ps k q ≡ q) s b.2)) (cases_lt at b.0)

-- ---- the first entry

pub indices_at : (xs : List Entry) (i j : ℕ) (d : Entry) → IndicesRise xs → i < j → j < length xs → (get_or xs i d).index < (get_or xs j d).index
indices_at [] i j d h l n = absurd (omega arith)
indices_at (x ∷ xs) i zero d h l n = absurd (omega arith)
indices_at (x ∷ xs) zero (suc j) d h l n = index_after x xs (get_or xs j d) h (Contains-get_or xs j d (omega arith))
indices_at (x ∷ xs) (suc i) (suc j) d h l n = indices_at xs i j d (rest_rises x xs h) (omega arith) (omega arith)

module _ (slice : List Entry) (next : List Pair) (p : Pair) where
  -- no entry before this position leads on
  abbrev pub NoneBefore : ℕ → Type 0
  NoneBefore k = (i : ℕ) → i < k → (d : Entry) → Contains next (joined p (get_or slice i d)) → ⊥

  pub first_on : (k : ℕ) (d : Entry) → IndicesRise slice → k < length slice → NoneBefore k → Contains next (joined p (get_or slice k d)) → IsFirstOn slice next p (get_or slice k d)
  first_on k d rise n none c = record {
    in_slice = Contains-get_or slice k d n;
    leads = c;
    first = λ y i l. ⊎_elim (λ b. absurd (none i.0 b y (subst (λ z. Contains next (joined p z)) (sym i.2) l)))
        (λ b. let e = ap (λ (x : Entry). x.index) (get_or_default slice i.0 d y i.1 ∙ i.2) in
        ⊎_elim (λ b'. omega (arith, indices_at slice k i.0 d rise b' i.1))
        (λ b'. let e' : k ≡ i.0 = omega arith in let e'' = ap (λ j. (get_or slice j d).index) e' in omega arith) (cases_lt k i.0)) (cases_lt i.0 k);
  }

  pub none_on : (k : ℕ) → length slice ≤ k → NoneBefore k → LeadsOn slice next p → ⊥
  none_on k n none (x, i, l) = none i.0 (omega (arith, i.1)) x (subst (λ z. Contains next (joined p z)) (sym i.2) l)

  pub none_more : (k : ℕ) (e : Entry) → k < length slice → NoneBefore k → (Contains next (joined p (get_or slice k e)) → ⊥) → NoneBefore (k + 1)
  none_more k e n none c i l d h =
      ⊎_elim (λ b. none i b d h)
      (λ b. let s : i ≡ k = omega arith in c (subst (λ z. Contains next (joined p z)) (ap (λ j. get_or slice j d) s ∙ get_or_default slice k d e n) h)) (cases_lt i k)
