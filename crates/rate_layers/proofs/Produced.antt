-- The record of the best choice and its frontiers is good.
use Rattle.std.proofs.Common.{◌≡◌, ℕ, suc, ◌+◌, ◌*◌, ◌<◌, ◌≤◌, List, [], ◌∷◌, ◌++◌, length, get_or, take, drop, refl, sym, ap, ◌∙◌, subst, arith, ◌⊎◌, inl, inr, ⊎_elim}
use Rattle.std.specs.List.{Contains, All}
use Rattle.std.proofs.lemmas.List.{take_all, drop_all, get_or_default}
use Rattle.std.proofs.lemmas.Bool.{cases_lt}
use Rattle.std.proofs.Math.Seq.{take-suc, drop-cons}
use Rattle.pw_outside.proofs.Lists.{all_from}
use Rattle.rate_table.specs.declared.entry.Entry.{Entry}
use Rattle.rate_table.specs.declared.entry.Pair.{Pair}
use Rattle.rate_table.specs.Table.{Table, IsChoice, Fits, HasNoFit, size_of, error_of, pair_of, IsBest, least_sizes, IsTable}
use Rattle.rate_layers.specs.First.{IsFirst}
use Rattle.rate_table.specs.Pairs.{joined, rest, CanFit, StaysWithin, RisesAndFalls}
use Rattle.rate_layers.specs.Layers.{Reaches, IsFront, IsFull, IsKept, AreFull, AreKept}
use Rattle.rate_table.specs.Records.{Printed, IsCovered, Steps, AllStep, IsGoodFit, record_of}
use Rattle.rate_layers.proofs.Fronts.{front_layer, one_layer}
use Rattle.rate_table.proofs.Lists.{contains_none}
use Rattle.rate_layers.proofs.Exists.{full_front}
use Rattle.rate_layers.proofs.Asked.{IsTest, At, Stays, full_test, kept_test, layer_none}
use Rattle.rate_layers.proofs.Kept.{kept_front}
use Rattle.rate_layers.proofs.Grown.{choice_push, pair_push}
use Rattle.rate_table.proofs.Entries.{choice_same}
use Rattle.rate_layers.proofs.Firsts.{best_last, last_in, length_chosen}

-- a pair passes, or a clause says why not
abbrev pub Judged : Table → Printed → (List (List Entry) → Pair → Type 0) → Type 0
Judged t r Fine = (later : List (List Entry)) (p : Pair) → Fine later p ⊎ (CanFit t later p → ⊥) ⊎ (StaysWithin t r.multiplier r.error later p → ⊥)

module _ (t : Table) (r : Printed) (u : ℕ) (Fine : List (List Entry) → Pair → Type 0) (test : IsTest t u Fine) (judged : Judged t r Fine) where
  -- one frontier and the next
  steps_at : (k : ℕ) (layer next : List Pair) → k < length t.slices → IsFront (At t Fine k) layer → IsFront (At t Fine (suc k)) next → Steps t r (get_or t.slices k []) (drop (suc k) t.slices) layer next
  steps_at k layer next h f g =
      let s = get_or t.slices k [] in
      let later = drop (suc k) t.slices in
      all_from (λ p. All (λ x. IsCovered t r later next (joined p x)) s) layer (λ p c.
      all_from (λ x. IsCovered t r later next (joined p x)) s (λ x i. covered p c x i (judged later (joined p x))))
    where
      reach : (p : Pair) → Contains layer p → (x : Entry) → Contains (get_or t.slices k []) x → Reaches (take (suc k) t.slices) (joined p x)
      reach p c x i =
          let o = (f.only p c).0 in
          subst (λ l. Reaches l (joined p x)) (sym (take-suc t.slices k [] h))
          (o.0 ++ x ∷ [], choice_push (take k t.slices) (get_or t.slices k []) o.0 x o.1 i, pair_push o.0 x ∙ ap (λ q. joined q x) o.2)

      covered : (p : Pair) → Contains layer p → (x : Entry) → Contains (get_or t.slices k []) x → Fine (drop (suc k) t.slices) (joined p x) ⊎ (CanFit t (drop (suc k) t.slices) (joined p x) → ⊥) ⊎ (StaysWithin t r.multiplier r.error (drop (suc k) t.slices) (joined p x) → ⊥) → IsCovered t r (drop (suc k) t.slices) next (joined p x)
      covered p c x i (inl fine) = inl (g.covers (joined p x) (reach p c x i, fine))
      covered p c x i (inr other) = inr other

  -- the remaining slices and frontiers, from k on
  steps_from : (slices : List (List Entry)) (layers : List (List Pair)) (k : ℕ) → drop k t.slices ≡ slices → k + length slices ≡ length t.slices → length layers ≡ suc (length slices) → ((i : ℕ) → i ≤ length slices → IsFront (At t Fine (k + i)) (get_or layers i [])) → AllStep t r slices layers
  steps_from [] layers k d n m f = tt
  steps_from (s ∷ later) [] k d n m f = tt
  steps_from (s ∷ later) (layer ∷ []) k d n m f = tt
  steps_from (s ∷ later) (layer ∷ next ∷ layers) k d n m f =
      let h : k < length t.slices = omega arith in
      let e : get_or t.slices k [] ∷ drop (suc k) t.slices ≡ s ∷ later = sym (drop-cons t.slices k [] h) ∙ d in
      let es : get_or t.slices k [] ≡ s = cc in
      let el : drop (suc k) t.slices ≡ later = cc in
      let f0 = f 0 (omega arith) in
      let f1 = f 1 (omega arith) in
      let k0 : k + 0 ≡ k = omega arith in
      let k1 : k + 1 ≡ suc k = omega arith in
      let here = steps_at k layer next h (subst (λ i. IsFront (At t Fine i) layer) k0 f0) (subst (λ i. IsFront (At t Fine i) next) k1 f1) in (
        subst (λ x. Steps t r x later layer next) es (subst (λ l. Steps t r (get_or t.slices k []) l layer next) el here),
        steps_from later (next ∷ layers) (suc k) el (omega arith) (omega arith)
            (λ i b. let j : k + suc i ≡ suc k + i = omega arith in subst (λ n. IsFront (At t Fine n) (get_or (next ∷ layers) i [])) j (f (suc i) (omega arith))),
      )

-- the record of a best choice with the frontiers of a test
pub produced : (t : Table) → IsTable t → (b : List Entry) → IsBest t b → (m : ℕ) (layers : List (List Pair)) (Fine : List (List Entry) → Pair → Type 0) → IsTest t (error_of b) Fine → Judged t (record_of b m layers) Fine → length layers ≡ suc (length t.slices) → ((k : ℕ) → k ≤ length t.slices → IsFront (At t Fine k) (get_or layers k [])) → IsGoodFit t (record_of b m layers)
produced t ok b best m layers Fine test judged n f =
    let none : Pair = record { size = 0; error = 0 } in
    let r = record_of b m layers in
    let fine = test.keeps t.slices none b best.choice (omega (arith, best.fits)) (omega arith) in
    let l0 = front_layer _ (none ∷ []) (layer_none t (error_of b) Fine test fine) in
    let m0 = front_layer _ (get_or layers 0 []) (f 0 (omega arith)) in
    let fn = f (length t.slices) (omega arith) in
    record {
      counts = (length_chosen t.slices b best.choice, n);
      entries = (b, best.choice, refl);
      sums = λ c h e. subst (λ d. (size_of d ≡ size_of b) × (error_of d ≡ error_of b) × Fits t d) (choice_same t.slices ok.each b c best.choice h (sym e)) (refl, refl, best.fits);
      first = one_layer _ (get_or layers 0 []) (none ∷ []) m0 l0;
      order = order;
      steps = steps_from t r (error_of b) Fine test judged t.slices layers 0 refl (omega arith) n (λ i h. let e : i ≡ 0 + i = omega arith in subst (λ j. IsFront (At t Fine j) (get_or layers i [])) e (f i h));
      last = all_from (λ p. error_of b ≤ p.error) (get_or layers (length t.slices) []) (λ p c.
          let o = fn.only p c in
          let reach = subst (λ l. Reaches l p) (take_all (length t.slices) t.slices (omega arith)) o.0 in
          let fine' = subst (λ l. Fine l p) (drop_all (length t.slices) t.slices (omega arith)) o.1 in
          let es : size_of reach.0 ≡ p.size = ap (λ (x : Pair). x.size) reach.2 in
          let ee : error_of reach.0 ≡ p.error = ap (λ (x : Pair). x.error) reach.2 in
          let can = test.can [] p fine' in
          omega (arith, best.error reach.0 reach.1 (omega arith)));
    }
  where
    order : All RisesAndFalls layers
    order k d h =
        let g = f k (omega arith) in subst (λ l. RisesAndFalls l) (get_or_default layers k [] d h) g.order

pub judged_full : (t : Table) (r : Printed) → Judged t r (CanFit t)
judged_full t r later p =
    ⊎_elim (λ l. inr (inl (λ h. omega arith))) (λ l. inl l) (cases_lt t.budget (t.fixed + (p.size + least_sizes later)))

pub judged_kept : (t : Table) (r : Printed) → Judged t r (Stays t r.multiplier r.error)
judged_kept t r later p =
    ⊎_elim (λ l. inr (inl (λ h. omega arith)))
    (λ l. ⊎_elim (λ g. inr (inr (λ h. omega arith))) (λ g. inl (l, g)) (cases_lt (r.error + r.multiplier * t.budget) (p.error + rest r.multiplier later + r.multiplier * (t.fixed + p.size))))
    (cases_lt t.budget (t.fixed + (p.size + least_sizes later)))

pub produced_full : (t : Table) → IsTable t → (b : List Entry) → IsBest t b → (m : ℕ) (layers : List (List Pair)) → AreFull t layers → IsGoodFit t (record_of b m layers)
produced_full t ok b best m layers a =
    produced t ok b best m layers (CanFit t) (full_test t (error_of b)) (judged_full t (record_of b m layers)) a.0
    (λ k h. full_front t k (get_or layers k []) (a.1 k h))

pub produced_kept : (t : Table) → IsTable t → (b : List Entry) → IsBest t b → (m : ℕ) (layers : List (List Pair)) → AreKept t m (error_of b) layers → IsGoodFit t (record_of b m layers)
produced_kept t ok b best m layers a =
    produced t ok b best m layers (Stays t m (error_of b)) (kept_test t m (error_of b)) (judged_kept t (record_of b m layers)) a.0
    (λ k h. kept_front t m (error_of b) k (get_or layers k []) (a.1 k h))

-- the frontier after all slices
pub whole : (t : Table) (Fine : List (List Entry) → Pair → Type 0) (layer : List Pair) → IsFront (At t Fine (length t.slices)) layer → IsFront (λ p. Reaches t.slices p × Fine [] p) layer
whole t Fine layer f =
    subst (λ l. IsFront (λ p. Reaches l p × Fine [] p) layer) (take_all (length t.slices) t.slices (omega arith))
    (subst (λ l. IsFront (λ p. Reaches (take (length t.slices) t.slices) p × Fine l p) layer) (drop_all (length t.slices) t.slices (omega arith)) f)

pub best_full_law : (t : Table) (layer front : List Pair) (p : Pair) (c : List Entry) → IsFull t (length t.slices) layer → layer ≡ front ++ p ∷ [] → IsFirst t.slices p c → IsBest t c
best_full_law t layer front p c f e first =
    let g = whole t (CanFit t) layer (full_front t (length t.slices) layer f) in
    let g' = subst (λ l. IsFront (λ p. Reaches t.slices p × CanFit t [] p) l) e g in
    let fits = (g'.only p (last_in front p)).1 in
    let es : size_of c ≡ p.size = ap (λ (x : Pair). x.size) first.pair in
    best_last t (error_of c) (CanFit t) (full_test t (error_of c)) front p g' c first.chosen (omega arith) (omega arith) c first

pub none_full_law : (t : Table) → IsFull t (length t.slices) [] → HasNoFit t
none_full_law t f c h fits =
    let g = whole t (CanFit t) [] (full_front t (length t.slices) [] f) in
    let q = g.covers (pair_of c) ((c, h, refl), omega arith) in
    contains_none q.0 q.1

pub best_kept_law : (t : Table) (m u : ℕ) (some : List Entry) (layer front : List Pair) (p : Pair) (c : List Entry) → IsChoice t.slices some → Fits t some → error_of some ≤ u → IsKept t m u (length t.slices) layer → layer ≡ front ++ p ∷ [] → IsFirst t.slices p c → IsBest t c
best_kept_law t m u some layer front p c i fits le f e first =
    let g = whole t (Stays t m u) layer (kept_front t m u (length t.slices) layer f) in
    let g' = subst (λ l. IsFront (λ p. Reaches t.slices p × Stays t m u [] p) l) e g in
    best_last t u (Stays t m u) (kept_test t m u) front p g' some i fits le c first

-- If each pair of the last kept frontier has more error, so has each fitting choice.
pub above_kept_law : (t : Table) (m u : ℕ) (layer : List Pair) (c : List Entry) → IsKept t m u (length t.slices) layer → ((p : Pair) → Contains layer p → u < p.error) → IsChoice t.slices c → Fits t c → u < error_of c
above_kept_law t m u layer c f above h fits =
    ⊎_elim (λ l. l)
    (λ l. let g = whole t (Stays t m u) layer (kept_front t m u (length t.slices) layer f) in
    let q = g.covers (pair_of c) ((c, h, refl), (kept_test t m u).keeps [] (pair_of c) [] tt (omega arith) (omega arith)) in
    absurd (omega (arith, above q.0 q.1, q.2))) (cases_lt u (error_of c))
