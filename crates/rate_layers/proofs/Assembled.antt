-- The invariant of the loop over slices.
use Rattle.std.proofs.Common.{◌≡◌, ℕ, suc, ◌+◌, ◌-◌, ◌*◌, ◌^◌, ◌<◌, ◌≤◌, List, [], ◌∷◌, ◌++◌, length, get_or, take, drop, sym, ap, ◌∙◌, subst, arith, ⊎_elim}
use Rattle.std.specs.List.{All}
use Rattle.std.proofs.lemmas.List.{get_or_append_left, get_or_push, get_or_default, length_push, length-take}
use Rattle.std.proofs.lemmas.List.Sums.{sum_by-cons}
use Rattle.std.proofs.lemmas.List.Elements.{All-head, All-tail, All-contains, All-take, Contains-get_or}
use Rattle.std.proofs.lemmas.Bool.{cases_lt}
use Rattle.rate_table.specs.declared.entry.Entry.{Entry}
use Rattle.rate_table.specs.declared.entry.Pair.{Pair}
use Rattle.rate_table.specs.Table.{Table, IsChoice, IsEntry, IsSliceTable, IsTable, error_of, least, least_sizes}
use Rattle.rate_table.specs.Pairs.{cost, rest}
use Rattle.rate_layers.specs.declared.bound.Bound.{Bound}
use Rattle.rate_layers.specs.Layers.{Joins, IsFront, IsKept, AreKept, pairs_in}
use Rattle.rate_layers.specs.inner.Bound.{IsBoundOf, HasRoom, IsWithin, IsNext}
use Rattle.rate_layers.proofs.Asked.{Stays, At, kept_test, layer_step}
use Rattle.rate_layers.proofs.Kept.{front_kept}
use Rattle.rate_layers.proofs.Bounds.{bound_stays, front_as, sum_step}
use Rattle.rate_layers.proofs.Wholes.{kept_same, pairs_below}

pub error_small : (slices : List (List Entry)) → All IsSliceTable slices → (c : List Entry) → IsChoice slices c → error_of c ≤ length slices * 2 ^ 43
error_small [] a [] h = omega arith
error_small [] a (x ∷ c) h = absurd h
error_small (s ∷ ss) a [] h = absurd h
error_small (s ∷ ss) a (x ∷ c) h =
    let i = All-head IsSliceTable s ss a in
    let b : IsEntry x = All-contains IsEntry s x i.limits h.0 in
    omega (arith, b.error, error_small ss (All-tail IsSliceTable s ss a) c h.1, sum_by-cons (λ (x : Entry). x.error) x c)

module _ (t : Table) (m u : ℕ) where
  -- the frontiers so far
  pub record Assembled (layers : List (List Pair)) (k : ℕ) : Type 0 where
    pub count : length layers ≡ k + 1
    pub fronts : (i : ℕ) → i ≤ k → IsFront (At t (Stays t m u) i) (get_or layers i [])

  pub assembled_first : (layer : List Pair) → IsFront (At t (Stays t m u) 0) layer → Assembled (layer ∷ []) 0
  assembled_first layer f = record {
    count = omega arith;
    fronts = λ i l. let z : 0 ≡ i = omega arith in subst (λ j. IsFront (At t (Stays t m u) j) (get_or (layer ∷ []) j [])) z f;
  }

  pub assembled_push : (layers : List (List Pair)) (k : ℕ) (b : Bound) (next : List Pair) → k < length t.slices → Assembled layers k → IsBoundOf t m u (drop (suc k) t.slices) b → IsNext b (get_or layers k []) (get_or t.slices k []) next → Assembled (layers ++ next ∷ []) (k + 1)
  assembled_push layers k b next n a o g = record {
    count = omega (arith, length_push layers next, a.count);
    fronts = λ i l. ⊎_elim
        (λ b. subst (λ y. IsFront (At t (Stays t m u) i) y) (sym (get_or_append_left layers (next ∷ []) [] i (omega (arith, a.count)))) (a.fronts i (omega arith)))
        (λ b. let e : suc k ≡ i = omega arith in
        let e' : length layers ≡ suc k = omega (arith, a.count) in
        subst (λ j. IsFront (At t (Stays t m u) j) (get_or (layers ++ next ∷ []) j [])) e
        (subst (λ y. IsFront (At t (Stays t m u) (suc k)) y) (sym (get_or_push layers next [] (suc k) e'))
        (layer_step t u (Stays t m u) (kept_test t m u) k layer next n (a.fronts k (omega arith)) merged)))
        (cases_lt i (k + 1));
  }
    where
      later : List (List Entry)
      later = drop (suc k) t.slices

      layer : List Pair
      layer = get_or layers k []

      merged : IsFront (λ p. Joins layer (get_or t.slices k []) p × Stays t m u later p) next
      merged = front_as (λ p. Joins layer (get_or t.slices k []) p × (HasRoom b p × IsWithin b p)) (λ p. Joins layer (get_or t.slices k []) p × Stays t m u later p) next
          (λ p h. (h.0, (bound_stays t m u later b o p).0 h.1)) (λ p h. (h.0, (bound_stays t m u later b o p).1 h.1)) g

  -- the frontiers and the two sums after one slice more
  pub record Further (layers : List (List Pair)) (k sizes costs : ℕ) : Type 0 where
    pub assembled : Assembled layers k
    pub sizes_left : sizes ≡ t.fixed + least_sizes (drop k t.slices)
    pub costs_left : costs ≡ rest m (drop k t.slices)

  pub further : (layers : List (List Pair)) (k sizes costs : ℕ) (layer next : List Pair) (s entries : List Entry) (b : Bound) (size cheapest : ℕ) → Further layers k sizes costs → k < length t.slices → s ≡ get_or t.slices k s → entries ≡ s → layer ≡ get_or layers k []
      → size ≡ least (λ x. x.size) entries → cheapest ≡ least (cost m) entries
      → b.multiplier ≡ m → b.end ≡ (t.budget + 1) - (sizes - size) → b.ceiling ≡ (u + m * t.budget + 1) - (costs - cheapest + m * t.fixed)
      → IsNext b layer entries next → Further (layers ++ next ∷ []) (k + 1) (sizes - size) (costs - cheapest)
  further layers k sizes costs layer next s entries b size cheapest f n is same_entries same_layer is_size is_cheapest bm be bc g =
      let later = drop (suc k) t.slices in
      let a1 = sum_step (least (λ x. x.size)) t.slices k s n is in
      let a2 = sum_step (least (cost m)) t.slices k s n is in
      let c1 : size ≡ least (λ x. x.size) s = is_size ∙ ap (λ l. least (λ x. x.size) l) same_entries in
      let c2 : cheapest ≡ least (cost m) s = is_cheapest ∙ ap (λ l. least (cost m) l) same_entries in
      let left1 : sizes - size ≡ t.fixed + least_sizes later = omega (arith, f.sizes_left, a1, c1) in
      let left2 : costs - cheapest ≡ rest m later = omega (arith, f.costs_left, a2, c2) in
      let o : IsBoundOf t m u later b = record { multiplier = bm; end = omega (arith, be, left1); ceiling = omega (arith, bc, left2) } in
      let es : entries ≡ get_or t.slices k [] = same_entries ∙ is ∙ get_or_default t.slices k s [] n in
      let g1 = subst (λ l. IsNext b l entries next) same_layer g in
      let g2 = subst (λ l. IsNext b (get_or layers k []) l next) es g1 in
      let k1 : suc k ≡ k + 1 = omega arith in
      record {
        assembled = assembled_push layers k b next n f.assembled o g2;
        sizes_left = subst (λ i. sizes - size ≡ t.fixed + least_sizes (drop i t.slices)) k1 left1;
        costs_left = subst (λ i. costs - cheapest ≡ rest m (drop i t.slices)) k1 left2;
      }

  kept_at : (layers : List (List Pair)) (k : ℕ) → Assembled layers k → (i : ℕ) → i ≤ k → IsKept t m u i (get_or layers i [])
  kept_at layers k a i l = front_kept t m u i (get_or layers i []) (a.fronts i l)

  pub assembled_end : (layers : List (List Pair)) (k : ℕ) → length t.slices ≡ k → Assembled layers k → AreKept t m u layers
  assembled_end layers k e a = (omega (arith, a.count), λ i l. kept_at layers k a i (omega arith))

  -- All frontiers have at least the pairs of those so far.
  pub assembled_below : (layers all : List (List Pair)) (k : ℕ) → k ≤ length t.slices → Assembled layers k → AreKept t m u all → pairs_in layers ≤ pairs_in all
  assembled_below layers all k n a f =
      pairs_below layers all (omega (arith, a.count, f.0)) (λ i l.
      let e = kept_same t m u i (get_or layers i []) (get_or all i []) (kept_at layers k a i (omega (arith, a.count))) (f.1 i (omega (arith, a.count))) in
      let e' : length (get_or layers i []) ≡ length (get_or all i []) = ap length e in
      omega arith)

  -- errors of a frontier are small
  pub errors_small : IsTable t → (k : ℕ) (layer : List Pair) → IsFront (At t (Stays t m u) k) layer → All (λ p. p.error < 2 ^ 63) layer
  errors_small ok k layer f i d n =
      let p = get_or layer i d in
      let r = (f.only p (Contains-get_or layer i d n)).0 in
      let b = error_small (take k t.slices) (All-take IsSliceTable k t.slices ok.each) r.0 r.1 in
      let e : error_of r.0 ≡ p.error = ap (λ (x : Pair). x.error) r.2 in
      omega (arith, ok.few, length-take k t.slices)
