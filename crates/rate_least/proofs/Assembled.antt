-- The invariant of the loop over slices.
use Rattle.std.proofs.Common.{◌≡◌, ℕ, suc, ◌+◌, ◌-◌, ◌*◌, ◌^◌, ◌<◌, ◌≤◌, List, [], ◌∷◌, ◌++◌, length, get_or, take, drop, sym, ap, ◌∙◌, subst, arith, ⊎_elim}
use Rattle.std.specs.List.{All}
use Rattle.std.proofs.lemmas.List.{get_or_append_left, get_or_push, get_or_default, length_push, length-take}
use Rattle.std.proofs.lemmas.List.Elements.{All-take, Contains-get_or}
use Rattle.std.proofs.lemmas.Bool.{cases_lt}
use Rattle.rate_layers.proofs.Bounds.{sum_step}
use Rattle.rate_layers.proofs.Assembled.{error_small}
use Rattle.rate_table.specs.declared.table.TheConstants.{MAX_TABLE_SLICES}
use Rattle.rate_table.specs.declared.entry.Entry.{Entry}
use Rattle.rate_table.specs.Table.{IsSliceTable, least}
use Rattle.rate_table.specs.Pairs.{cost, rest}
use Rattle.rate_least.specs.declared.outcome.WidePair.{WidePair}
use Rattle.rate_least.specs.declared.bound.Bound.{Bound}
use Rattle.rate_least.specs.Pairs.{least_error}
use Rattle.rate_least.specs.Records.{IsNarrow}
use Rattle.rate_least.specs.Layers.{Reaches, Joins, IsFront, pairs_in}
use Rattle.rate_least.specs.inner.Covering.{IsBoundOf}
use Rattle.rate_least.specs.inner.Merge.{Passes, IsNext}
use Rattle.rate_least.specs.inner.Live.{Capped}
use Rattle.rate_least.proofs.Asked.{IsKept, AreKept, Stays, At, kept_test, layer_step}
use Rattle.rate_least.proofs.Curved.{size_small, pairs_below}
use Rattle.rate_least.proofs.Kept.{front_kept}
use Rattle.rate_least.proofs.Bounds.{bound_stays, front_as}
use Rattle.rate_least.proofs.Wholes.{kept_same}

module _ (t : Capped) (m u : ℕ) where
  -- the frontiers so far
  pub record Assembled (layers : List (List WidePair)) (k : ℕ) : Type 0 where
    pub count : length layers ≡ k + 1
    pub fronts : (i : ℕ) → i ≤ k → IsFront (At t (Stays t m u) i) (get_or layers i [])

  pub assembled_first : (layer : List WidePair) → IsFront (At t (Stays t m u) 0) layer → Assembled (layer ∷ []) 0
  assembled_first layer f = record {
    count = omega arith;
    fronts = λ i l. let z : 0 ≡ i = omega arith in subst (λ j. IsFront (At t (Stays t m u) j) (get_or (layer ∷ []) j [])) z f;
  }

  pub assembled_push : (layers : List (List WidePair)) (k : ℕ) (b : Bound) (next : List WidePair) → k < length t.slices → Assembled layers k → IsBoundOf t.cap m u (drop (suc k) t.slices) b → IsNext b (get_or layers k []) (get_or t.slices k []) next → Assembled (layers ++ next ∷ []) (k + 1)
  assembled_push layers k b next n a o g = record {
    count = omega (arith, length_push layers next, a.count);
    fronts = λ i l. ⊎_elim
        (λ b. subst (λ y. IsFront (At t (Stays t m u) i) y) (sym (get_or_append_left layers (next ∷ []) [] i (omega (arith, a.count)))) (a.fronts i (omega arith)))
        (λ b. let e : suc k ≡ i = omega arith in
        let e' : length layers ≡ suc k = omega (arith, a.count) in
        subst (λ j. IsFront (At t (Stays t m u) j) (get_or (layers ++ next ∷ []) j [])) e
        (subst (λ y. IsFront (At t (Stays t m u) (suc k)) y) (sym (get_or_push layers next [] (suc k) e'))
        (layer_step t u (Stays t m u) (kept_test t m u) k layer next n (a.fronts k (omega arith)) merged)))
        (cases_lt i (k + 1));
  }
    where
      later : List (List Entry)
      later = drop (suc k) t.slices

      layer : List WidePair
      layer = get_or layers k []

      merged : IsFront (λ p. Joins layer (get_or t.slices k []) p × Stays t m u later p) next
      merged = front_as (λ p. Joins layer (get_or t.slices k []) p × Passes b p) (λ p. Joins layer (get_or t.slices k []) p × Stays t m u later p) next
          (λ p h. (h.0, (bound_stays t m u later b o p).0 h.1)) (λ p h. (h.0, (bound_stays t m u later b o p).1 h.1)) g

  -- the frontiers and the two sums after one slice more
  pub record Further (layers : List (List WidePair)) (k errors costs : ℕ) : Type 0 where
    pub assembled : Assembled layers k
    pub errors_left : errors ≡ least_error (drop k t.slices)
    pub costs_left : costs ≡ rest m (drop k t.slices)

  pub further : (layers : List (List WidePair)) (k errors costs : ℕ) (layer next : List WidePair) (s entries : List Entry) (b : Bound) (error cheapest : ℕ) → Further layers k errors costs → k < length t.slices → s ≡ get_or t.slices k s → entries ≡ s → layer ≡ get_or layers k []
      → error ≡ least (λ x. x.error) entries → cheapest ≡ least (cost m) entries
      → b.multiplier ≡ m → b.errors ≡ errors - error → b.cap ≡ t.cap → b.floor ≡ costs - cheapest → b.most ≡ t.cap + m * u
      → IsNext b layer entries next → Further (layers ++ next ∷ []) (k + 1) (errors - error) (costs - cheapest)
  further layers k errors costs layer next s entries b error cheapest f n is same_entries same_layer is_error is_cheapest bm be bl bf bt g =
      let later = drop (suc k) t.slices in
      let a1 = sum_step (least (λ x. x.error)) t.slices k s n is in
      let a2 = sum_step (least (cost m)) t.slices k s n is in
      let c1 : error ≡ least (λ x. x.error) s = is_error ∙ ap (λ l. least (λ x. x.error) l) same_entries in
      let c2 : cheapest ≡ least (cost m) s = is_cheapest ∙ ap (λ l. least (cost m) l) same_entries in
      let left1 : errors - error ≡ least_error later = omega (arith, f.errors_left, a1, c1) in
      let left2 : costs - cheapest ≡ rest m later = omega (arith, f.costs_left, a2, c2) in
      let o : IsBoundOf t.cap m u later b = record { errors = be ∙ left1; limit = bl; floor = bf ∙ left2; most = bt; multiplier = bm } in
      let es : entries ≡ get_or t.slices k [] = same_entries ∙ is ∙ get_or_default t.slices k s [] n in
      let g1 = subst (λ l. IsNext b l entries next) same_layer g in
      let g2 = subst (λ l. IsNext b (get_or layers k []) l next) es g1 in
      let k1 : suc k ≡ k + 1 = omega arith in
      record {
        assembled = assembled_push layers k b next n f.assembled o g2;
        errors_left = subst (λ i. errors - error ≡ least_error (drop i t.slices)) k1 left1;
        costs_left = subst (λ i. costs - cheapest ≡ rest m (drop i t.slices)) k1 left2;
      }

  kept_at : (layers : List (List WidePair)) (k : ℕ) → Assembled layers k → (i : ℕ) → i ≤ k → IsKept t m u i (get_or layers i [])
  kept_at layers k a i l = front_kept t m u i (get_or layers i []) (a.fronts i l)

  pub assembled_end : (layers : List (List WidePair)) (k : ℕ) → length t.slices ≡ k → Assembled layers k → AreKept t m u layers
  assembled_end layers k e a = (omega (arith, a.count), λ i l. kept_at layers k a i (omega arith))

  -- All frontiers have at least the pairs of those so far.
  pub assembled_below : (layers all : List (List WidePair)) (k : ℕ) → k ≤ length t.slices → Assembled layers k → AreKept t m u all → pairs_in layers ≤ pairs_in all
  assembled_below layers all k n a f =
      pairs_below layers all (omega (arith, a.count, f.0)) (λ i l.
      let e = kept_same t m u i (get_or layers i []) (get_or all i []) (kept_at layers k a i (omega (arith, a.count))) (f.1 i (omega (arith, a.count))) in
      let e' : length (get_or layers i []) ≡ length (get_or all i []) = ap length e in
      omega arith)

  reached_small : All IsSliceTable t.slices → length t.slices ≤ MAX_TABLE_SLICES → (k : ℕ) (p : WidePair) → Reaches (take k t.slices) p → (p.size < 2 ^ 34) × (p.error < 2 ^ 61)
  reached_small each few k p r =
      let s = ap (λ (x : WidePair). x.size) r.2 in
      let e = ap (λ (x : WidePair). x.error) r.2 in (
        omega (arith, s, size_small (take k t.slices) (All-take IsSliceTable k t.slices each) r.0 r.1, few, length-take k t.slices),
        omega (arith, e, error_small (take k t.slices) (All-take IsSliceTable k t.slices each) r.0 r.1, few, length-take k t.slices),
      )

  -- sizes and errors of a frontier are small
  pub layer_narrow : All IsSliceTable t.slices → length t.slices ≤ MAX_TABLE_SLICES → (k : ℕ) (layer : List WidePair) → IsFront (At t (Stays t m u) k) layer → All IsNarrow layer
  layer_narrow each few k layer f i d n = (reached_small each few k (get_or layer i d) (f.only (get_or layer i d) (Contains-get_or layer i d n)).0).0

  pub layer_small : All IsSliceTable t.slices → length t.slices ≤ MAX_TABLE_SLICES → (k : ℕ) (layer : List WidePair) → IsFront (At t (Stays t m u) k) layer → All (λ p. p.error < 2 ^ 63) layer
  layer_small each few k layer f i d n = let r = (reached_small each few k (get_or layer i d) (f.only (get_or layer i d) (Contains-get_or layer i d n)).0).1 in omega arith
