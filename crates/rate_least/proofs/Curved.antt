-- The curves of the first slices, one after the other.
use Rattle.std.proofs.Common.{◌≡◌, ℕ, zero, suc, ◌+◌, ◌*◌, ◌^◌, ◌<◌, ◌≤◌, List, [], ◌∷◌, ◌++◌, length, get_or, take, sym, ap, subst, arith, ⊎_elim}
use Rattle.std.specs.List.{All}
use Rattle.std.proofs.lemmas.List.{take_all, get_or_append_left, get_or_push, length_push, length-take}
use Rattle.std.proofs.lemmas.List.Sums.{sum_by-cons, sum_by_push}
use Rattle.std.proofs.lemmas.List.Elements.{All-head, All-tail, All-contains, All-take, Contains-get_or}
use Rattle.std.proofs.lemmas.Bool.{cases_lt}
use Rattle.std.proofs.Math.Seq.{take-suc}
use Rattle.rate_layers.proofs.Assembled.{error_small}
use Rattle.rate_table.specs.declared.table.TheConstants.{MAX_TABLE_SLICES}
use Rattle.rate_table.specs.declared.entry.Entry.{Entry}
use Rattle.rate_table.specs.Table.{IsChoice, IsEntry, IsSliceTable, size_of}
use Rattle.rate_table.proofs.Lists.{contains_none, contains_head, contains_cases}
use Rattle.rate_least.specs.declared.outcome.WidePair.{WidePair}
use Rattle.rate_least.specs.declared.bound.Bound.{Bound}
use Rattle.rate_least.specs.Records.{IsNarrow}
use Rattle.rate_least.specs.Layers.{Reaches, Joins, IsFront, pairs_in}
use Rattle.rate_least.specs.inner.Merge.{Passes, IsNext}
use Rattle.rate_least.specs.Curve.{IsCurve, AreCurves, CurvesPass}
use Rattle.rate_least.proofs.Fronts.{front_layer, one_layer}
use Rattle.rate_least.proofs.Grown.{front_step}
use Rattle.rate_least.proofs.Exists.{front_of_all}

-- ---- sums of choices are small

pub size_small : (slices : List (List Entry)) → All IsSliceTable slices → (c : List Entry) → IsChoice slices c → size_of c ≤ length slices * 65535
size_small [] a [] h = omega arith
size_small [] a (x ∷ c) h = absurd h
size_small (s ∷ ss) a [] h = absurd h
size_small (s ∷ ss) a (x ∷ c) h =
    let i = All-head IsSliceTable s ss a in
    let b : IsEntry x = All-contains IsEntry s x i.limits h.0 in
    omega (arith, b.size, size_small ss (All-tail IsSliceTable s ss a) c h.1, sum_by-cons (λ (x : Entry). x.size) x c)

-- ---- frontiers by their numbers of pairs

-- no more lists than ys, each with no more pairs
pub pairs_below : (xs ys : List (List WidePair)) → length xs ≤ length ys → ((k : ℕ) → k < length xs → length (get_or xs k []) ≤ length (get_or ys k [])) → pairs_in xs ≤ pairs_in ys
pairs_below [] ys n f = omega arith
pairs_below (x ∷ xs) [] n f = absurd (omega arith)
pairs_below (x ∷ xs) (y ∷ ys) n f =
    let first : length x ≤ length y = f 0 (omega arith) in
    omega (arith, first, sum_by-cons length x xs, sum_by-cons length y ys, pairs_below xs ys (omega arith) (λ k l. f (suc k) (omega arith)))

-- the curves of up to k slices have `count` points together, and the last one is `points`
pub record Curved (slices : List (List Entry)) (k count : ℕ) (points : List WidePair) : Type 0 where
  pub layers : List (List WidePair)
  pub number : length layers ≡ k + 1
  pub fronts : (i : ℕ) → i ≤ k → IsFront (Reaches (take i slices)) (get_or layers i [])
  pub total : pairs_in layers ≡ count
  pub last : get_or layers k [] ≡ points

module _ (slices : List (List Entry)) (each : All IsSliceTable slices) (few : length slices ≤ MAX_TABLE_SLICES) where
  pub curved_first : (points : List WidePair) → points ≡ record { size = 0; error = 0 } ∷ [] → Curved slices 0 1 points
  curved_first points e =
      let none : WidePair = record { size = 0; error = 0 } in
      record {
        layers = (none ∷ []) ∷ [];
        number = omega arith;
        fronts = λ i l. let z : 0 ≡ i = omega arith in subst (λ j. IsFront (Reaches (take j slices)) (get_or ((none ∷ []) ∷ []) j [])) z (record {
          order = tt;
          only = λ p c. ⊎_elim (λ e. ([], tt, e)) (λ i. absurd (contains_none p i)) (contains_cases none [] p c);
          covers = λ p h. (none, contains_head none [], (omega arith, omega arith));
        });
        total = omega (arith, sum_by-cons length (none ∷ []) []);
        last = sym e;
      }

  pub curved_front : (k count : ℕ) (points : List WidePair) → Curved slices k count points → IsFront (Reaches (take k slices)) points
  curved_front k count points c = subst (IsFront (Reaches (take k slices))) c.last (c.fronts k (omega arith))

  reached_small : (k : ℕ) (p : WidePair) → Reaches (take k slices) p → (p.size < 2 ^ 34) × (p.error < 2 ^ 61)
  reached_small k p r =
      let s = ap (λ (x : WidePair). x.size) r.2 in
      let e = ap (λ (x : WidePair). x.error) r.2 in (
        omega (arith, s, size_small (take k slices) (All-take IsSliceTable k slices each) r.0 r.1, few, length-take k slices),
        omega (arith, e, error_small (take k slices) (All-take IsSliceTable k slices each) r.0 r.1, few, length-take k slices),
      )

  pub points_narrow : (k count : ℕ) (points : List WidePair) → Curved slices k count points → All IsNarrow points
  points_narrow k count points c i d n = (reached_small k (get_or points i d) ((curved_front k count points c).only (get_or points i d) (Contains-get_or points i d n))).0

  pub points_small : (k count : ℕ) (points : List WidePair) → Curved slices k count points → All (λ p. p.error < 2 ^ 63) points
  points_small k count points c i d n = let r = (reached_small k (get_or points i d) ((curved_front k count points c).only (get_or points i d) (Contains-get_or points i d n))).1 in omega arith

  -- one slice more
  front_next : (k : ℕ) (b : Bound) (points next : List WidePair) → k < length slices → IsFront (Reaches (take k slices)) points
      → ((p : WidePair) → Joins points (get_or slices k []) p → Passes b p) → IsNext b points (get_or slices k []) next → IsFront (Reaches (take (suc k) slices)) next
  front_next k b points next n f all g =
      let s = get_or slices k [] in
      let every : WidePair → Type 0 = λ p. Unit {0} in
      let step = front_step (take k slices) s every every (λ p q d u. tt) (λ p x c u. tt) points next
      (record { order = f.order; only = λ p c. (f.only p c, tt); covers = λ p h. f.covers p h.0 })
      (record { order = g.order; only = λ p c. ((g.only p c).0, tt); covers = λ p h. g.covers p (h.0, all p h.0) }) in
      subst (λ done. IsFront (Reaches done) next) (sym (take-suc slices k [] n))
      (record { order = step.order; only = λ p c. (step.only p c).0; covers = λ p h. step.covers p (h, tt) })

  -- each joined pair is small
  pub joins_small : (k count : ℕ) (points : List WidePair) → Curved slices k count points → k < length slices → (p : WidePair) → Joins points (get_or slices k []) p → p.error < 2 ^ 62
  joins_small k count points c n p j =
      let q = (reached_small k j.0 ((curved_front k count points c).only j.0 j.2)).1 in
      let s = All-contains IsSliceTable slices (get_or slices k []) each (Contains-get_or slices k [] n) in
      let x = All-contains IsEntry (get_or slices k []) j.1 s.limits j.3 in
      omega (arith, q, x.error, ap (λ (y : WidePair). y.error) j.4)

  pub curved_push : (k count : ℕ) (b : Bound) (points next : List WidePair) → k < length slices → Curved slices k count points
      → ((p : WidePair) → Joins points (get_or slices k []) p → Passes b p) → IsNext b points (get_or slices k []) next → Curved slices (k + 1) (count + length next) next
  curved_push k count b points next n c all g =
      let new = front_next k b points next n (curved_front k count points c) all g in
      let here : length c.layers ≡ suc k = omega (arith, c.number) in
      record {
        layers = c.layers ++ next ∷ [];
        number = omega (arith, length_push c.layers next, c.number);
        fronts = λ i l. ⊎_elim
            (λ b. subst (λ y. IsFront (Reaches (take i slices)) y) (sym (get_or_append_left c.layers (next ∷ []) [] i (omega (arith, c.number)))) (c.fronts i (omega arith)))
            (λ b. let e : suc k ≡ i = omega arith in
            subst (λ j. IsFront (Reaches (take j slices)) (get_or (c.layers ++ next ∷ []) j [])) e
            (subst (λ y. IsFront (Reaches (take (suc k) slices)) y) (sym (get_or_push c.layers next [] (suc k) here)) new))
            (cases_lt i (k + 1));
        total = omega (arith, sum_by_push length c.layers next, c.total);
        last = subst (λ j. get_or (c.layers ++ next ∷ []) j [] ≡ next) (omega arith) (get_or_push c.layers next [] (suc k) here);
      }

  -- ---- all curves

  record Upto (n : ℕ) : Type 0 where
    layers : List (List WidePair)
    number : length layers ≡ n
    curves : (k : ℕ) → k < n → IsCurve (take k slices) (get_or layers k [])

  upto : (n : ℕ) → Upto n
  upto zero = record { layers = []; number = omega arith; curves = λ k l. absurd (omega arith) }
  upto (suc n) =
      let r = upto n in
      let a = front_of_all (take n slices) in
      let is = front_layer (Reaches (take n slices)) a.0 a.1 in
      record {
        layers = r.layers ++ a.0 ∷ [];
        number = omega (arith, length_push r.layers a.0, r.number);
        curves = λ k l. ⊎_elim
            (λ b. subst (λ y. IsCurve (take k slices) y) (sym (get_or_append_left r.layers (a.0 ∷ []) [] k (omega (arith, r.number)))) (r.curves k b))
            (λ b. let e : n ≡ k = omega arith in
            subst (λ j. IsCurve (take j slices) (get_or (r.layers ++ a.0 ∷ []) j [])) e
            (subst (λ y. IsCurve (take n slices) y) (sym (get_or_push r.layers a.0 [] n r.number)) is))
            (cases_lt k n);
      }

  curves_exist : (layers : List (List WidePair)) × AreCurves slices layers
  curves_exist = let r = upto (suc (length slices)) in (r.layers, (r.number, λ k l. r.curves k (omega arith)))

  same_length : (k count : ℕ) (points : List WidePair) (c : Curved slices k count points) (all : List (List WidePair)) → AreCurves slices all → (i : ℕ) → i ≤ k → i ≤ length slices → length (get_or c.layers i []) ≡ length (get_or all i [])
  same_length k count points c all f i l n = ap length (one_layer (Reaches (take i slices)) (get_or c.layers i []) (get_or all i []) (front_layer _ (get_or c.layers i []) (c.fronts i l)) (f.1 i n))

  -- those so far have no more points than all
  pub curves_pass : (k count : ℕ) (points : List WidePair) → Curved slices k count points → k ≤ length slices → 2 ^ 25 < count → CurvesPass slices
  curves_pass k count points c n over =
      let all = curves_exist in
      let below = pairs_below c.layers all.0 (omega (arith, c.number, all.1.0)) (λ i l. let e = same_length k count points c all.0 all.1 i (omega (arith, c.number)) (omega (arith, c.number)) in omega arith) in
      (all.0, all.1, omega (arith, over, c.total, below))

  -- after the last slice they are all
  pub curves_stay : (k count : ℕ) (points : List WidePair) → Curved slices k count points → k ≡ length slices → count ≤ 2 ^ 25 → CurvesPass slices → ⊥
  curves_stay k count points c n under pass =
      let below = pairs_below pass.0 c.layers (omega (arith, c.number, pass.1.0, n)) (λ i l. let e = same_length k count points c pass.0 pass.1 i (omega (arith, pass.1.0, n)) (omega (arith, pass.1.0)) in omega arith) in
      omega (arith, under, c.total, below, pass.2)

  pub curve_is : (k count : ℕ) (points : List WidePair) → Curved slices k count points → k ≡ length slices → IsCurve slices points
  curve_is k count points c n = subst (λ (l : List (List Entry)). IsCurve l points) (take_all k slices (omega (arith, n))) (front_layer (Reaches (take k slices)) points (curved_front k count points c))
