-- All held frontiers of a table together.
use Rattle.std.proofs.Common.{◌≡◌, ℕ, zero, suc, ◌+◌, ◌*◌, ◌<◌, ◌≤◌, List, [], ◌∷◌, ◌++◌, length, get_or, take, drop, leb, ◌&&◌, sym, subst, arith, ⊎_elim}
use Rattle.std.proofs.lemmas.List.{get_or_append_left, get_or_push, length_push}
use Rattle.std.proofs.lemmas.List.Sums.{sum_by-cons}
use Rattle.std.proofs.lemmas.Bool.{cases_lt, leb-true, le-leb, and_parts, and_from}
use Rattle.rate_least.specs.declared.outcome.WidePair.{WidePair}
use Rattle.rate_table.specs.Pairs.{rest}
use Rattle.rate_least.specs.Layers.{pairs_in}
use Rattle.rate_least.specs.Pairs.{least_error}
use Rattle.rate_least.specs.inner.Live.{Capped}
use Rattle.rate_least.specs.Answers.{greatest_size}
use Rattle.rate_least.proofs.Curved.{pairs_below}
use Rattle.rate_least.proofs.Fronts.{front_layer, one_layer}
use Rattle.rate_least.proofs.Kept.{kept_front, front_kept}
use Rattle.rate_least.proofs.Exists.{front_of_tested}
use Rattle.rate_least.proofs.Asked.{IsKept, AreKept, Stays}
use Rattle.rate_least.proofs.Counts.{kept_length, kept_fewer}

-- ---- lists by their indices

pairs_room : (xs : List (List WidePair)) (b : ℕ) → ((k : ℕ) → k < length xs → length (get_or xs k []) ≤ b) → pairs_in xs ≤ b * length xs
pairs_room [] b f = omega arith
pairs_room (x ∷ xs) b f =
    let first : length x ≤ b = f 0 (omega arith) in
    let more = pairs_room xs b (λ k l. f (suc k) (omega arith)) in
    omega (arith, first, more, sum_by-cons length x xs)

-- ---- held frontiers

pub kept_same : (t : Capped) (m u k : ℕ) (first second : List WidePair) → IsKept t m u k first → IsKept t m u k second → first ≡ second
kept_same t m u k first second f g =
    one_layer _ first second (front_layer _ first (kept_front t m u k first f)) (front_layer _ second (kept_front t m u k second g))

-- the held frontier after each number of slices
a_kept : (t : Capped) (m u k : ℕ) → (layer : List WidePair) × IsKept t m u k layer
a_kept t m u k =
    let later = drop k t.slices in
    let f = front_of_tested (take k t.slices) (Stays t m u later)
    (λ p. leb (p.error + least_error later) t.cap && leb (p.error + rest m later + m * p.size) (t.cap + m * u))
    (λ p h. let a = and_parts _ _ h in (leb-true _ _ a.0, leb-true _ _ a.1)) (λ p h. and_from _ _ (le-leb _ _ h.0) (le-leb _ _ h.1)) in
    (f.0, front_kept t m u k f.0 f.1)

module _ (t : Capped) (m u : ℕ) where
  -- the held frontiers of the first slices
  record Upto (n : ℕ) : Type 0 where
    layers : List (List WidePair)
    count : length layers ≡ n
    kept : (k : ℕ) → k < n → IsKept t m u k (get_or layers k [])

  upto : (n : ℕ) → Upto n
  upto zero = record { layers = []; count = omega arith; kept = λ k l. absurd (omega arith) }
  upto (suc n) =
      let r = upto n in
      let a = a_kept t m u n in
      record {
        layers = r.layers ++ a.0 ∷ [];
        count = omega (arith, length_push r.layers a.0, r.count);
        kept = λ k l. ⊎_elim
            (λ b. subst (λ y. IsKept t m u k y) (sym (get_or_append_left r.layers (a.0 ∷ []) [] k (omega (arith, r.count)))) (r.kept k b))
            (λ b. let e : n ≡ k = omega arith in
            subst (λ j. IsKept t m u j (get_or (r.layers ++ a.0 ∷ []) j [])) e
            (subst (λ y. IsKept t m u n y) (sym (get_or_push r.layers a.0 [] n r.count)) a.1))
            (cases_lt k n);
      }

  pub kept_exist : (layers : List (List WidePair)) × AreKept t m u layers
  kept_exist = let r = upto (suc (length t.slices)) in (r.layers, (r.count, λ k l. r.kept k (omega arith)))

  pub kept_narrow : (layers : List (List WidePair)) → AreKept t m u layers → pairs_in layers ≤ (greatest_size t.slices + 1) * (length t.slices + 1)
  kept_narrow layers a =
      let n : length layers ≡ length t.slices + 1 = omega (arith, a.0) in
      subst (λ n. pairs_in layers ≤ (greatest_size t.slices + 1) * n) n
      (pairs_room layers (greatest_size t.slices + 1) (λ k l. kept_length t m u k (get_or layers k []) (a.1 k (omega (arith, a.0)))))

pub kept_are_fewer : (t : Capped) (m u v : ℕ) (kept less : List (List WidePair)) → v ≤ u → AreKept t m u kept → AreKept t m v less → pairs_in less ≤ pairs_in kept
kept_are_fewer t m u v kept less l a b =
    pairs_below less kept (omega (arith, a.0, b.0)) (λ k h. kept_fewer t m u v k (get_or kept k []) (get_or less k []) l (a.1 k (omega (arith, b.0))) (b.1 k (omega (arith, b.0))))
