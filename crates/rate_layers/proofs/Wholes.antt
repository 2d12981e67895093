-- All kept frontiers of a table together.
use Rattle.std.proofs.Common.{◌≡◌, ℕ, zero, suc, ◌+◌, ◌*◌, ◌<◌, ◌≤◌, List, [], ◌∷◌, ◌++◌, length, get_or, take, drop, leb, ◌&&◌, sym, ◌∙◌, subst, arith, ⊎_elim}
use Rattle.std.proofs.lemmas.List.{get_or_append_left, get_or_push, length_push}
use Rattle.std.proofs.lemmas.List.Sums.{sum_by-cons}
use Rattle.std.proofs.lemmas.Bool.{cases_lt, leb-true, le-leb, and_parts, and_from}
use Rattle.rate_table.specs.declared.entry.Pair.{Pair}
use Rattle.rate_table.specs.Table.{Table, least_sizes}
use Rattle.rate_table.specs.Pairs.{rest}
use Rattle.rate_layers.specs.Layers.{IsKept, AreKept, pairs_in}
use Rattle.rate_layers.proofs.Fronts.{front_layer, one_layer}
use Rattle.rate_layers.proofs.Kept.{kept_front, front_kept}
use Rattle.rate_layers.proofs.Exists.{front_of_tested}
use Rattle.rate_layers.proofs.Asked.{Stays}
use Rattle.rate_layers.proofs.Counts.{kept_length, kept_fewer}

-- ---- lists by their indices

same_lists : {X : Type 0} (d : X) (xs ys : List X) → length xs ≡ length ys → ((k : ℕ) → k < length xs → get_or xs k d ≡ get_or ys k d) → xs ≡ ys
same_lists d [] [] n f = λ i. []
same_lists d [] (y ∷ ys) n f = absurd (omega arith)
same_lists d (x ∷ xs) [] n f = absurd (omega arith)
same_lists d (x ∷ xs) (y ∷ ys) n f =
    let first : x ≡ y = f 0 (omega arith) in
    let more = same_lists d xs ys (omega arith) (λ k l. f (suc k) (omega arith)) in
    λ i. first i ∷ more i

-- no more lists than ys, each with no more pairs
pub pairs_below : (xs ys : List (List Pair)) → length xs ≤ length ys → ((k : ℕ) → k < length xs → length (get_or xs k []) ≤ length (get_or ys k [])) → pairs_in xs ≤ pairs_in ys
pairs_below [] ys n f = omega arith
pairs_below (x ∷ xs) [] n f = absurd (omega arith)
pairs_below (x ∷ xs) (y ∷ ys) n f =
    let first : length x ≤ length y = f 0 (omega arith) in
    omega (arith, first, sum_by-cons length x xs, sum_by-cons length y ys, pairs_below xs ys (omega arith) (λ k l. f (suc k) (omega arith)))

pairs_room : (xs : List (List Pair)) (b : ℕ) → ((k : ℕ) → k < length xs → length (get_or xs k []) ≤ b) → pairs_in xs ≤ b * length xs
pairs_room [] b f = omega arith
pairs_room (x ∷ xs) b f =
    let first : length x ≤ b = f 0 (omega arith) in
    let more = pairs_room xs b (λ k l. f (suc k) (omega arith)) in
    omega (arith, first, more, sum_by-cons length x xs)

-- ---- kept frontiers

pub kept_same : (t : Table) (m u k : ℕ) (first second : List Pair) → IsKept t m u k first → IsKept t m u k second → first ≡ second
kept_same t m u k first second f g =
    one_layer _ first second (front_layer _ first (kept_front t m u k first f)) (front_layer _ second (kept_front t m u k second g))

pub kept_are_one : (t : Table) (m u : ℕ) (first second : List (List Pair)) → AreKept t m u first → AreKept t m u second → first ≡ second
kept_are_one t m u first second f g =
    same_lists [] first second (f.0 ∙ sym g.0) (λ k l. kept_same t m u k (get_or first k []) (get_or second k []) (f.1 k (omega (arith, f.0))) (g.1 k (omega (arith, f.0))))

-- the kept frontier after each number of slices
a_kept : (t : Table) (m u k : ℕ) → (layer : List Pair) × IsKept t m u k layer
a_kept t m u k =
    let later = drop k t.slices in
    let f = front_of_tested (take k t.slices) (Stays t m u later)
    (λ p. leb (t.fixed + (p.size + least_sizes later)) t.budget && leb (p.error + rest m later + m * (t.fixed + p.size)) (u + m * t.budget))
    (λ p h. let a = and_parts _ _ h in (leb-true _ _ a.0, leb-true _ _ a.1)) (λ p h. and_from _ _ (le-leb _ _ h.0) (le-leb _ _ h.1)) in
    (f.0, front_kept t m u k f.0 f.1)

module _ (t : Table) (m u : ℕ) where
  -- the kept frontiers of the first slices
  record Upto (n : ℕ) : Type 0 where
    layers : List (List Pair)
    count : length layers ≡ n
    kept : (k : ℕ) → k < n → IsKept t m u k (get_or layers k [])

  upto : (n : ℕ) → Upto n
  upto zero = record { layers = []; count = omega arith; kept = λ k l. absurd (omega arith) }
  upto (suc n) =
      let r = upto n in
      let a = a_kept t m u n in
      record {
        layers = r.layers ++ a.0 ∷ [];
        count = omega (arith, length_push r.layers a.0, r.count);
        kept = λ k l. ⊎_elim
            (λ b. subst (λ y. IsKept t m u k y) (sym (get_or_append_left r.layers (a.0 ∷ []) [] k (omega (arith, r.count)))) (r.kept k b))
            (λ b. let e : n ≡ k = omega arith in
            subst (λ j. IsKept t m u j (get_or (r.layers ++ a.0 ∷ []) j [])) e
            (subst (λ y. IsKept t m u n y) (sym (get_or_push r.layers a.0 [] n r.count)) a.1))
            (cases_lt k n);
      }

  pub kept_exist : (layers : List (List Pair)) × AreKept t m u layers
  kept_exist = let r = upto (suc (length t.slices)) in (r.layers, (r.count, λ k l. r.kept k (omega arith)))

  pub kept_narrow : (layers : List (List Pair)) → AreKept t m u layers → pairs_in layers ≤ (t.budget + 1) * (length t.slices + 1)
  kept_narrow layers a =
      let n : length layers ≡ length t.slices + 1 = omega (arith, a.0) in
      subst (λ n. pairs_in layers ≤ (t.budget + 1) * n) n
      (pairs_room layers (t.budget + 1) (λ k l. kept_length t m u k (get_or layers k []) (a.1 k (omega (arith, a.0)))))

pub kept_are_fewer : (t : Table) (m u v : ℕ) (kept less : List (List Pair)) → v ≤ u → AreKept t m u kept → AreKept t m v less → pairs_in less ≤ pairs_in kept
kept_are_fewer t m u v kept less l a b =
    pairs_below less kept (omega (arith, a.0, b.0)) (λ k h. kept_fewer t m u v k (get_or kept k []) (get_or less k []) l (a.1 k (omega (arith, b.0))) (b.1 k (omega (arith, b.0))))
