-- The number of pairs of frontiers.
use Rattle.std.proofs.Common.{ℕ, ◌+◌, ◌≤◌, List, [], ◌∷◌, length, drop, ap, arith, ⊎_elim, ◌↔◌}
use Rattle.std.specs.List.{Contains}
use Rattle.rate_table.specs.declared.entry.Pair.{Pair}
use Rattle.rate_table.specs.Table.{Table}
use Rattle.rate_table.specs.Pairs.{StaysWithin}
use Rattle.rate_layers.specs.Layers.{Rises, IsFull, IsKept}
use Rattle.rate_table.proofs.Lists.{contains_cases, contains_head, contains_tail, contains_none}
use Rattle.rate_layers.proofs.Fronts.{rises_tail, first_smaller}

rises_room : (p : Pair) (ps : List Pair) (b : ℕ) → Rises (p ∷ ps) → ((q : Pair) → Contains (p ∷ ps) q → q.size ≤ b) → p.size + length (p ∷ ps) ≤ b + 1
rises_room p [] b h f = let g = f p (contains_head p []) in omega arith
rises_room p (q ∷ ps) b h f = omega (arith, rises_room q ps b h.1 (λ x c. f x (contains_tail p (q ∷ ps) x c)), h.0)

-- At most budget + 1 pairs have rising sizes up to the budget.
pub rises_length : (ps : List Pair) (b : ℕ) → Rises ps → ((q : Pair) → Contains ps q → q.size ≤ b) → length ps ≤ b + 1
rises_length [] b h f = omega arith
rises_length (p ∷ ps) b h f = omega (arith, rises_room p ps b h f)

pub full_length : (t : Table) (k : ℕ) (layer : List Pair) → IsFull t k layer → length layer ≤ t.budget + 1
full_length t k layer f = rises_length layer t.budget f.rises (λ p c. let u = (f.has p).0 c in omega (arith, u.0.1))

pub kept_length : (t : Table) (m u k : ℕ) (layer : List Pair) → IsKept t m u k layer → length layer ≤ t.budget + 1
kept_length t m u k layer (full, f, rises, has) = rises_length layer t.budget rises (λ p c. let v = (f.has p).0 ((has p).0 c).0 in omega (arith, v.0.1))

rises_sub : (ps qs : List Pair) → Rises ps → Rises qs → ((x : Pair) → Contains ps x → Contains qs x) → length ps ≤ length qs
rises_sub [] qs a b f = omega arith
rises_sub (p ∷ ps) [] a b f = absurd (contains_none p (f p (contains_head p ps)))
rises_sub (p ∷ ps) (q ∷ qs) a b f =
    ⊎_elim
    (λ e. let r = rises_sub ps qs (rises_tail p ps a) (rises_tail q qs b)
    (λ x c. ⊎_elim (λ i. let s = ap (λ (y : Pair). y.size) i in let s' = ap (λ (y : Pair). y.size) e in absurd (omega (arith, first_smaller p ps x a c))) (λ d. d) (contains_cases q qs x (f x (contains_tail p ps x c)))) in omega arith)
    (λ i. let r = rises_sub (p ∷ ps) qs a (rises_tail q qs b)
    (λ x c. ⊎_elim (λ j. let s = ap (λ (y : Pair). y.size) j in absurd (omega (arith, first_smaller q qs p b i, below x c))) (λ d. d) (contains_cases q qs x (f x c))) in omega arith)
    (contains_cases q qs p (f p (contains_head p ps)))
  where
    below : (x : Pair) → Contains (p ∷ ps) x → p.size ≤ x.size
    below x c = ⊎_elim (λ e. let s = ap (λ (y : Pair). y.size) e in omega arith) (λ i. omega (arith, first_smaller p ps x a i)) (contains_cases p ps x c)

-- A smaller error keeps a subset.
pub kept_less : (t : Table) (m u v k : ℕ) (kept less : List Pair) → v ≤ u → IsKept t m u k kept → Rises less → ((p : Pair) → Contains less p ↔ (Contains kept p × StaysWithin t m v (drop k t.slices) p)) → IsKept t m v k less
kept_less t m u v k kept less l (full, f, rises, has) r part = (
  full,
  f,
  r,
  λ p. (
    (λ c. let a = (part p).0 c in (((has p).0 a.0).0, a.1)),
    (λ c. (part p).1 ((has p).1 (c.0, omega (arith, c.1)), c.1)),
  ),
)

pub kept_fewer : (t : Table) (m u v k : ℕ) (kept less : List Pair) → v ≤ u → IsKept t m u k kept → IsKept t m v k less → length less ≤ length kept
kept_fewer t m u v k kept less l (full, f, rises, has) (full', f', rises', has') =
    rises_sub less kept rises' rises (λ x c. let a = (has' x).0 c in (has x).1 ((f.has x).1 ((f'.has x).0 a.0), omega (arith, a.1)))
