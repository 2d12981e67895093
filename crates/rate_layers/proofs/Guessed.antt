-- Choices of a table and of the table with multiplied errors.
use Rattle.std.proofs.Common.{◌≡◌, ℕ, ◌+◌, ◌-◌, ◌*◌, ◌/◌, ◌^◌, ◌≤◌, List, [], ◌∷◌, map, refl, sym, ap, subst, arith}
use Rattle.std.proofs.Math.Nat.{div-le_of_le-mul, min-le_left}
use Rattle.std.proofs.lemmas.List.Sums.{sum_by-cons}
use Rattle.rate_table.specs.declared.entry.Entry.{Entry}
use Rattle.rate_table.specs.declared.entry.Pair.{Pair}
use Rattle.rate_table.specs.Table.{Table, IsChoice, Fits, size_of, error_of}
use Rattle.rate_table.proofs.Lists.{map_contains}
use Rattle.rate_layers.specs.inner.Multiplied.{counted, counted_slices}
use Rattle.rate_layers.specs.inner.Live.{AreFound}
use Rattle.rate_layers.proofs.Found.{goal_all}

module _ (times : ℕ) where
  counted_choice : (slices : List (List Entry)) (c : List Entry) → IsChoice slices c → IsChoice (counted_slices times slices) (map (counted times) c)
  counted_choice [] [] h = tt
  counted_choice [] (x ∷ c) h = absurd h
  counted_choice (s ∷ slices) [] h = absurd h
  counted_choice (s ∷ slices) (x ∷ c) h = (map_contains (counted times) s x h.0, counted_choice slices c h.1)

  counted_size : (c : List Entry) → size_of (map (counted times) c) ≡ size_of c
  counted_size [] = refl
  counted_size (x ∷ c) = omega (arith, sum_by-cons (λ (y : Entry). y.size) x c, sum_by-cons (λ (y : Entry). y.size) (counted times x) (map (counted times) c), counted_size c)

  -- the multiplied error of a choice is at most `times` its error
  counted_error : (c : List Entry) → error_of (map (counted times) c) ≤ times * error_of c
  counted_error [] = omega arith
  counted_error (x ∷ c) =
      let whole : error_of (x ∷ c) ≡ x.error + error_of c = sum_by-cons (λ (y : Entry). y.error) x c in
      let product : times * error_of (x ∷ c) ≡ times * x.error + times * error_of c = omega (arith, ap (λ n. times * n) whole) in
      let cut : (counted times x).error ≤ x.error * times = min-le_left (x.error * times) (2 ^ 43 - 1) in
      omega (arith, product, cut, sum_by-cons (λ (y : Entry). y.error) (counted times x) (map (counted times) c), counted_error c)

-- so a lower bound of the fitting choices of that table, divided by `times`, is one of this table
pub guess_least : (t finer : Table) (times m u : ℕ) (goal : Pair) (layers : List (List Pair)) → finer ≡ record { budget = t.budget; fixed = t.fixed; slices = counted_slices times t.slices } → AreFound finer m u goal layers
    → (c : List Entry) → IsChoice t.slices c → Fits t c → goal.error / times ≤ error_of c
guess_least t finer times m u goal layers is found c i f =
    let all = map (counted times) c in
    let i' = subst (λ slices. IsChoice slices all) (sym (ap (λ (w : Table). w.slices) is)) (counted_choice times t.slices c i) in
    let f' : Fits finer all = omega (arith, f, counted_size times c, ap (λ (w : Table). w.fixed) is, ap (λ (w : Table). w.budget) is) in
    div-le_of_le-mul times (omega (arith, goal_all finer m u goal layers found all i' f', counted_error times c))
