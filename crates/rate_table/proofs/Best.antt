-- If a choice fits there is a best one, and it is unique; none fits exactly if the least sizes exceed the budget.
use Rattle.std.proofs.Common.{◌≡◌, ℕ, ◌<◌, List, [], ◌∷◌, Option, None, Some, refl, sym, arith, ⊎_elim}
use Rattle.std.proofs.lemmas.Bool.{cases_lt}
use Rattle.rate_table.specs.declared.entry.Entry.{Entry}
use Rattle.rate_table.specs.Table.{Table, IsTable, IsChoice, Fits, HasNoFit, size_of, error_of, indices, ComesFirst, IsBest, least_bytes}
use Rattle.rate_table.specs.Choices.{all_choices, best_of}
use Rattle.rate_table.proofs.Entries.{choice_same, least_choice, least_below}
use Rattle.rate_table.proofs.Enumerated.{best_of-is_best, best_of-none}

pub best_exists : (t : Table) (choice : List Entry) → IsTable t → IsChoice t.slices choice → Fits t choice → (best : List Entry) × IsBest t best
best_exists t choice ok h g = found (best_of t None (all_choices t.slices)) refl
  where
    found : (r : Option (List Entry)) → best_of t None (all_choices t.slices) ≡ r → (best : List Entry) × IsBest t best
    found None e = absurd (best_of-none t e choice h g)
    found (Some b) e = (b, best_of-is_best t b ok e)

first_both : (xs ys : List ℕ) → ComesFirst xs ys → ComesFirst ys xs → xs ≡ ys
first_both [] [] a b = refl
first_both [] (y ∷ ys) a b = absurd b
first_both (x ∷ xs) [] a b = absurd a
first_both (x ∷ xs) (y ∷ ys) a b =
    ⊎_elim (λ l. ⊎_elim (λ k. absurd (omega arith)) (λ k. absurd (omega (arith, k.0))) b)
    (λ l. ⊎_elim (λ k. absurd (omega (arith, l.0))) (λ k. let r = first_both xs ys l.1 k.1 in λ i. l.0 i ∷ r i) b) a

pub best_is_one : (t : Table) (first second : List Entry) → IsTable t → IsBest t first → IsBest t second → first ≡ second
best_is_one t a b ok f g =
    let e : error_of a ≡ error_of b = omega (arith, f.error b g.choice g.fits, g.error a f.choice f.fits) in
    let s : size_of a ≡ size_of b = omega (arith, f.size b g.choice g.fits (sym e), g.size a f.choice f.fits e) in
    choice_same t.slices ok.each a b f.choice g.choice
    (first_both (indices a) (indices b) (f.first b g.choice (λ i. record { size = sym s i; error = sym e i })) (g.first a f.choice (λ i. record { size = s i; error = e i })))

pub none_fits_then_below : (t : Table) → IsTable t → HasNoFit t → t.budget < least_bytes t
none_fits_then_below t ok none =
    let c = least_choice t.slices ok.each in
    ⊎_elim (λ l. l) (λ l. absurd (none c.0 c.1 (omega (arith, c.2)))) (cases_lt t.budget (least_bytes t))

pub below_then_none_fits : (t : Table) → t.budget < least_bytes t → HasNoFit t
below_then_none_fits t l c h g = omega (arith, least_below (λ (x : Entry). x.size) t.slices c h)
