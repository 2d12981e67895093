-- The counts of runs, added up.
use Rattle.std.proofs.Common.{◌≡◌, refl, ℕ, ◌+◌, ◌≤◌, arith, List, [], ◌∷◌, length, min, inl, inr}
use Rattle.std.specs.Prelude.{Bool, true, false}
use Rattle.std.specs.List.{filter, prefix_len, sum_by}
use Rattle.std.proofs.lemmas.Bool.{cases_Bool}
use Rattle.std.proofs.lemmas.List.Sums.{sum_by-cons, prefix_len-le-length}
use Rattle.pw_outside.specs.Ports.{last}
use Rattle.monitors.specs.declared.facts.PictureFacts.{PictureFacts}
use Rattle.monitors.specs.declared.black.Run.{Run}
use Rattle.monitors.specs.Black.{is_black, runs_behind, RunsHaveAllBlack}

abbrev pictures_of : List Run → ℕ
pictures_of runs = sum_by (λ r. r.count) runs

abbrev black_of : List PictureFacts → ℕ
black_of facts = length (filter is_black facts)

-- how many of these pictures belong to a run that began before them
abbrev going_on : Bool → List PictureFacts → ℕ
going_on true facts = prefix_len is_black facts
going_on false facts = 0

abbrev Counted : Bool → List PictureFacts → Type 0
Counted black facts = pictures_of (runs_behind black facts) + going_on black facts ≡ black_of facts

black_behind_black : (f : PictureFacts) (fs : List PictureFacts) → is_black f ≡ true → Counted true fs → Counted true (f ∷ fs)
black_behind_black f fs h c = rw h (omega (arith, c))

black_begins : (f : PictureFacts) (fs : List PictureFacts) → is_black f ≡ true → length (f ∷ fs) ≤ last → Counted true fs → Counted false (f ∷ fs)
black_begins f fs h few c =
    let one = sum_by-cons (λ r. r.count) (record { first = f.number; count = min (1 + prefix_len is_black fs) last }) (runs_behind true fs) in
    let within = prefix_len-le-length is_black fs in
    rw h (omega (arith, c, few, within, one))

bright : (black : Bool) (f : PictureFacts) (fs : List PictureFacts) → is_black f ≡ false → Counted false fs → Counted black (f ∷ fs)
bright true f fs h c = rw h c
bright false f fs h c = rw h c

counted : (black : Bool) (facts : List PictureFacts) → length facts ≤ last → Counted black facts
counted true [] few = refl
counted false [] few = refl
counted true (f ∷ fs) few = elim (cases_Bool (is_black f)) [
  | inl h ↦ black_behind_black f fs h (counted true fs (omega (arith, few)))
  | inr h ↦ bright true f fs h (counted false fs (omega (arith, few)))
]
counted false (f ∷ fs) few = elim (cases_Bool (is_black f)) [
  | inl h ↦ black_begins f fs h few (counted true fs (omega (arith, few)))
  | inr h ↦ bright false f fs h (counted false fs (omega (arith, few)))
]

pub runs_have_all : RunsHaveAllBlack
runs_have_all facts few = let c = counted false facts few in omega (arith, c)
