-- Runs of black pictures, and their lines.
use Rattle.std.proofs.Common.{◌≡◌, refl, ℕ, ◌+◌, ◌≤◌, ◌<◌, arith, ap, List, [], ◌∷◌, ◌++◌, append-nil, append_assoc, sym, ◌∙◌, length, min}
use Rattle.std.specs.Prelude.{Option, Some, None, codes, true, false}
use Rattle.std.specs.List.{flat_map, prefix_len}
use Rattle.pw_outside.specs.Ports.{last}
use Rattle.monitors.specs.declared.facts.PictureFacts.{PictureFacts}
use Rattle.monitors.specs.declared.black.Run.{Run}
use Rattle.monitors.specs.Black.{is_black, grown, run_line, runs_on, runs_behind, black_lines, black_state}
use Rattle.monitors.specs.States.{behind}

-- ---- one more picture

two_more : (count more : ℕ) → min (min (count + 1) last + more) last ≡ min (count + (1 + more)) last
two_more count more = omega arith

goes_on : (going : Option Run) (f : PictureFacts) (fs : List PictureFacts) → is_black f ≡ true → runs_on (Some (grown going f)) fs ≡ runs_on going (f ∷ fs)
goes_on None f fs h = rw h refl
goes_on (Some r) f fs h = rw h (λ i. record { first = r.first; count = two_more r.count (prefix_len is_black fs) i } ∷ runs_behind true fs)

pub black_goes_on : (over : List Run) (going : Option Run) (f : PictureFacts) → is_black f ≡ true → black_state over (Some (grown going f)) ≡ behind (black_state over going) f
black_goes_on over going f h = λ i facts. black_lines (over ++ goes_on going f facts h i)

same : (count : ℕ) → count ≤ last → min (count + 0) last ≡ count
same count h = omega (arith, h)

as_it_was : (r : Run) → r.count ≤ last → record { first = r.first; count = min (r.count + 0) last } ≡ r
as_it_was r h = λ i. record { first = r.first; count = same r.count h i }

pub one_over : (r : Run) → r.count ≤ last → r ∷ [] ≡ runs_on (Some r) []
one_over r h = λ i. sym (as_it_was r h) i ∷ []

ends : (going : Option Run) (f : PictureFacts) (fs : List PictureFacts) → is_black f ≡ false → runs_on going [] ++ runs_on None fs ≡ runs_on going (f ∷ fs)
ends None f fs h = rw h refl
ends (Some r) f fs h = rw h refl

pub black_ends : (over : List Run) (going : Option Run) (f : PictureFacts) → is_black f ≡ false → black_state (over ++ runs_on going []) None ≡ behind (black_state over going) f
black_ends over going f h = λ i facts. black_lines ((append_assoc over (runs_on going []) (runs_on None facts) ∙ ap (λ l. over ++ l) (ends going f facts h)) i)

-- ---- lines

both : (xs ys : List Run) → flat_map run_line (xs ++ ys) ≡ flat_map run_line xs ++ flat_map run_line ys
both [] ys = refl
both (x ∷ xs) ys = ap (λ l. run_line x ++ l) (both xs ys) ∙ sym (append_assoc (run_line x) (flat_map run_line xs) (flat_map run_line ys))

pub lines_of_one_more : (over : List Run) (r : Run) → r.count ≤ last → flat_map run_line (over ++ runs_on (Some r) []) ≡ flat_map run_line over ++ run_line r
lines_of_one_more over r h = ap (λ x. flat_map run_line (over ++ x ∷ [])) (as_it_was r h) ∙ both over (r ∷ []) ∙ ap (λ l. flat_map run_line over ++ l) (append-nil (run_line r))

pub lines_of_no_more : (over : List Run) → flat_map run_line (over ++ runs_on None []) ≡ flat_map run_line over
lines_of_no_more over = ap (flat_map run_line) (append-nil over)

none_of : (ys : List Run) → length ys ≡ 0 → black_lines ys ≡ codes "black none\n"
unfolding black_lines
none_of [] h = refl
none_of (y ∷ ys) h = absurd (omega (arith, h))

some_of : (ys : List Run) → 0 < length ys → black_lines ys ≡ flat_map run_line ys
unfolding black_lines
some_of [] h = absurd (omega (arith, h))
some_of (y ∷ ys) h = refl

pub lines_of_none : (over : List Run) (going : Option Run) → length (over ++ runs_on going []) ≡ 0 → black_lines (over ++ runs_on going []) ≡ codes "black none\n"
lines_of_none over going h = none_of (over ++ runs_on going []) h

pub lines_of_some : (over : List Run) (going : Option Run) → 0 < length (over ++ runs_on going []) → black_lines (over ++ runs_on going []) ≡ flat_map run_line (over ++ runs_on going [])
lines_of_some over going h = some_of (over ++ runs_on going []) h
