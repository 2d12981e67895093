-- Lines with their numbers, and what a sink has of them.
use Rattle.std.proofs.Common.{◌≡◌, ℕ, suc, ◌+◌, ◌-◌, ◌<◌, ◌≤◌, List, [], ◌∷◌, ◌++◌, Some, arith, length, take, drop, ap, sym, subst, append_assoc, append-nil, take-append-drop, ◌∙◌}
use Rattle.std.specs.Prelude.{slice_get, get_or, unwrap_or}
use Rattle.std.proofs.lemmas.Option.{slice_get_within, slice_get-get_or}
use Rattle.std.proofs.Math.Seq.{take-suc}
use Rattle.std.proofs.lemmas.List.{length-take-le, length-drop, get_or-drop, take_all}
use lib.Seq.{take-add}
use Rattle.pw_outside.specs.Writing.{SinkState, Puts, PutsFront}
use Rattle.pw_outside.proofs.Puts.{puts_then, puts_front, front_more, then_front}
use Rattle.pw_text.specs.Numbered.{numbered}

from_none : {X : Type 0} (xs : List X) → 0 + length xs ≡ length xs
from_none xs = omega arith

module _ {X : Type 0} (line : ℕ → X → List ℕ) where
  -- the lines of two lists of items
  pub lines_of_both : (number : ℕ) (xs ys : List X) → numbered line number (xs ++ ys) ≡ numbered line number xs ++ numbered line (number + length xs) ys
  lines_of_both number [] ys = ap (λ n. numbered line n ys) (let e : number ≡ number + 0 = omega arith in e)
  lines_of_both number (x ∷ xs) ys =
      ap (λ l. line number x ++ l) (lines_of_both (number + 1) xs ys)
      ∙ sym (append_assoc (line number x) (numbered line (number + 1) xs) (numbered line (number + 1 + length xs) ys))
      ∙ ap (λ n. (line number x ++ numbered line (number + 1) xs) ++ numbered line n ys) (let e : number + 1 + length xs ≡ number + length (x ∷ xs) = omega arith in e)

  -- one item more
  pub one_more : (ss : List X) (from number : ℕ) (s : X) → from ≤ number → slice_get ss number ≡ Some s
      → numbered line from (take (number + 1 - from) (drop from ss)) ≡ numbered line from (take (number - from) (drop from ss)) ++ line number s
  one_more ss from number s le e =
      let there : number < length ss = slice_get_within ss number s e in
      let k : number + 1 - from ≡ suc (number - from) = omega (arith, le) in
      let here : number - from < length (drop from ss) = omega (arith, le, there, length-drop from ss) in
      let at : from + (number - from) ≡ number = omega (arith, le) in
      let taken : length (take (number - from) (drop from ss)) ≡ number - from = length-take-le (number - from) (drop from ss) (omega (arith, here)) in
      let is : get_or (drop from ss) (number - from) s ≡ s =
      get_or-drop from ss (number - from) s ∙ ap (λ n. get_or ss n s) at ∙ ap (λ o. unwrap_or o s) (sym (slice_get-get_or ss number s there) ∙ e) in
      let more : take (number + 1 - from) (drop from ss) ≡ take (number - from) (drop from ss) ++ s ∷ [] =
      ap (λ n. take n (drop from ss)) k ∙ take-suc (drop from ss) (number - from) s here ∙ ap (λ x. take (number - from) (drop from ss) ++ x ∷ []) is in
      ap (numbered line from) more
      ∙ lines_of_both from (take (number - from) (drop from ss)) (s ∷ [])
      ∙ ap (λ n. numbered line from (take (number - from) (drop from ss)) ++ numbered line n (s ∷ [])) (ap (λ n. from + n) taken ∙ at)
      ∙ ap (λ l. numbered line from (take (number - from) (drop from ss)) ++ l) (append-nil (line number s))

  -- none yet
  pub none_yet : (ss : List X) (from : ℕ) → numbered line from (take (from - from) (drop from ss)) ≡ []
  none_yet ss from = ap (λ n. numbered line from (take n (drop from ss))) (let e : from - from ≡ 0 = omega arith in e)

  -- the lines up to one number, and those from there up to another
  pub lines_to : (ss : List X) (next end : ℕ) → next ≤ end → next ≤ length ss
      → numbered line 0 (take next ss) ++ numbered line next (take (end - next) (drop next ss)) ≡ numbered line 0 (take end ss)
  lines_to ss next end le there =
      let split : end ≡ next + (end - next) = omega (arith, le) in
      sym (ap (λ n. numbered line 0 (take n ss)) split ∙ ap (numbered line 0) (take-add next (end - next) ss)
      ∙ lines_of_both 0 (take next ss) (take (end - next) (drop next ss))
      ∙ ap (λ n. numbered line 0 (take next ss) ++ numbered line n (take (end - next) (drop next ss))) (from_none (take next ss) ∙ length-take-le next ss there))

  -- the lines up to a number, and all others
  pub lines_after : (ss : List X) (next : ℕ) → numbered line 0 (take next ss) ++ numbered line (length (take next ss)) (drop next ss) ≡ numbered line 0 ss
  lines_after ss next = sym (ap (numbered line 0) (sym (take-append-drop next ss)) ∙ lines_of_both 0 (take next ss) (drop next ss)
      ∙ ap (λ n. numbered line 0 (take next ss) ++ numbered line n (drop next ss)) (from_none (take next ss)))

  -- ---- what a sink has of the text: the lines up to a number

  pub further : {a b c : SinkState} (ss : List X) (next end : ℕ) → next ≤ end → next ≤ length ss → Puts a b (numbered line 0 (take next ss))
      → Puts b c (numbered line next (take (end - next) (drop next ss))) → Puts a c (numbered line 0 (take end ss))
  further {a} {b} {c} ss next end le there p q = subst (Puts a c) (lines_to ss next end le there) (puts_then p q)

  pub front_up_to : {a b : SinkState} (ss : List X) (next : ℕ) → Puts a b (numbered line 0 (take next ss)) → PutsFront a b (numbered line 0 ss)
  front_up_to {a} {b} ss next p = subst (PutsFront a b) (lines_after ss next) (front_more (numbered line (length (take next ss)) (drop next ss)) (puts_front p))

  pub front_further : {a b c : SinkState} (ss : List X) (next end : ℕ) → next ≤ end → next ≤ length ss → Puts a b (numbered line 0 (take next ss))
      → PutsFront b c (numbered line next (take (end - next) (drop next ss))) → PutsFront a c (numbered line 0 ss)
  front_further {a} {b} {c} ss next end le there p q =
      let after = numbered line (length (take end ss)) (drop end ss) in
      subst (PutsFront a c) (ap (λ l. l ++ after) (lines_to ss next end le there) ∙ lines_after ss end) (front_more after (then_front p q))

  pub at_last : {a b : SinkState} (ss : List X) (next : ℕ) → length ss ≤ next → Puts a b (numbered line 0 (take next ss)) → Puts a b (numbered line 0 ss)
  at_last {a} {b} ss next past p = subst (λ l. Puts a b (numbered line 0 l)) (take_all next ss past) p
