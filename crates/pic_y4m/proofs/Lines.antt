-- Reading a line byte by byte.
use Rattle.std.proofs.Common.{◌≡◌, ℕ, ◌+◌, ◌<◌, ◌≤◌, min, true, false, not, eqb, ltb, List, [], ◌∷◌, ◌++◌, length, take, drop, Option, Some, None, Ok, Err, refl, sym, ap, ◌∙◌, subst, arith, length-append, eq-eqb, ⊎_elim}
use Rattle.std.proofs.Math.Seq.{take-append_seam, drop-append-add}
use Rattle.std.proofs.lemmas.List.Folds.{prefix_len-append}
use Rattle.std.proofs.lemmas.List.{append-nil, nil_from_length}
use Rattle.std.proofs.lemmas.Bool.{lt-ltb, le-ltb, cond-true, eqb-true, cases_Bool}
use Rattle.pw_outside.specs.Reading.{bind}
use Rattle.pic_y4m.specs.declared.fault.PictureKind.{PictureKind}
use Rattle.pic_y4m.specs.declared.fault.PictureKind.TheVariants as kinds
use Rattle.pic_y4m.specs.Line.{feed, line_at, next_line, IsNextOf}

-- bytes without a line feed before others
feed-append : (xs ys : List ℕ) → feed xs ≡ length xs → feed (xs ++ ys) ≡ length xs + feed ys
feed-append xs ys h = prefix_len-append (λ b. not (eqb b 10)) xs ys ∙ cond-true _ _ _ (eq-eqb _ _ h)

feed-whole : (items left all : List ℕ) → feed items ≡ length items → all ≡ items ++ left → feed all ≡ length items + feed left
feed-whole items left all h e = ap feed e ∙ feed-append items left h

pub eqb-some : (n : ℕ) → 0 < n → eqb n 0 ≡ false
eqb-some n h = ⊎_elim (λ t. let e : n ≡ 0 = eqb-true n 0 t in absurd (omega arith)) (λ f. f) (cases_Bool (eqb n 0))

-- the line ends
pub line-ends : (most at place after : ℕ) (long : PictureKind) (all items left rest : List ℕ) (byte : Option ℕ) (b : ℕ) → length items < most → feed items ≡ length items
    → all ≡ items ++ left → byte ≡ Some b → b ≡ 10 → IsNextOf byte left rest → after ≡ place + (length items + 1)
    → next_line most long at (record { place = place; bytes = all }) ≡ Ok (Some items, record { place = after; bytes = rest })
unfolding next_line line_at bind
line-ends most at place after long all items left rest byte b lt clear e is ten next behind =
    let n : left ≡ 10 ∷ rest = subst (λ o. IsNextOf o left rest) (is ∙ ap (λ k. Some k) ten) next in
    let whole : all ≡ items ++ 10 ∷ rest = e ∙ ap (λ l. items ++ l) n in
    let first : feed (10 ∷ rest) ≡ 0 = refl in
    let f : feed all ≡ length items = omega (arith, feed-whole items (10 ∷ rest) all clear whole, first) in
    let len : length all ≡ length items + length (10 ∷ rest) = ap length whole ∙ length-append items (10 ∷ rest) in
    let some : eqb (length all) 0 ≡ false = eqb-some (length all) (omega arith) in
    let inside : ltb (length items) (min most (length all)) ≡ true = lt-ltb _ _ (omega arith) in
    let t : take (length items) all ≡ items = ap (take (length items)) whole ∙ take-append_seam items (10 ∷ rest) in
    let d : drop (length items + 1) all ≡ rest = ap (drop (length items + 1)) whole ∙ drop-append-add items (10 ∷ rest) 1 in
    rw (some, f, inside, t, d, behind) refl

-- the input ends at the start of a line
pub line-none : (most at place after : ℕ) (long : PictureKind) (all items left rest : List ℕ) (byte : Option ℕ) → length items ≡ 0
    → all ≡ items ++ left → byte ≡ None → IsNextOf byte left rest → after ≡ place
    → next_line most long at (record { place = place; bytes = all }) ≡ Ok (None, record { place = after; bytes = rest })
unfolding next_line
line-none most at place after long all items left rest byte z e b next behind =
    let n : (left ≡ []) × (rest ≡ []) = subst (λ o. IsNextOf o left rest) b next in
    let len : length all ≡ length items + length left = ap length e ∙ length-append items left in
    let nil : length left ≡ 0 = ap length n.0 in
    let zero_all : length all ≡ 0 = omega arith in
    let same : all ≡ rest = nil_from_length all zero_all ∙ sym n.1 in
    rw (eq-eqb _ _ zero_all, behind) (ap (λ (l : List ℕ). Ok (None, record { place = place; bytes = l })) same)

-- the input ends within a line
pub line-cut : (most at place end : ℕ) (long : PictureKind) (all items left rest : List ℕ) (byte : Option ℕ) → length items < most → 0 < length items → feed items ≡ length items
    → all ≡ items ++ left → byte ≡ None → IsNextOf byte left rest → end ≡ place + length items
    → next_line most long at (record { place = place; bytes = all }) ≡ Err (record { kind = kinds.Truncated; place = end })
unfolding next_line line_at bind
line-cut most at place end long all items left rest byte lt one clear e b next behind =
    let n : (left ≡ []) × (rest ≡ []) = subst (λ o. IsNextOf o left rest) b next in
    let whole : all ≡ items = e ∙ ap (λ l. items ++ l) n.0 ∙ append-nil items in
    let f : feed all ≡ length items = ap feed whole ∙ clear in
    let len : length all ≡ length items = ap length whole in
    let some : eqb (length items) 0 ≡ false = eqb-some (length items) one in
    let outside : ltb (length items) (min most (length items)) ≡ false = le-ltb _ _ (omega arith) in
    let short : ltb (length items) most ≡ true = lt-ltb _ _ lt in
    rw (f, len, some, outside, short, behind) refl

-- the line is too long
pub line-long : (most at place : ℕ) (long : PictureKind) (all items left : List ℕ) → most ≤ length items → 0 < most → feed items ≡ length items
    → all ≡ items ++ left
    → next_line most long at (record { place = place; bytes = all }) ≡ Err (record { kind = long; place = at })
unfolding next_line line_at bind
line-long most at place long all items left le one clear e =
    let f : feed all ≡ length items + feed left = feed-whole items left all clear e in
    let len : length all ≡ length items + length left = ap length e ∙ length-append items left in
    let some : eqb (length all) 0 ≡ false = eqb-some (length all) (omega arith) in
    let outside : ltb (feed all) (min most (length all)) ≡ false = le-ltb _ _ (omega arith) in
    let not_short : ltb (length all) most ≡ false = le-ltb _ _ (omega arith) in
    rw (some, outside, not_short) refl
