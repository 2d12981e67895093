-- The words of a text, in order.
use Rattle.std.proofs.Common.{◌≡◌, ℕ, ◌+◌, ◌-◌, ◌<◌, ◌≤◌, true, false, not, ltb, leb, cond, List, [], ◌∷◌, length, take, drop, unwrap_or, Ok, Result, refl, sym, ap, ◌∙◌, subst, arith, ⊎_elim, length-drop}
use Rattle.std.proofs.lemmas.List.{take_all, drop-drop, length-take-le}
use Rattle.std.specs.List.{slice_split, position, position_or_len, onto_first}
use Rattle.std.proofs.lemmas.List.Splits.{slice_split_first, slice_split-cons_no}
use Rattle.std.proofs.lemmas.List.Sums.{prefix_len-le-length}
use Rattle.std.proofs.lemmas.Bool.{ltb-true, ltb-false, leb-true, le-leb, leb-false, lt-leb, cases_Bool}
use Rattle.pw_outside.specs.Reading.{Fault, bind, Fails}
use Rattle.pw_outside.proofs.Chains.{fails-whole}
use Rattle.pic_y4m.specs.declared.fault.PictureKind.{PictureKind}
use Rattle.pic_y4m.specs.declared.fault.PictureFault.{PictureFault}
use Rattle.pic_y4m.specs.declared.parameters.Parameters.{Parameters}
use Rattle.pic_y4m.specs.Faults.{told_fault}
use Rattle.pic_y4m.specs.Parameters.{is_space, with_parameter, parameters_of}

-- the first index, or the length if there is none
pub place_or_len : (bs : List ℕ) → unwrap_or (position is_space bs) (length bs) ≡ position_or_len is_space bs
place_or_len bs =
    ⊎_elim (λ t. rw t refl) (λ f. let ge = ltb-false _ _ f in let le = prefix_len-le-length (λ x. not (is_space x)) bs in let same : length bs ≡ position_or_len is_space bs = omega arith in rw f same)
    (cases_Bool (ltb (position_or_len is_space bs) (length bs)))

-- the words from an index on, at which a word begins; none after the end
abbrev pub words_from : ℕ → List ℕ → List (List ℕ)
words_from at text = cond (leb at (length text)) (slice_split is_space (drop at text)) []

-- a text without a space is one word
split-none : (bs : List ℕ) → length bs ≤ position_or_len is_space bs → slice_split is_space bs ≡ bs ∷ []
split-none [] h = refl
split-none (b ∷ bs) h =
    ⊎_elim
    (λ t. let e : position_or_len is_space (b ∷ bs) ≡ 0 = rw t refl in absurd (omega (arith, e, h)))
    (λ f. let e : position_or_len is_space (b ∷ bs) ≡ 1 + position_or_len is_space bs = rw f refl in
    let shorter : length bs ≤ position_or_len is_space bs = omega (arith, e, h) in
    slice_split-cons_no is_space b bs f ∙ ap (onto_first b) (split-none bs shorter))
    (cases_Bool (is_space b))

-- the first word, and those after its space
split-step : (bs : List ℕ) → slice_split is_space bs ≡ take (position_or_len is_space bs) bs ∷ words_from (position_or_len is_space bs + 1) bs
split-step bs =
    ⊎_elim
    (λ t. let lt : position_or_len is_space bs < length bs = ltb-true _ _ t in let le : leb (position_or_len is_space bs + 1) (length bs) ≡ true = le-leb _ _ (omega arith) in rw le (slice_split_first is_space bs 0 lt))
    (λ f. let ge : length bs ≤ position_or_len is_space bs = ltb-false _ _ f in let no : leb (position_or_len is_space bs + 1) (length bs) ≡ false = lt-leb _ _ (omega arith) in
    rw no (split-none bs ge ∙ ap (λ w. w ∷ []) (sym (take_all (position_or_len is_space bs) bs ge))))
    (cases_Bool (ltb (position_or_len is_space bs) (length bs)))

leb-shift : (at n len : ℕ) → at ≤ len → leb (at + n) len ≡ leb n (len - at)
leb-shift at n len le = ⊎_elim
    (λ t. let l : n ≤ len - at = leb-true _ _ t in le-leb (at + n) len (omega arith) ∙ sym t)
    (λ f. let l : len - at < n = leb-false _ _ f in lt-leb (at + n) len (omega arith) ∙ sym f)
    (cases_Bool (leb n (len - at)))

words-shift : (at n : ℕ) (text : List ℕ) → at ≤ length text → words_from n (drop at text) ≡ words_from (at + n) text
words-shift at n text le =
    let test : leb (at + n) (length text) ≡ leb n (length (drop at text)) = leb-shift at n (length text) le ∙ ap (leb n) (sym (length-drop at text)) in
    let rest : drop n (drop at text) ≡ drop (at + n) text = drop-drop n at text in
    rw (test, rest) refl

pub words-step : (at : ℕ) (text : List ℕ) → at ≤ length text
    → words_from at text ≡ take (position_or_len is_space (drop at text)) (drop at text) ∷ words_from (at + (position_or_len is_space (drop at text) + 1)) text
words-step at text le =
    rw (le-leb at (length text) le)
    (split-step (drop at text) ∙ ap (λ r. take (position_or_len is_space (drop at text)) (drop at text) ∷ r) (words-shift at (position_or_len is_space (drop at text) + 1) text le))

first-word : (at n : ℕ) (text rest : List ℕ) → at ≤ length text → rest ≡ drop at text → n ≡ position_or_len is_space rest
    → words_from at text ≡ take n rest ∷ words_from (at + (n + 1)) text
first-word at n text rest le r e = rw (e, r) (words-step at text le)

-- the part of a slice from an index on
pub rest-is : (at : ℕ) (text : List ℕ) → take (length text - at) (drop at text) ≡ drop at text
rest-is at text = take_all (length text - at) (drop at text) (omega (arith, length-drop at text))

pub words-none : (at : ℕ) (text : List ℕ) → length text < at → words_from at text ≡ []
words-none at text lt = rw (lt-leb at (length text) lt) refl

-- one word is read, and then the others; `rest` is the text from the word on
pub parameters-more : (found q : Parameters) (p at n p2 : ℕ) (text rest : List ℕ) (total : Result Parameters (Fault PictureKind))
    → at ≤ length text → rest ≡ drop at text → n ≡ position_or_len is_space rest → p2 ≡ p + (n + 1)
    → with_parameter found p (take n rest) ≡ Ok q → parameters_of found p (words_from at text) ≡ total
    → parameters_of q p2 (words_from (at + (n + 1)) text) ≡ total
unfolding parameters_of bind
parameters-more found q p at n p2 text rest total le r e f one so_far =
    let le2 : n ≤ length rest = subst (λ k. k ≤ length rest) (sym e) (prefix_len-le-length (λ x. not (is_space x)) rest) in
    let len : length (take n rest) ≡ n = length-take-le n rest le2 in
    let step : words_from at text ≡ take n rest ∷ words_from (at + (n + 1)) text = first-word at n text rest le r e in
    let whole : parameters_of found p (words_from at text) ≡ parameters_of q p2 (words_from (at + (n + 1)) text) = rw (step, one, len, f) refl in
    sym whole ∙ so_far

-- one word has a fault
pub parameters-end : (fault : PictureFault) (found : Parameters) (p at n : ℕ) (text rest : List ℕ) (total : Result Parameters (Fault PictureKind))
    → at ≤ length text → rest ≡ drop at text → n ≡ position_or_len is_space rest
    → Fails told_fault fault (with_parameter found p (take n rest)) → parameters_of found p (words_from at text) ≡ total
    → Fails told_fault fault total
unfolding parameters_of bind
parameters-end fault found p at n text rest total le r e one so_far =
    let step : words_from at text ≡ take n rest ∷ words_from (at + (n + 1)) text = first-word at n text rest le r e in
    fails-whole told_fault fault (with_parameter found p (take n rest)) total (λ f h. sym so_far ∙ rw (step, h) refl) one

pub parameters-none : (found : Parameters) (p at : ℕ) (text : List ℕ) (total : Result Parameters (Fault PictureKind))
    → length text < at → parameters_of found p (words_from at text) ≡ total → total ≡ Ok found
unfolding parameters_of
parameters-none found p at text total lt so_far = sym so_far ∙ rw (words-none at text lt) refl
