-- Numbers, differences, runs and steps at the front of bits.
use Rattle.std.proofs.Common.{◌≡◌, ℕ, zero, suc, ◌+◌, ◌-◌, ◌*◌, ◌/◌, ◌%◌, ◌^◌, ◌<◌, ◌≤◌, ◌⊎◌, inl, inr, Bool, true, false, cond, eqb, ltb, List, [], ◌∷◌, ◌++◌, length, take, drop, replicate, Result, Ok, Err, refl, ap, sym, ◌∙◌, subst, arith, append_assoc, append-nil, length-append}
use Rattle.std.proofs.lemmas.Bool.{cases_lt, ltb-true, ltb-false, lt-ltb, le-ltb, ne_eqb, eq-eqb, eqb-true, eqb-false}
use Rattle.std.proofs.lemmas.List.{take_at, drop_at, length-replicate, length-take-le, take-append-drop, nil_from_length}
use Rattle.pw_bits.specs.Bits.{bits_of, value, zeros}
use Rattle.pw_bits.proofs.BitsLemmas.{length-bits_of, bits_of_cat, bits_of-value, value-lt, value_of_bits, pow_suc}
use Rattle.pr_alpha.specs.Alpha.{Difference, long, short, Run, none, brief, wide, Step, short_size, greatest, difference_word, run_word, moved, run_length, FitsDifference, FitsRun, AreSteps, given, words, StepsStand, Stands}
use Rattle.pr_alpha.specs.Reading.{Fault, wanting, past, ◌>>=◌, number_at, size_behind, numbered, moved_by, value_behind, brief_then, run_at, Found, run_then, value_then, step_behind, step_at, with_found, values_at, alpha_at}

chosen : {X : Type 0} (b : Bool) (x y z : X) → cond b x y ≡ z → ((b ≡ true) × (x ≡ z)) ⊎ ((b ≡ false) × (y ≡ z))
chosen true x y z e = inl (refl, e)
chosen false x y z e = inr (refl, e)

bind_ok : {A B : Type 0} (r : Result A Fault) (f : A → Result B Fault) (y : B) → (r >>= f) ≡ Ok y → (x : A) × (r ≡ Ok x) × (f x ≡ Ok y)
bind_ok (Ok x) f y e = (x, refl, e)
bind_ok (Err d) f y e = absurd (cc)

ok_pair : (a b : ℕ) (x y : List Bool) → ◌≡◌ {A = Result (ℕ × List Bool) Fault} (Ok (a, x)) (Ok (b, y)) → (a ≡ b) × (x ≡ y)
ok_pair a b x y e =
    let p : ◌≡◌ {A = ℕ × List Bool} (a, x) (b, y) = cc in
    (ap (λ (q : ℕ × List Bool). q.0) p, ap (λ (q : ℕ × List Bool). q.1) p)

-- ---- numbers

pub number_again : (k w : ℕ) (rest : List Bool) → w < 2 ^ k → number_at k (bits_of k w ++ rest) ≡ Ok (w, rest)
unfolding number_at
number_again k w rest h =
    let b = bits_of k w in
    let n = length-bits_of k w in
    let enough : ltb (length (b ++ rest)) k ≡ false = le-ltb _ _ (omega (arith, length-append b rest, n)) in
    rw (take_at b rest k n, drop_at b rest k n, enough, value_of_bits k w h) refl

pub number_found : (k : ℕ) (l : List Bool) (w : ℕ) (rest : List Bool) → number_at k l ≡ Ok (w, rest) → (w < 2 ^ k) × (l ≡ bits_of k w ++ rest)
unfolding number_at
number_found k l w rest e =
    elim (chosen (ltb (length l) k) (Err wanting) (Ok (value (take k l), drop k l)) (Ok (w, rest)) e) [
      | inl few ↦ absurd (cc)
      | inr enough ↦
          let v = value (take k l) in
          let fits : k ≤ length l = ltb-false (length l) k enough.0 in
          let size : length (take k l) ≡ k = length-take-le k l fits in
          let both = ok_pair v w (drop k l) rest enough.1 in
          let low : v < 2 ^ k = subst (λ j. v < 2 ^ j) size (value-lt (take k l)) in
          let same : bits_of k v ≡ take k l = ap (λ j. bits_of j v) (sym size) ∙ bits_of-value (take k l) in (
            subst (λ x. x < 2 ^ k) both.0 low,
            sym (take-append-drop k l) ∙ ap (λ m. m ++ drop k l) (sym same ∙ ap (bits_of k) both.0) ∙ ap (λ r. bits_of k w ++ r) both.1,
          )
    ]

pub number_short : (k : ℕ) (l : List Bool) → length l < k → number_at k l ≡ Err wanting
unfolding number_at
number_short k l h = rw (lt-ltb (length l) k h) refl

-- ---- differences

abbrev pub bit : Bool → ℕ
bit true = 1
bit false = 0

bit-lt : (b : Bool) → bit b < 2
bit-lt true = omega arith
bit-lt false = omega arith

one_bit : (b : Bool) → bits_of 1 (bit b) ≡ b ∷ []
one_bit true = refl
one_bit false = refl

-- a magnitude and a sign as one number
pub short_bits : (k m : ℕ) (b : Bool) (d : ℕ) → d ≡ 2 * m + bit b → bits_of (k + 1) d ≡ bits_of k m ++ b ∷ []
short_bits k m b d e =
    ap (bits_of (k + 1)) (let u : d ≡ m * 2 ^ 1 + bit b = omega (arith, e) in u)
    ∙ bits_of_cat k 1 m (bit b) (bit-lt b) ∙ ap (λ l. bits_of k m ++ l) (one_bit b)

short_of_number : (d : ℕ) → d ≡ 2 * (d / 2) + bit (eqb (d % 2) 1)
short_of_number d = grind arith

-- the codeword of a difference by its number
word_numbered : (n : ℕ) (b : Bool) (d : ℕ) → difference_word n (numbered b d) ≡ b ∷ bits_of (size_behind n b) d
word_numbered n true d = refl
word_numbered n false d = ap (λ l. false ∷ l) (sym (short_bits (short_size n) (d / 2) (eqb (d % 2) 1) d (short_of_number d)))

fits_numbered : (n : ℕ) (b : Bool) (d : ℕ) → d < 2 ^ size_behind n b → FitsDifference n (numbered b d)
fits_numbered n true d h = h
fits_numbered n false d h =
    let p : 2 ^ (short_size n + 1) ≡ 2 ^ short_size n + 2 ^ short_size n = ap (λ k. 2 ^ k) (let e : short_size n + 1 ≡ suc (short_size n) = omega arith in e) ∙ pow_suc (short_size n) in
    omega (arith, p)

pub record DifferenceFound (n before : ℕ) (l : List Bool) (v : ℕ) (rest : List Bool) : Type 0 where
  pub difference : Difference
  pub fits : FitsDifference n difference
  pub gives : moved n before difference ≡ v
  pub is : l ≡ difference_word n difference ++ rest

pub difference_found : (n before : ℕ) (b : Bool) (l : List Bool) (v : ℕ) (rest : List Bool) → value_behind n before b l ≡ Ok (v, rest) → DifferenceFound n before (b ∷ l) v rest
difference_found n before b l v rest e =
    let w = bind_ok (number_at (size_behind n b) l) (moved_by n before b) (v, rest) e in
    let d = w.0.0 in
    let f = number_found (size_behind n b) l d w.0.1 w.1 in
    let both = ok_pair (moved n before (numbered b d)) v w.0.1 rest w.2 in
    record {
      difference = numbered b d;
      fits = fits_numbered n b d f.0;
      gives = both.0;
      is = ap (λ m. b ∷ m) (f.1 ∙ ap (λ r. bits_of (size_behind n b) d ++ r) both.1) ∙ ap (λ m. m ++ rest) (sym (word_numbered n b d));
    }

-- the number of a short difference
short_number : (k m : ℕ) (b : Bool) → m < 2 ^ k → (2 * m + bit b < 2 ^ (k + 1)) × ((2 * m + bit b) / 2 ≡ m) × (eqb ((2 * m + bit b) % 2) 1 ≡ b)
short_number k m true h =
    let p : 2 ^ (k + 1) ≡ 2 ^ k + 2 ^ k = ap (λ k. 2 ^ k) (let e : k + 1 ≡ suc k = omega arith in e) ∙ pow_suc k in
    (omega (arith, p), omega arith, eq-eqb ((2 * m + 1) % 2) 1 (omega arith))
short_number k m false h =
    let p : 2 ^ (k + 1) ≡ 2 ^ k + 2 ^ k = ap (λ k. 2 ^ k) (let e : k + 1 ≡ suc k = omega arith in e) ∙ pow_suc k in
    (omega (arith, p), omega arith, ne_eqb ((2 * m + 0) % 2) 1 (λ e. omega arith))

pub difference_again : (n before wants : ℕ) (d : Difference) (rest : List Bool) → FitsDifference n d → step_at n before wants (difference_word n d ++ rest) ≡ value_then wants (moved n before d, rest)
unfolding step_behind
difference_again n before wants (long d) rest h = ap (λ r. (r >>= moved_by n before true) >>= value_then wants) (number_again n d rest h)
difference_again n before wants (short m b) rest h =
    let k = short_size n in
    let d = 2 * m + bit b in
    let s = short_number k m b h in
    ap (λ l. (number_at (k + 1) (l ++ rest) >>= moved_by n before false) >>= value_then wants) (sym (short_bits k m b d refl))
    ∙ ap (λ r. (r >>= moved_by n before false) >>= value_then wants) (number_again (k + 1) d rest s.0)
    ∙ ap (λ x. value_then wants (moved n before (short x (eqb (d % 2) 1)), rest)) s.1
    ∙ ap (λ x. value_then wants (moved n before (short m x), rest)) s.2

-- ---- runs

pub record RunFound (l : List Bool) (k : ℕ) (rest : List Bool) : Type 0 where
  pub run : Run
  pub fits : FitsRun run
  pub gives : run_length run ≡ k
  pub is : l ≡ run_word run ++ rest

pub run_found : (l : List Bool) (k : ℕ) (rest : List Bool) → run_at l ≡ Ok (k, rest) → RunFound l k rest
unfolding run_at
run_found [] k rest e = absurd (cc)
run_found (true ∷ l) k rest e =
    let both = ok_pair 0 k l rest e in
    record { run = none; fits = tt; gives = both.0; is = ap (λ m. true ∷ m) both.1 }
run_found (false ∷ l) k rest e =
    let w = bind_ok (number_at 4 l) brief_then (k, rest) e in
    let b = w.0.0 in
    let f = number_found 4 l b w.0.1 w.1 in
    elim (chosen (eqb b 0) (number_at 11 w.0.1) (Ok w.0) (Ok (k, rest)) w.2) [
      | inl is_wide ↦
          let g = number_found 11 w.0.1 k rest is_wide.1 in
          let zero4 : bits_of 4 b ≡ zeros 4 = ap (bits_of 4) (eqb-true b 0 is_wide.0) in
          record {
            run = wide k;
            fits = g.0;
            gives = refl;
            is = ap (λ m. false ∷ m) (f.1 ∙ ap (λ m. m ++ w.0.1) zero4 ∙ ap (λ m. zeros 4 ++ m) g.1 ∙ sym (append_assoc (zeros 4) (bits_of 11 k) rest));
          }
      | inr is_brief ↦
          let both = ok_pair b k w.0.1 rest is_brief.1 in
          let some : 0 < b = elim (cases_lt 0 b) [ inl h ↦ h | inr h ↦ absurd (eqb-false b 0 is_brief.0 (omega arith)) ] in
          record {
            run = brief k;
            fits = (subst (λ x. 0 < x) both.0 some, subst (λ x. x < 2 ^ 4) both.0 f.0);
            gives = refl;
            is = ap (λ m. false ∷ m) (f.1 ∙ ap (λ x. bits_of 4 x ++ w.0.1) both.0 ∙ ap (λ r. bits_of 4 k ++ r) both.1);
          }
    ]

pub run_again : (r : Run) (rest : List Bool) → FitsRun r → run_at (run_word r ++ rest) ≡ Ok (run_length r, rest)
unfolding run_at
run_again none rest h = refl
run_again (brief k) rest h =
    let some : eqb k 0 ≡ false = ne_eqb k 0 (λ e. omega arith) in
    ap (λ r. r >>= brief_then) (number_again 4 k rest h.1) ∙ rw some refl
run_again (wide k) rest h =
    ap (λ l. number_at 4 l >>= brief_then) (append_assoc (zeros 4) (bits_of 11 k) rest)
    ∙ ap (λ r. r >>= brief_then) (number_again 4 0 (bits_of 11 k ++ rest) (omega arith)) ∙ number_again 11 k rest h

-- ---- steps

pub record StepFound (n before wants : ℕ) (l : List Bool) (s : Found) : Type 0 where
  pub step : Step
  pub fits : FitsDifference n step.difference × FitsRun step.run
  pub value : moved n before step.difference ≡ s.value
  pub count : s.count ≡ suc (run_length step.run)
  pub inside : s.count ≤ wants
  pub more : 1 < wants → l ≡ difference_word n step.difference ++ (run_word step.run ++ s.rest)
  pub last : wants ≤ 1 → l ≡ difference_word n step.difference ++ s.rest

found_parts : (a b : Found) → ◌≡◌ {A = Result Found Fault} (Ok a) (Ok b) → a ≡ b
found_parts a b e = cc

pub step_found : (n before wants : ℕ) (l : List Bool) (s : Found) → 0 < wants → step_at n before wants l ≡ Ok s → StepFound n before wants l s
unfolding step_behind
step_found n before wants [] s h e = absurd (cc)
step_found n before wants (b ∷ l) s h e =
    let w = bind_ok (value_behind n before b l) (value_then wants) s e in
    let d = difference_found n before b l w.0.0 w.0.1 w.1 in
    elim (chosen (ltb 1 wants) (run_at w.0.1 >>= run_then wants w.0.0) (Ok (record { value = w.0.0; count = 1; rest = w.0.1 })) (Ok s) w.2) [
      | inl many ↦
          let r = bind_ok (run_at w.0.1) (run_then wants w.0.0) s many.1 in
          let f = run_found w.0.1 r.0.0 r.0.1 r.1 in
          let made : Found = record { value = w.0.0; count = r.0.0 + 1; rest = r.0.1 } in
          elim (chosen (ltb r.0.0 wants) (Ok made) (Err past) (Ok s) r.2) [
            | inl within ↦
                let same : made ≡ s = found_parts made s within.1 in
                let lt = ltb-true r.0.0 wants within.0 in
                let is : made.count ≡ s.count = ap (λ (x : Found). x.count) same in
                let over = ltb-true 1 wants many.0 in
                record {
                  step = record { difference = d.difference; run = f.run };
                  fits = (d.fits, f.fits);
                  value = d.gives ∙ ap (λ (x : Found). x.value) same;
                  count = omega (arith, is, f.gives);
                  inside = omega (arith, is, lt);
                  more = λ h. d.is ∙ ap (λ m. difference_word n d.difference ++ m) (f.is ∙ ap (λ (x : Found). run_word f.run ++ x.rest) same);
                  last = λ h. absurd (omega (arith, over));
                }
            | inr over ↦ absurd (cc)
          ]
      | inr one ↦
          let made : Found = record { value = w.0.0; count = 1; rest = w.0.1 } in
          let same : made ≡ s = found_parts made s one.1 in
          let is : made.count ≡ s.count = ap (λ (x : Found). x.count) same in
          let few = ltb-false 1 wants one.0 in
          record {
            step = record { difference = d.difference; run = none };
            fits = (d.fits, tt);
            value = d.gives ∙ ap (λ (x : Found). x.value) same;
            count = omega (arith, is);
            inside = omega (arith, is);
            more = λ h. absurd (omega (arith, few));
            last = λ h. d.is ∙ ap (λ (x : Found). difference_word n d.difference ++ x.rest) same;
          }
    ]

pub values_none : (turns n before : ℕ) (l : List Bool) → values_at turns n before 0 l ≡ Ok []
values_none zero n before l = refl
values_none (suc turns) n before l = refl

pub values_some : (turns n before wants : ℕ) (l : List Bool) → 0 < wants →
    values_at (suc turns) n before wants l ≡ (step_at n before wants l >>= λ s. values_at turns n s.value (wants - s.count) s.rest >>= with_found s)
values_some turns n before wants l h =
    let some : eqb wants 0 ≡ false = ne_eqb wants 0 (λ e. omega arith) in
    rw some refl

-- the codewords of steps, if further values are missing, and if none is
pub words_more : (n wants : ℕ) (s : Step) (ss : List Step) → 1 < wants → words n wants (s ∷ ss) ≡ difference_word n s.difference ++ (run_word s.run ++ words n (wants - suc (run_length s.run)) ss)
words_more n wants s ss h = rw (lt-ltb 1 wants h) refl

pub words_last : (n wants : ℕ) (s : Step) (ss : List Step) → wants ≤ 1 → words n wants (s ∷ ss) ≡ difference_word n s.difference
words_last n wants s ss h = rw (le-ltb 1 wants h) (append-nil (difference_word n s.difference))

nil_of : {A : Type 0} (l : List A) → length l ≡ 0 → l ≡ []
nil_of l e = nil_from_length l e

pub values_again : (turns n before wants : ℕ) (ss : List Step) (vs : List ℕ) (rest : List Bool) → wants ≤ turns → AreSteps n ss → given n before ss ≡ vs → length vs ≡ wants →
    values_at turns n before wants (words n wants ss ++ rest) ≡ Ok vs
values_again turns n before wants [] vs rest enough fit gives size =
    let none : wants ≡ 0 = sym size ∙ ap length (sym gives) in
    ap (λ w. values_at turns n before w rest) none ∙ values_none turns n before rest ∙ ap Ok gives
values_again zero n before wants (s ∷ ss) vs rest enough fit gives size =
    absurd (omega (arith, ap length gives, size))
values_again (suc turns) n before wants (s ∷ ss) vs rest enough fit gives size =
    let v = moved n before s.difference in
    let k = run_length s.run in
    let all : suc k + length (given n v ss) ≡ wants = omega (arith, ap length gives, size, length-append (replicate (suc k) v) (given n v ss), length-replicate (suc k) v) in
    let some : 0 < wants = omega (arith, all) in
    elim (cases_lt 1 wants) [
      | inl many ↦
          let w = words n (wants - suc k) ss in
          let in_row : ltb k wants ≡ true = lt-ltb k wants (omega (arith, all)) in
          let l : words n wants (s ∷ ss) ++ rest ≡ difference_word n s.difference ++ (run_word s.run ++ (w ++ rest)) =
          ap (λ m. m ++ rest) (words_more n wants s ss many) ∙ append_assoc (difference_word n s.difference) (run_word s.run ++ w) rest
          ∙ ap (λ m. difference_word n s.difference ++ m) (append_assoc (run_word s.run) w rest) in
          let f : Found = record { value = v; count = k + 1; rest = w ++ rest } in
          let step : step_at n before wants (words n wants (s ∷ ss) ++ rest) ≡ Ok f =
          ap (step_at n before wants) l ∙ difference_again n before wants s.difference (run_word s.run ++ (w ++ rest)) fit.0
          ∙ rw (lt-ltb 1 wants many) (ap (λ r. r >>= run_then wants v) (run_again s.run (w ++ rest) fit.1) ∙ rw in_row refl) in
          let count : k + 1 ≡ suc k = omega arith in
          let i = values_again turns n v (wants - suc k) ss (given n v ss) rest (omega arith) fit.2 refl (omega (arith, all)) in
          values_some turns n before wants (words n wants (s ∷ ss) ++ rest) some
          ∙ ap (λ r. r >>= λ (x : Found). values_at turns n x.value (wants - x.count) x.rest >>= with_found x) step
          ∙ ap (λ c. values_at turns n v (wants - c) (w ++ rest) >>= with_found (record { value = v; count = c; rest = w ++ rest })) count
          ∙ ap (λ r. r >>= with_found (record { value = v; count = suc k; rest = w ++ rest })) i
          ∙ ap Ok gives
      | inr few ↦
          let one : wants ≡ 1 = omega arith in
          let alone : k ≡ 0 = omega (arith, all) in
          let nothing : given n v ss ≡ [] = nil_of (given n v ss) (omega (arith, all)) in
          let f : Found = record { value = v; count = 1; rest = rest } in
          let step : step_at n before wants (words n wants (s ∷ ss) ++ rest) ≡ Ok f =
          ap (λ m. step_at n before wants (m ++ rest)) (words_last n wants s ss few) ∙ difference_again n before wants s.difference rest fit.0 ∙ rw (le-ltb 1 wants few) refl in
          let is : v ∷ [] ≡ vs = ap (λ m. v ∷ (replicate m v ++ [])) (sym alone) ∙ ap (λ m. v ∷ (replicate k v ++ m)) (sym nothing) ∙ gives in
          values_some turns n before wants (words n wants (s ∷ ss) ++ rest) some
          ∙ ap (λ r. r >>= λ (x : Found). values_at turns n x.value (wants - x.count) x.rest >>= with_found x) step
          ∙ ap (λ c. values_at turns n v (c - 1) rest >>= with_found f) one
          ∙ ap (λ r. r >>= with_found f) (values_none turns n v rest)
          ∙ ap Ok is
    ]

pub record ValuesFound (n before wants : ℕ) (l : List Bool) (vs : List ℕ) : Type 0 where
  pub steps : List Step
  pub fit : AreSteps n steps
  pub give : given n before steps ≡ vs
  pub size : length vs ≡ wants
  pub rest : List Bool
  pub is : l ≡ words n wants steps ++ rest

none_found : (n before wants : ℕ) (l : List Bool) (vs : List ℕ) → wants ≡ 0 → ◌≡◌ {A = Result (List ℕ) Fault} (Ok []) (Ok vs) → ValuesFound n before wants l vs
none_found n before wants l vs empty e =
    let same : [] ≡ vs = cc in
    record { steps = []; fit = tt; give = same; size = ap length (sym same) ∙ sym empty; rest = l; is = refl }

pub values_found : (turns n before wants : ℕ) (l : List Bool) (vs : List ℕ) → wants ≤ turns → values_at turns n before wants l ≡ Ok vs → ValuesFound n before wants l vs
values_found zero n before wants l vs enough e = none_found n before wants l vs (omega arith) e
values_found (suc turns) n before wants l vs enough e =
    let next = λ (s : Found). values_at turns n s.value (wants - s.count) s.rest >>= with_found s in
    elim (chosen (eqb wants 0) (Ok []) (step_at n before wants l >>= next) (Ok vs) e) [
      | inl ended ↦ none_found n before wants l vs (eqb-true wants 0 ended.0) ended.1
      | inr on ↦
          let some : 0 < wants = elim (cases_lt 0 wants) [ inl h ↦ h | inr h ↦ absurd (eqb-false wants 0 on.0 (omega arith)) ] in
          let b = bind_ok (step_at n before wants l) next vs on.1 in
          let s = b.0 in
          let f = step_found n before wants l s some b.1 in
          let c = bind_ok (values_at turns n s.value (wants - s.count) s.rest) (with_found s) vs b.2 in
          let is_vs : replicate s.count s.value ++ c.0 ≡ vs = (let q = c.2 in cc) in
          let i = values_found turns n s.value (wants - s.count) s.rest c.0 (omega (arith, f.count)) c.1 in
          let k = run_length f.step.run in
          let gives : given n before (f.step ∷ i.steps) ≡ vs =
          ap (λ x. replicate (suc k) x ++ given n x i.steps) f.value ∙ ap (λ m. replicate (suc k) s.value ++ m) i.give
          ∙ ap (λ m. replicate m s.value ++ c.0) (sym f.count) ∙ is_vs in
          let size : length vs ≡ wants = omega (arith, ap length is_vs, length-append (replicate s.count s.value) c.0, length-replicate s.count s.value, i.size, f.inside) in
          elim (cases_lt 1 wants) [
            | inl many ↦
                let w = words n (wants - suc k) i.steps in
                record {
                  steps = f.step ∷ i.steps;
                  fit = (f.fits.0, f.fits.1, i.fit);
                  give = gives;
                  size = size;
                  rest = i.rest;
                  is = f.more many
                      ∙ ap (λ m. difference_word n f.step.difference ++ (run_word f.step.run ++ m)) (i.is ∙ ap (λ c. words n (wants - c) i.steps ++ i.rest) f.count)
                      ∙ ap (λ m. difference_word n f.step.difference ++ m) (sym (append_assoc (run_word f.step.run) w i.rest))
                      ∙ sym (append_assoc (difference_word n f.step.difference) (run_word f.step.run ++ w) i.rest)
                      ∙ ap (λ m. m ++ i.rest) (sym (words_more n wants f.step i.steps many));
                }
            | inr few ↦ record {
              steps = f.step ∷ i.steps;
              fit = (f.fits.0, f.fits.1, i.fit);
              give = gives;
              size = size;
              rest = s.rest;
              is = f.last few ∙ ap (λ m. m ++ s.rest) (sym (words_last n wants f.step i.steps few));
            }
          ]
    ]

-- ---- whole data

pub alpha_again : (n : ℕ) (l : List Bool) (values : List ℕ) → Stands l values n → alpha_at (length values) n l ≡ Ok values
unfolding alpha_at
alpha_again n [] values t = ap Ok (sym t)
alpha_again n (b ∷ l) values t =
    ap (values_at (length values) n (greatest n) (length values)) t.is
    ∙ values_again (length values) n (greatest n) (length values) t.steps values t.rest (omega arith) t.fit t.give refl

pub alpha_found : (n count : ℕ) (l : List Bool) (values : List ℕ) → alpha_at count n l ≡ Ok values → (length values ≡ count) × Stands l values n
unfolding alpha_at
alpha_found n count [] values e =
    let same : replicate count (greatest n) ≡ values = cc in
    let size : length values ≡ count = ap length (sym same) ∙ length-replicate count (greatest n) in
    (size, sym same ∙ ap (λ m. replicate m (greatest n)) (sym size))
alpha_found n count (b ∷ l) values e =
    let f = values_found count n (greatest n) count (b ∷ l) values (omega arith) e in
    let s : StepsStand (b ∷ l) values n = record {
      steps = f.steps;
      fit = f.fit;
      give = f.give;
      rest = f.rest;
      is = f.is ∙ ap (λ m. words n m f.steps ++ f.rest) (sym f.size);
    } in
    (f.size, s)

pub one_reading : (n : ℕ) (l : List Bool) (a b : List ℕ) → length b ≡ length a → Stands l a n → Stands l b n → a ≡ b
one_reading n l a b e x y =
    let p = alpha_again n l a x in
    let q : alpha_at (length a) n l ≡ Ok b = subst (λ m. alpha_at m n l ≡ Ok b) e (alpha_again n l b y) in
    cc

values_or_fault_of : (n count : ℕ) (l : List Bool) (r : Result (List ℕ) Fault) → alpha_at count n l ≡ r →
    ((values : List ℕ) × (length values ≡ count) × Stands l values n) ⊎ ((fault : Fault) × (alpha_at count n l ≡ Err fault))
values_or_fault_of n count l (Ok values) e = let f = alpha_found n count l values e in inl (values, f.0, f.1)
values_or_fault_of n count l (Err fault) e = inr (fault, e)

pub values_or_fault : (n count : ℕ) (l : List Bool) → ((values : List ℕ) × (length values ≡ count) × Stands l values n) ⊎ ((fault : Fault) × (alpha_at count n l ≡ Err fault))
values_or_fault n count l = values_or_fault_of n count l (alpha_at count n l) refl

pub not_both : (n : ℕ) (l : List Bool) (a : List ℕ) (fault : Fault) → Stands l a n → alpha_at (length a) n l ≡ Err fault → ⊥
not_both n l a fault x e = let p = alpha_again n l a x in cc
