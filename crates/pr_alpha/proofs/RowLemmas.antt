-- The canonical coding of values, row by row.
use Rattle.std.proofs.Common.{◌≡◌, ℕ, suc, ◌+◌, ◌-◌, ◌*◌, ◌%◌, ◌^◌, ◌<◌, ◌≤◌, ◌⊎◌, ◌&&◌, inl, inr, Bool, true, false, cond, eqb, ltb, leb, List, [], ◌∷◌, ◌++◌, length, replicate, refl, ap, sym, ◌∙◌, subst, arith, append_assoc, length-append, IsTrue}
use Rattle.std.proofs.lemmas.Bool.{cases_lt, cases_eq, cases_Bool, or_cases, and_parts, and_left, and_right, ltb-true, leb-true, leb-false, le-leb, lt-leb, ne_eqb, eq-eqb, eqb-true, lt-ltb, le-ltb}
use Rattle.std.proofs.lemmas.List.{length-replicate}
use Rattle.pw_bits.specs.Bits.{bits_of, bits, padding, bytes}
use Rattle.std.proofs.lemmas.Nat.{mod_below}
use Rattle.std.proofs.Math.Nat.{mul-le-mul_left}
use Rattle.pw_bits.proofs.BitsLemmas.{length-bits_of, bits-bytes, bits_of-one, bits_of_small, pow_suc}
use Rattle.pw_bits.proofs.SpelledLemmas.{length_of_bits}
use Rattle.pr_alpha.proofs.StepLemmas.{bit, short_bits, words_more, words_last}
use Rattle.pr_alpha.specs.Alpha.{Difference, long, short, Run, none, brief, wide, Step, is_width, short_size, greatest, difference_word, run_word, moved, run_length, FitsDifference, FitsRun, AreSteps, given, words, StepsStand, Stands, Same, joined, rows, ahead, difference_of, run_of, row_words, rows_words, spelling, alpha, AreBelow}

-- a width is one of two
pub widths : (n : ℕ) → IsTrue (is_width n) → (n ≡ 8) ⊎ (n ≡ 16)
widths n h = elim (or_cases (eqb n 8) (eqb n 16) h) [ inl a ↦ inl (eqb-true n 8 a) | inr b ↦ inr (eqb-true n 16 b) ]

-- ---- the coding of a difference

-- the three codings, by the difference
pub difference_cases : (n before v : ℕ) (Q : Difference → Type 0) →
    (0 < ahead n before v → ahead n before v ≤ 2 ^ short_size n → Q (short (ahead n before v - 1) false)) →
    (2 ^ n ≤ ahead n before v + 2 ^ short_size n → Q (short (2 ^ n - ahead n before v - 1) true)) → Q (long (ahead n before v)) →
    Q (difference_of n before v)
unfolding difference_of
difference_cases n before v Q ahead_short behind_short else_long =
    let d = ahead n before v in
    let most = 2 ^ short_size n in
    elim (cases_Bool (ltb 0 d && leb d most)) [
      | inl on ↦
          let p = and_parts (ltb 0 d) (leb d most) on in
          rw on (ahead_short (ltb-true 0 d p.0) (leb-true d most p.1))
      | inr off ↦ elim (cases_Bool (leb (2 ^ n) (d + most))) [
        | inl behind ↦ rw (off, behind) (behind_short (leb-true (2 ^ n) (d + most) behind))
        | inr far ↦ rw (off, far) else_long
      ]
    ]

pub record Moves (n before v : ℕ) (d : Difference) : Type 0 where
  pub fits : FitsDifference n d
  pub gives : moved n before d ≡ v

moves_8 : (before v : ℕ) → before < 2 ^ 8 → v < 2 ^ 8 → Moves 8 before v (difference_of 8 before v)
moves_8 before v h k = difference_cases 8 before v (Moves 8 before v)
    (λ some few. record { fits = omega arith; gives = omega arith })
    (λ few. record { fits = omega arith; gives = omega arith })
    (record { fits = omega arith; gives = omega arith })

moves_16 : (before v : ℕ) → before < 2 ^ 16 → v < 2 ^ 16 → Moves 16 before v (difference_of 16 before v)
moves_16 before v h k = difference_cases 16 before v (Moves 16 before v)
    (λ some few. record { fits = omega arith; gives = omega arith })
    (λ few. record { fits = omega arith; gives = omega arith })
    (record { fits = omega arith; gives = omega arith })

pub moves : (n before v : ℕ) → IsTrue (is_width n) → before < 2 ^ n → v < 2 ^ n → Moves n before v (difference_of n before v)
moves n before v w h k = elim (widths n w) [
  | inl e ↦
      subst (λ m. Moves m before v (difference_of m before v)) (sym e) (moves_8 before v (subst (λ m. before < 2 ^ m) e h) (subst (λ m. v < 2 ^ m) e k))
  | inr e ↦
      subst (λ m. Moves m before v (difference_of m before v)) (sym e) (moves_16 before v (subst (λ m. before < 2 ^ m) e h) (subst (λ m. v < 2 ^ m) e k))
]

-- ---- the coding of a run

pub run_cases : (k : ℕ) (Q : Run → Type 0) → (k ≡ 0 → Q none) → (0 < k → k ≤ 15 → Q (brief k)) → (15 < k → Q (wide k)) → Q (run_of k)
unfolding run_of
run_cases k Q nothing few many = elim (cases_eq k 0) [
  | inl e ↦ rw (eq-eqb k 0 e) (nothing e)
  | inr ne ↦ elim (cases_Bool (leb k 15)) [
    | inl le ↦ rw (ne_eqb k 0 ne, le) (few (elim (cases_lt 0 k) [ inl h ↦ h | inr h ↦ absurd (ne (omega arith)) ]) (leb-true k 15 le))
    | inr gt ↦ rw (ne_eqb k 0 ne, gt) (many (leb-false k 15 gt))
  ]
]

pub record Runs (k : ℕ) (r : Run) : Type 0 where
  pub fits : FitsRun r
  pub gives : run_length r ≡ k

pub run_is : (k : ℕ) → k < 2 ^ 11 → Runs k (run_of k)
run_is k h = run_cases k (Runs k)
    (λ e. record { fits = tt; gives = sym e })
    (λ some few. record { fits = (some, omega arith); gives = refl })
    (λ many. record { fits = h; gives = refl })

-- ---- rows

-- the values of rows
abbrev pub expanded : List Same → List ℕ
expanded [] = []
expanded (s ∷ ss) = replicate (suc s.further) s.value ++ expanded ss

expanded-joined : (v : ℕ) (ss : List Same) → expanded (joined v ss) ≡ v ∷ expanded ss
expanded-joined v [] = refl
expanded-joined v (s ∷ ss) = elim (cases_Bool (eqb v s.value)) [
  | inl on ↦
      rw on (ap (λ x. v ∷ (v ∷ replicate s.further x) ++ expanded ss) (eqb-true v s.value on)
      ∙ ap (λ x. v ∷ x ∷ (replicate s.further s.value ++ expanded ss)) (eqb-true v s.value on))
  | inr off ↦ rw off refl
]

pub expanded-rows : (vs : List ℕ) → expanded (rows vs) ≡ vs
expanded-rows [] = refl
expanded-rows (v ∷ vs) = expanded-joined v (rows vs) ∙ ap (λ l. v ∷ l) (expanded-rows vs)

-- the rows' values are below 2^n, and the rows are short
abbrev AreRows : ℕ → List Same → Type 0
AreRows n [] = Unit {0}
AreRows n (s ∷ ss) = (s.value < 2 ^ n) × (s.further < 2 ^ 11) × AreRows n ss

below_behind : (n : ℕ) (a b : List ℕ) → AreBelow n (a ++ b) → AreBelow n b
below_behind n [] b h = h
below_behind n (x ∷ a) b h = below_behind n a b (λ i. h (suc i))

rows_below : (n : ℕ) (ss : List Same) → length (expanded ss) ≤ 2048 → AreBelow n (expanded ss) → AreRows n ss
rows_below n [] few below = tt
rows_below n (s ∷ ss) few below =
    let size = length-append (replicate (suc s.further) s.value) (expanded ss) in
    let one = length-replicate (suc s.further) s.value in
    (below 0, omega (arith, size, one), rows_below n ss (omega (arith, size, one)) (below_behind n (replicate (suc s.further) s.value) (expanded ss) below))

-- ---- the steps that are written

steps_of : ℕ → ℕ → List Same → List Step
steps_of n before [] = []
steps_of n before (s ∷ ss) = record { difference = difference_of n before s.value; run = run_of s.further } ∷ steps_of n s.value ss

record Spelled (n before : ℕ) (ss : List Same) : Type 0 where
  pub steps : List Step
  pub fit : AreSteps n steps
  pub give : given n before steps ≡ expanded ss
  pub rest : List Bool
  pub is : rows_words n before ss ≡ words n (length (expanded ss)) steps ++ rest

spelled : (n before : ℕ) (ss : List Same) → IsTrue (is_width n) → before < 2 ^ n → AreRows n ss → Spelled n before ss
unfolding row_words
spelled n before [] w h fit = record { steps = []; fit = tt; give = refl; rest = []; is = refl }
spelled n before (s ∷ ss) w h fit =
    let d = difference_of n before s.value in
    let r = run_of s.further in
    let m = moves n before s.value w h fit.0 in
    let k = run_is s.further fit.1 in
    let i = spelled n s.value ss w fit.0 fit.2 in
    let step : Step = record { difference = d; run = r } in
    let row = replicate (suc s.further) s.value in
    let wants = length (row ++ expanded ss) in
    let size : wants ≡ suc s.further + length (expanded ss) = length-append row (expanded ss) ∙ ap (λ x. x + length (expanded ss)) (length-replicate (suc s.further) s.value) in
    let gives : given n before (step ∷ i.steps) ≡ row ++ expanded ss =
    ap (λ x. replicate (suc (run_length r)) x ++ given n x i.steps) m.gives ∙ ap (λ x. replicate (suc x) s.value ++ given n s.value i.steps) k.gives ∙ ap (λ l. row ++ l) i.give in
    elim (cases_lt 1 wants) [
      | inl many ↦
          let behind : wants - suc (run_length r) ≡ length (expanded ss) = omega (arith, size, k.gives) in
          record {
            steps = step ∷ i.steps;
            fit = (m.fits, k.fits, i.fit);
            give = gives;
            rest = i.rest;
            is = append_assoc (difference_word n d) (run_word r) (rows_words n s.value ss)
                ∙ ap (λ l. difference_word n d ++ (run_word r ++ l)) (i.is ∙ ap (λ x. words n x i.steps ++ i.rest) (sym behind))
                ∙ ap (λ l. difference_word n d ++ l) (sym (append_assoc (run_word r) (words n (wants - suc (run_length r)) i.steps) i.rest))
                ∙ sym (append_assoc (difference_word n d) (run_word r ++ words n (wants - suc (run_length r)) i.steps) i.rest)
                ∙ ap (λ l. l ++ i.rest) (sym (words_more n wants step i.steps many));
          }
      | inr few ↦ record {
        steps = step ∷ i.steps;
        fit = (m.fits, k.fits, i.fit);
        give = gives;
        rest = run_word r ++ rows_words n s.value ss;
        is = append_assoc (difference_word n d) (run_word r) (rows_words n s.value ss)
            ∙ ap (λ l. l ++ (run_word r ++ rows_words n s.value ss)) (sym (words_last n wants step i.steps few));
      }
    ]

some_bits : (n : ℕ) (d : Difference) → 0 < length (difference_word n d)
some_bits n (long d) = omega arith
some_bits n (short m s) = omega arith

-- bits that begin with steps aren't none
no_bits : (n : ℕ) (values : List ℕ) (steps : List Step) (rest : List Bool) → 0 < length values → given n (greatest n) steps ≡ values → [] ≡ words n (length values) steps ++ rest → ⊥
no_bits n values [] rest some give e = absurd (omega (arith, ap length give))
no_bits n values (s ∷ ss) rest some give e =
    let wants = length values in
    let w = cond (ltb 1 wants) (run_word s.run ++ words n (wants - suc (run_length s.run)) ss) [] in
    absurd (omega (arith, some_bits n s.difference, ap length e, length-append (difference_word n s.difference ++ w) rest, length-append (difference_word n s.difference) w))

greatest_below : (n : ℕ) → IsTrue (is_width n) → greatest n < 2 ^ n
greatest_below n w = elim (widths n w) [ inl e ↦ rw e (omega arith) | inr e ↦ rw e (omega arith) ]

stands_of : (n : ℕ) (l : List Bool) (values : List ℕ) → 0 < length values → StepsStand l values n → Stands l values n
stands_of n [] values some t = absurd (no_bits n values t.steps t.rest some t.give t.is)
stands_of n (b ∷ l) values some t = t

pub stands_again : (n : ℕ) (values : List ℕ) → IsTrue (is_width n) → 0 < length values → length values ≤ 2048 → AreBelow n values → Stands (bits (alpha n values)) values n
unfolding alpha spelling
stands_again n values w some few below =
    let e = expanded-rows values in
    let fit = rows_below n (rows values) (omega (arith, ap length e)) (subst (AreBelow n) (sym e) below) in
    let s = spelled n (greatest n) (rows values) w (greatest_below n w) fit in
    let l = rows_words n (greatest n) (rows values) in
    stands_of n (bits (bytes l)) values some (record {
      steps = s.steps;
      fit = s.fit;
      give = s.give ∙ e;
      rest = s.rest ++ padding l;
      is = bits-bytes l ∙ ap (λ x. x ++ padding l) (s.is ∙ ap (λ m. words n m s.steps ++ s.rest) (ap length e)) ∙ append_assoc (words n (length values) s.steps) s.rest (padding l);
    })

-- ---- lengths of codewords

small_short : (n : ℕ) → IsTrue (is_width n) → short_size n + 2 ≤ n + 1
small_short n w = elim (widths n w) [ inl e ↦ rw e (omega arith) | inr e ↦ rw e (omega arith) ]

difference_cost : (n : ℕ) (d : Difference) → IsTrue (is_width n) → length (difference_word n d) ≤ n + 1
difference_cost n (long d) w = omega (arith, length-bits_of n d)
difference_cost n (short m s) w =
    let k : short_size n + 2 ≤ n + 1 = small_short n w in
    omega (arith, length-append (bits_of (short_size n) m) (s ∷ []), length-bits_of (short_size n) m)

run_cost : (r : Run) → length (run_word r) ≤ 16
run_cost none = omega arith
run_cost (brief k) = omega arith
run_cost (wide k) = omega arith

rows_cost : (n before : ℕ) (ss : List Same) → IsTrue (is_width n) → length (rows_words n before ss) ≤ (n + 17) * length ss
unfolding row_words
rows_cost n before [] w = omega arith
rows_cost n before (s ∷ ss) w =
    let d = difference_word n (difference_of n before s.value) in
    let r = run_word (run_of s.further) in
    let e : (n + 17) * suc (length ss) ≡ (n + 17) * length ss + (n + 17) = omega arith in
    omega (arith, e, length-append (d ++ r) (rows_words n s.value ss), length-append d r, difference_cost n (difference_of n before s.value) w, run_cost (run_of s.further), rows_cost n s.value ss w)

fewer_joined : (v : ℕ) (ss : List Same) → length (joined v ss) ≤ suc (length ss)
fewer_joined v [] = omega arith
fewer_joined v (s ∷ ss) = elim (cases_Bool (eqb v s.value)) [ inl on ↦ rw on (omega arith) | inr off ↦ rw off (omega arith) ]

fewer_rows : (vs : List ℕ) → length (rows vs) ≤ length vs
fewer_rows [] = omega arith
fewer_rows (v ∷ vs) = omega (arith, fewer_joined v (rows vs), fewer_rows vs)

length-bytes : (l : List Bool) → 8 * length (bytes l) ≤ length l + 7
length-bytes l = omega (arith, length_of_bits (bytes l), ap length (bits-bytes l), length-append l (padding l), length-replicate ((8 - length l % 8) % 8) false)

pub alpha_cost : (n : ℕ) (values : List ℕ) → IsTrue (is_width n) → 8 * length (alpha n values) ≤ (n + 17) * length values + 7
unfolding alpha spelling
alpha_cost n values w =
    let le : (n + 17) * length (rows values) ≤ (n + 17) * length values = mul-le-mul_left (n + 17) (fewer_rows values) in
    omega (arith, le, rows_cost n (greatest n) (rows values) w, length-bytes (rows_words n (greatest n) (rows values)))

pub alpha_few : (n : ℕ) (values : List ℕ) → IsTrue (is_width n) → length values ≤ 2 ^ 11 → length (alpha n values) < 2 ^ 32
alpha_few n values w few =
    let cost = alpha_cost n values w in
    elim (widths n w) [
      | inl e ↦ (let c : 8 * length (alpha n values) ≤ 25 * length values + 7 = subst (λ m. 8 * length (alpha n values) ≤ (m + 17) * length values + 7) e cost in omega arith)
      | inr e ↦ (let c : 8 * length (alpha n values) ≤ 33 * length values + 7 = subst (λ m. 8 * length (alpha n values) ≤ (m + 17) * length values + 7) e cost in omega arith)
    ]

-- ---- codewords as numbers

cond_bit : (b : Bool) → cond b 1 0 < 2
cond_bit true = omega arith
cond_bit false = omega arith

bit_is : (b : Bool) → cond b 1 0 ≡ bit b
bit_is true = refl
bit_is false = refl

pub long_word : (n d : ℕ) → d < 2 ^ n → bits_of (suc n) (1 * 2 ^ n + d) ≡ difference_word n (long d)
long_word n d h = bits_of-one n 1 d h true refl

pub short_word : (n m d : ℕ) (b : Bool) → m < 2 ^ short_size n → d ≡ 2 * m + cond b 1 0 → bits_of (short_size n + 2) d ≡ difference_word n (short m b)
short_word n m d b h e =
    let s = short_size n in
    let p : 2 ^ (s + 1) ≡ 2 ^ s + 2 ^ s = ap (λ k. 2 ^ k) (let u : s + 1 ≡ suc s = omega arith in u) ∙ pow_suc s in
    let small : d < 2 ^ (s + 1) = omega (arith, e, p, cond_bit b) in
    ap (λ k. bits_of k d) (let u : s + 2 ≡ 1 + (s + 1) = omega arith in u) ∙ bits_of_small 1 (s + 1) d small
    ∙ ap (λ l. false ∷ l) (short_bits s m b d (e ∙ ap (λ x. 2 * m + x) (bit_is b)))

pub word_none : (k : ℕ) → k ≡ 0 → bits_of 1 1 ≡ run_word (run_of k)
unfolding run_of
word_none k e = rw (eq-eqb k 0 e) refl

pub word_brief : (k : ℕ) → 0 < k → k ≤ 15 → bits_of 5 k ≡ run_word (run_of k)
unfolding run_of
word_brief k some few =
    let ne : eqb k 0 ≡ false = ne_eqb k 0 (λ e. omega arith) in
    rw (ne, le-leb k 15 few) (bits_of_small 1 4 k (omega arith))

pub word_wide : (k : ℕ) → 15 < k → k < 2 ^ 11 → bits_of 16 k ≡ run_word (run_of k)
unfolding run_of
word_wide k many small =
    let ne : eqb k 0 ≡ false = ne_eqb k 0 (λ e. omega arith) in
    rw (ne, lt-leb k 15 many) (bits_of_small 5 11 k small)

-- ---- the machine's numbers

-- 2^n as the machine makes it
power_is : (n : ℕ) → IsTrue (is_width n) → 1 * 2 ^ n % 4294967296 ≡ 2 ^ n
power_is n w = elim (widths n w) [
  | inl e ↦ subst (λ m. 1 * 2 ^ m % 4294967296 ≡ 2 ^ m) (sym e) refl
  | inr e ↦ subst (λ m. 1 * 2 ^ m % 4294967296 ≡ 2 ^ m) (sym e) refl
]

limit_is : (n size : ℕ) → IsTrue (is_width n) → size ≡ short_size n → 1 * 2 ^ size % 4294967296 ≡ 2 ^ short_size n
limit_is n size w is = ap (λ s. 1 * 2 ^ s % 4294967296) is ∙ elim (widths n w) [
  | inl e ↦ subst (λ m. 1 * 2 ^ short_size m % 4294967296 ≡ 2 ^ short_size m) (sym e) refl
  | inr e ↦ subst (λ m. 1 * 2 ^ short_size m % 4294967296 ≡ 2 ^ short_size m) (sym e) refl
]

-- a coding for a positive difference excludes one for a negative difference
apart : (n d : ℕ) → IsTrue (is_width n) → 2 ^ n ≤ d + 2 ^ short_size n → 2 ^ short_size n < d
apart n d w h = elim (widths n w) [
  | inl e ↦ subst (λ m. 2 ^ short_size m < d) (sym e) (let k : 2 ^ 8 ≤ d + 2 ^ 3 = subst (λ m. 2 ^ m ≤ d + 2 ^ short_size m) e h in omega arith)
  | inr e ↦ subst (λ m. 2 ^ short_size m < d) (sym e) (let k : 2 ^ 16 ≤ d + 2 ^ 6 = subst (λ m. 2 ^ m ≤ d + 2 ^ short_size m) e h in omega arith)
]

-- the three codings
is_ahead : (n before v : ℕ) → 0 < ahead n before v → ahead n before v ≤ 2 ^ short_size n → difference_of n before v ≡ short (ahead n before v - 1) false
unfolding difference_of
is_ahead n before v some few = rw (lt-ltb 0 (ahead n before v) some, le-leb (ahead n before v) (2 ^ short_size n) few) refl

is_behind : (n before v : ℕ) → (ltb 0 (ahead n before v) && leb (ahead n before v) (2 ^ short_size n)) ≡ false → 2 ^ n ≤ ahead n before v + 2 ^ short_size n →
    difference_of n before v ≡ short (2 ^ n - ahead n before v - 1) true
unfolding difference_of
is_behind n before v off few = rw (off, le-leb (2 ^ n) (ahead n before v + 2 ^ short_size n) few) refl

is_far : (n before v : ℕ) → (ltb 0 (ahead n before v) && leb (ahead n before v) (2 ^ short_size n)) ≡ false → ahead n before v + 2 ^ short_size n < 2 ^ n →
    difference_of n before v ≡ long (ahead n before v)
unfolding difference_of
is_far n before v off far = rw (off, lt-leb (2 ^ n) (ahead n before v + 2 ^ short_size n) far) refl

module _ (n before v first last size : ℕ) (w : IsTrue (is_width n)) (h : before < 2 ^ n) (k : v < 2 ^ n) (first_is : first ≡ v) (last_is : last ≡ before) (size_is : size ≡ short_size n) where
  machine_ahead : (first + 1 * 2 ^ n % 4294967296 - last) % (1 * 2 ^ n % 4294967296) ≡ ahead n before v
  machine_ahead =
      ap (λ p. (first + p - last) % p) (power_is n w) ∙ ap (λ x. (x + 2 ^ n - last) % 2 ^ n) first_is ∙ ap (λ x. (v + 2 ^ n - x) % 2 ^ n) last_is

  ahead-lt : ahead n before v < 2 ^ n
  ahead-lt = mod_below (v + 2 ^ n - before) (2 ^ n) (omega arith)

  pub word_ahead : 0 < (first + 1 * 2 ^ n % 4294967296 - last) % (1 * 2 ^ n % 4294967296) → (first + 1 * 2 ^ n % 4294967296 - last) % (1 * 2 ^ n % 4294967296) ≤ 1 * 2 ^ size % 4294967296 →
      bits_of (size + 2) (2 * ((first + 1 * 2 ^ n % 4294967296 - last) % (1 * 2 ^ n % 4294967296) - 1)) ≡ difference_word n (difference_of n before v)
  word_ahead some few =
      let d = ahead n before v in
      let a = machine_ahead in
      let l = limit_is n size w size_is in
      let s : 0 < d = omega (arith, a) in
      let f : d ≤ 2 ^ short_size n = omega (arith, a, l) in
      ap (λ x. bits_of (x + 2) (2 * ((first + 1 * 2 ^ n % 4294967296 - last) % (1 * 2 ^ n % 4294967296) - 1))) size_is
      ∙ ap (λ x. bits_of (short_size n + 2) (2 * (x - 1))) a
      ∙ short_word n (d - 1) (2 * (d - 1)) false (omega arith) (omega arith)
      ∙ ap (difference_word n) (sym (is_ahead n before v s f))

  pub word_behind : 1 * 2 ^ n % 4294967296 ≤ (first + 1 * 2 ^ n % 4294967296 - last) % (1 * 2 ^ n % 4294967296) + 1 * 2 ^ size % 4294967296 →
      bits_of (size + 2) (2 * (1 * 2 ^ n % 4294967296 - (first + 1 * 2 ^ n % 4294967296 - last) % (1 * 2 ^ n % 4294967296) - 1) + 1) ≡ difference_word n (difference_of n before v)
  word_behind few =
      let d = ahead n before v in
      let a = machine_ahead in
      let p = power_is n w in
      let l = limit_is n size w size_is in
      let f : 2 ^ n ≤ d + 2 ^ short_size n = omega (arith, a, l, p) in
      let over = apart n d w f in
      let lt = ahead-lt in
      let m = 2 ^ n - d - 1 in
      ap (λ x. bits_of (x + 2) (2 * (1 * 2 ^ n % 4294967296 - (first + 1 * 2 ^ n % 4294967296 - last) % (1 * 2 ^ n % 4294967296) - 1) + 1)) size_is
      ∙ ap (λ x. bits_of (short_size n + 2) (2 * (1 * 2 ^ n % 4294967296 - x - 1) + 1)) a
      ∙ ap (λ x. bits_of (short_size n + 2) (2 * (x - d - 1) + 1)) p
      ∙ short_word n m (2 * m + 1) true (omega (arith, lt)) refl
      ∙ ap (difference_word n) (sym (is_behind n before v (and_right (ltb 0 d) (leb d (2 ^ short_size n)) (lt-leb d (2 ^ short_size n) over)) f))

  pub word_far : (((first + 1 * 2 ^ n % 4294967296 - last) % (1 * 2 ^ n % 4294967296) ≡ 0) ⊎ (1 * 2 ^ size % 4294967296 < (first + 1 * 2 ^ n % 4294967296 - last) % (1 * 2 ^ n % 4294967296))) →
      (first + 1 * 2 ^ n % 4294967296 - last) % (1 * 2 ^ n % 4294967296) + 1 * 2 ^ size % 4294967296 < 1 * 2 ^ n % 4294967296 →
      bits_of (n + 1) (1 * 2 ^ n % 4294967296 + (first + 1 * 2 ^ n % 4294967296 - last) % (1 * 2 ^ n % 4294967296)) ≡ difference_word n (difference_of n before v)
  word_far not_short far =
      let d = ahead n before v in
      let a = machine_ahead in
      let p = power_is n w in
      let l = limit_is n size w size_is in
      let f : d + 2 ^ short_size n < 2 ^ n = omega (arith, a, l, p) in
      let off : (ltb 0 d && leb d (2 ^ short_size n)) ≡ false = elim not_short [
        | inl nothing ↦ (let z : d ≡ 0 = omega (arith, a, nothing) in and_left (ltb 0 d) (leb d (2 ^ short_size n)) (le-ltb 0 d (omega arith)))
        | inr many ↦ (let z : 2 ^ short_size n < d = omega (arith, a, l, many) in and_right (ltb 0 d) (leb d (2 ^ short_size n)) (lt-leb d (2 ^ short_size n) z))
      ] in
      ap (λ x. bits_of (n + 1) (1 * 2 ^ n % 4294967296 + x)) a
      ∙ ap (λ x. bits_of (n + 1) (x + d)) p
      ∙ ap (λ x. bits_of x (2 ^ n + d)) (let u : n + 1 ≡ suc n = omega arith in u)
      ∙ ap (bits_of (suc n)) (let u : 2 ^ n + d ≡ 1 * 2 ^ n + d = omega arith in u)
      ∙ long_word n d (omega (arith, f))
      ∙ ap (difference_word n) (sym (is_far n before v off f))
