-- Laws of the codewords of a component.
use Rattle.std.proofs.Common.{◌≡◌, ℕ, zero, suc, ◌+◌, ◌-◌, ◌*◌, ◌/◌, ◌%◌, ◌^◌, ◌<◌, ◌≤◌, inl, inr, Bool, true, false, cond, eqb, ltb, leb, List, [], ◌∷◌, ◌++◌, length, replicate, Result, Ok, Err, refl, ap, sym, ◌∙◌, subst, arith, length-append, append_assoc, append-nil, ℤ, pos, negsuc, ◌+ℤ◌, ◌-ℤ◌, nat_abs}
use Rattle.std.proofs.lemmas.Bool.{cases_lt, leb-true, le-leb, ltb-true, lt-ltb, ne_eqb, eq-eqb, eqb-true}
use Rattle.std.proofs.lemmas.List.{length-replicate}
use Rattle.std.proofs.lemmas.Int.{ints}
use Rattle.pr_codes.specs.declared.book.Codebook.{Codebook}
use Rattle.pw_bits.specs.Bits.{zeros, bits_of}
use Rattle.pr_codes.specs.Words.{word, tail, leading, WordFault, code_at, is_book}
use Rattle.pr_codes.proofs.WordsLemmas.{IsPlain, plain, code_again, code_found, chosen, leading_all, leading_of_zeros, leading_of, parts, spelled}
use Rattle.pr_coeff.specs.Component.{folded, is_negative, turned, dc_book, run_book, level_book, dc_words, ac_words, IsSmall, AllSmall}
use Rattle.pr_coeff.specs.Reading.{unfolded, is_small, Fault, run_past, level_range, ◌>>=◌, faulty, word_at, First, first_of, first_at, firsts_at, Triple, sign_then, level_then, run_then, triple_at, no_ones, signed, with_triple, values_at}
use Rattle.pr_codes.specs.Words.{book}

-- ---- signed numbers and their codes

pub unfolded-folded : (v : ℤ) → unfolded (folded v) ≡ v
unfolded-folded (pos n) = rw (let e : 2 * n % 2 ≡ 0 = omega arith in e, let e : 2 * n / 2 ≡ n = omega arith in e) refl
unfolded-folded (negsuc n) = rw (let e : (2 * n + 1) % 2 ≡ 1 = omega arith in e, let e : (2 * n + 1) / 2 ≡ n = omega arith in e) refl

pub folded-unfolded : (c : ℕ) → folded (unfolded c) ≡ c
folded-unfolded c = elim (cases_lt 0 (c % 2)) [
  | inl odd ↦ let t : eqb (c % 2) 0 ≡ false = ne_eqb (c % 2) 0 (λ e. omega arith) in
      rw t (let e : 2 * (c / 2) + 1 ≡ c = omega arith in e)
  | inr even ↦ let t : eqb (c % 2) 0 ≡ true = eq-eqb (c % 2) 0 (omega arith) in
      rw t (let e : 2 * (c / 2) ≡ c = omega arith in e)
]

pub turned-turned : (b : Bool) (v : ℤ) → turned b (turned b v) ≡ v
turned-turned true (pos zero) = refl
turned-turned true (pos (suc n)) = refl
turned-turned true (negsuc n) = refl
turned-turned false v = refl

pub add_back : (a b : ℤ) → a +ℤ (b -ℤ a) ≡ b
add_back a b = omega (arith, ints)

pub sub_back : (a d : ℤ) → (a +ℤ d) -ℤ a ≡ d
sub_back a d = omega (arith, ints)

pub folded-le : (v : ℤ) → folded v ≤ 2 * nat_abs v
folded-le (pos n) = omega arith
folded-le (negsuc n) = omega arith

pub abs-turned : (b : Bool) (v : ℤ) → nat_abs (turned b v) ≡ nat_abs v
abs-turned true (pos zero) = refl
abs-turned true (pos (suc n)) = refl
abs-turned true (negsuc n) = refl
abs-turned false v = refl

pub abs-sub : (a b : ℤ) → nat_abs (a -ℤ b) ≤ nat_abs a + nat_abs b
abs-sub a b = omega (arith, ints)

-- ---- the codebooks

book_if : (b : Bool) (x y : Codebook) → is_book x ≡ true → is_book y ≡ true → is_book (cond b x y) ≡ true
book_if true x y p q = p
book_if false x y p q = q

pub is_book-dc : (c : ℕ) → is_book (dc_book c) ≡ true
unfolding dc_book
is_book-dc c = book_if (eqb c 0) (book 0 0 1) (cond (leb c 2) (book 0 1 2) (cond (leb c 4) (book 1 2 3) (book 0 3 4))) refl (book_if (leb c 2) (book 0 1 2) (cond (leb c 4) (book 1 2 3) (book 0 3 4)) refl (book_if (leb c 4) (book 1 2 3) (book 0 3 4) refl refl))

pub plain_dc : (c : ℕ) → IsPlain (dc_book c)
plain_dc c = plain (dc_book c) (is_book-dc c)

pub is_book-run : (c : ℕ) → is_book (run_book c) ≡ true
unfolding run_book
is_book-run c = book_if (leb c 1) (book 2 0 1) (cond (leb c 3) (book 1 0 1) (cond (eqb c 4) (book 0 0 1) (cond (leb c 8) (book 1 1 2) (cond (leb c 14) (book 0 1 2) (book 0 2 3))))) refl (book_if (leb c 3) (book 1 0 1) (cond (eqb c 4) (book 0 0 1) (cond (leb c 8) (book 1 1 2) (cond (leb c 14) (book 0 1 2) (book 0 2 3)))) refl (book_if (eqb c 4) (book 0 0 1) (cond (leb c 8) (book 1 1 2) (cond (leb c 14) (book 0 1 2) (book 0 2 3))) refl (book_if (leb c 8) (book 1 1 2) (cond (leb c 14) (book 0 1 2) (book 0 2 3)) refl (book_if (leb c 14) (book 0 1 2) (book 0 2 3) refl refl))))

pub plain_run : (c : ℕ) → IsPlain (run_book c)
plain_run c = plain (run_book c) (is_book-run c)

pub is_book-level : (c : ℕ) → is_book (level_book c) ≡ true
unfolding level_book
is_book-level c = book_if (leb c 1) (book 2 0 2) (cond (eqb c 2) (book 1 0 1) (cond (eqb c 3) (book 2 0 1) (cond (eqb c 4) (book 0 0 1) (cond (leb c 8) (book 0 1 2) (book 0 2 3))))) refl (book_if (eqb c 2) (book 1 0 1) (cond (eqb c 3) (book 2 0 1) (cond (eqb c 4) (book 0 0 1) (cond (leb c 8) (book 0 1 2) (book 0 2 3)))) refl (book_if (eqb c 3) (book 2 0 1) (cond (eqb c 4) (book 0 0 1) (cond (leb c 8) (book 0 1 2) (book 0 2 3))) refl (book_if (eqb c 4) (book 0 0 1) (cond (leb c 8) (book 0 1 2) (book 0 2 3)) refl (book_if (leb c 8) (book 0 1 2) (book 0 2 3) refl refl))))

pub plain_level : (c : ℕ) → IsPlain (level_book c)
plain_level c = plain (level_book c) (is_book-level c)

pub plain_first : IsPlain (book 0 5 6)
plain_first = plain (book 0 5 6) refl

-- ---- steps that may fail

pub bind_ok : {A B : Type 0} (r : Result A Fault) (f : A → Result B Fault) (y : B) → (r >>= f) ≡ Ok y → (x : A) × (r ≡ Ok x) × (f x ≡ Ok y)
bind_ok (Ok x) f y e = (x, refl, e)
bind_ok (Err d) f y e = absurd (cc)

pub faulty_ok : {A : Type 0} (r : Result A WordFault) (x : A) → faulty r ≡ Ok x → r ≡ Ok x
faulty_ok (Ok y) x e = cc
faulty_ok (Err d) x e = absurd (cc)

-- ---- the first values

diff_small : (neg : Bool) (d last : ℤ) → IsSmall d → IsSmall last → folded (turned neg (d -ℤ last)) ≤ 2 ^ 20
diff_small neg d last h k = omega (arith, folded-le (turned neg (d -ℤ last)), abs-turned neg (d -ℤ last), abs-sub d last)

pub first_again : (last : ℤ) (neg : Bool) (code : ℕ) (d : ℤ) (rest : List Bool) → IsSmall last → IsSmall d →
    first_at last neg code (word (dc_book code) (folded (turned neg (d -ℤ last))) ++ rest)
    ≡ Ok (record { value = d; negative = is_negative (d -ℤ last); code = folded (turned neg (d -ℤ last)); rest = rest })
unfolding first_at
first_again last neg code d rest h k =
    let c = folded (turned neg (d -ℤ last)) in
    let r : code_at (dc_book code) (word (dc_book code) c ++ rest) ≡ Ok (c, rest) = code_again (dc_book code) c rest (plain_dc code) (diff_small neg d last k h) in
    let u : turned neg (unfolded c) ≡ d -ℤ last = ap (turned neg) (unfolded-folded (turned neg (d -ℤ last))) ∙ turned-turned neg (d -ℤ last) in
    let s : leb (nat_abs d) 32767 ≡ true = le-leb (nat_abs d) 32767 k in
    ap (λ w. faulty w >>= first_of last neg) r ∙ rw (u, add_back last d, s) refl

pub firsts_again : (k : ℕ) (last : ℤ) (neg : Bool) (code : ℕ) (ds : List ℤ) (rest : List Bool) → IsSmall last → length ds ≡ k → AllSmall ds →
    firsts_at k last neg code (dc_words last neg code ds ++ rest) ≡ Ok (ds, rest)
firsts_again zero last neg code [] rest h l a = refl
firsts_again zero last neg code (d ∷ ds) rest h l a = absurd (omega (arith, l))
firsts_again (suc k) last neg code [] rest h l a = absurd (omega (arith, l))
firsts_again (suc k) last neg code (d ∷ ds) rest h l a =
    let c = folded (turned neg (d -ℤ last)) in
    let n = is_negative (d -ℤ last) in
    let again = firsts_again k d n c ds rest a.0 (omega (arith, l)) a.1 in
    ap (firsts_at (suc k) last neg code) (append_assoc (word (dc_book code) c) (dc_words d n c ds) rest)
    ∙ rw (first_again last neg code d (dc_words d n c ds ++ rest) h a.0, again) refl

pub record IsFirst (last : ℤ) (neg : Bool) (code : ℕ) (l : List Bool) (r : First) : Type 0 where
  pub small : IsSmall r.value
  pub coded : r.code ≡ folded (turned neg (r.value -ℤ last))
  pub sign : r.negative ≡ is_negative (r.value -ℤ last)
  pub word_is : l ≡ word (dc_book code) r.code ++ r.rest

first_parts : {E : Type 0} (a b : First) → ◌≡◌ {A = Result First E} (Ok a) (Ok b) → a ≡ b
first_parts a b e = cc

pub first_found : (last : ℤ) (neg : Bool) (code : ℕ) (l : List Bool) (r : First) → first_at last neg code l ≡ Ok r → IsFirst last neg code l r
unfolding first_at
first_found last neg code l r e =
    let b = bind_ok (word_at (dc_book code) l) (first_of last neg) r e in
    let w = code_found (dc_book code) l b.0.0 b.0.1 (faulty_ok (code_at (dc_book code) l) b.0 b.1) in
    let diff = turned neg (unfolded b.0.0) in
    let v = last +ℤ diff in
    elim (chosen (is_small v) (Ok (record { value = v; negative = is_negative diff; code = b.0.0; rest = b.0.1 })) (Err level_range) (Ok r) b.2) [
      | inl fits ↦
          let same = first_parts (record { value = v; negative = is_negative diff; code = b.0.0; rest = b.0.1 }) r fits.1 in
          let d : v -ℤ last ≡ diff = sub_back last diff in
          let c : b.0.0 ≡ folded (turned neg (v -ℤ last)) = sym (ap (λ x. folded (turned neg x)) d ∙ ap folded (turned-turned neg (unfolded b.0.0)) ∙ folded-unfolded b.0.0) in
          let all : IsFirst last neg code l (record { value = v; negative = is_negative diff; code = b.0.0; rest = b.0.1 }) =
          record { small = leb-true (nat_abs v) 32767 fits.0; coded = c; sign = ap is_negative (sym d); word_is = w.1 } in
          subst (IsFirst last neg code l) same all
      | inr over ↦ absurd (cc)
    ]

pub record AreFirsts (k : ℕ) (last : ℤ) (neg : Bool) (code : ℕ) (l : List Bool) (ds : List ℤ) (rest : List Bool) : Type 0 where
  pub count : length ds ≡ k
  pub small : AllSmall ds
  pub words_are : l ≡ dc_words last neg code ds ++ rest

pub firsts_end : {E : Type 0} (a b : List ℤ × List Bool) → ◌≡◌ {A = Result (List ℤ × List Bool) E} (Ok a) (Ok b) → a ≡ b
firsts_end a b e = cc

pub firsts_found : (k : ℕ) (last : ℤ) (neg : Bool) (code : ℕ) (l : List Bool) (o : List ℤ × List Bool) →
    firsts_at k last neg code l ≡ Ok o → AreFirsts k last neg code l o.0 o.1
firsts_found zero last neg code l o e =
    subst (λ (q : List ℤ × List Bool). AreFirsts zero last neg code l q.0 q.1) (firsts_end ([], l) o e) (record { count = refl; small = tt; words_are = refl })
firsts_found (suc k) last neg code l o e =
    let f = λ (d : First). firsts_at k d.value d.negative d.code d.rest >>= λ ds. Ok (d.value ∷ ds.0, ds.1) in
    let b = bind_ok (first_at last neg code l) f o e in
    let d = b.0 in
    let g = λ (ds : List ℤ × List Bool). (let q : Result (List ℤ × List Bool) Fault = Ok (d.value ∷ ds.0, ds.1) in q) in
    let b2 = bind_ok (firsts_at k d.value d.negative d.code d.rest) g o b.2 in
    let w = first_found last neg code l d b.1 in
    let i = firsts_found k d.value d.negative d.code d.rest b2.0 b2.1 in
    let words : d.rest ≡ dc_words d.value (is_negative (d.value -ℤ last)) (folded (turned neg (d.value -ℤ last))) b2.0.0 ++ b2.0.1 =
    i.words_are ∙ ap (λ n. dc_words d.value n d.code b2.0.0 ++ b2.0.1) w.sign ∙ ap (λ c. dc_words d.value (is_negative (d.value -ℤ last)) c b2.0.0 ++ b2.0.1) w.coded in
    let c = folded (turned neg (d.value -ℤ last)) in
    let all : AreFirsts (suc k) last neg code l (d.value ∷ b2.0.0) b2.0.1 = record {
      count = ap suc i.count;
      small = (w.small, i.small);
      words_are = w.word_is ∙ ap (λ c. word (dc_book code) c ++ d.rest) w.coded ∙ ap (λ m. word (dc_book code) c ++ m) words
          ∙ sym (append_assoc (word (dc_book code) c) (dc_words d.value (is_negative (d.value -ℤ last)) c b2.0.0) b2.0.1);
    } in
    subst (λ (q : List ℤ × List Bool). AreFirsts (suc k) last neg code l q.0 q.1) (firsts_end (d.value ∷ b2.0.0, b2.0.1) o b2.2) all

-- ---- the other values

pub triple_again : (room run magnitude k m : ℕ) (s : Bool) (rest : List Bool) → k < room → room ≤ 2 ^ 20 → m < 32767 →
    triple_at room run magnitude (word (run_book run) k ++ (word (level_book magnitude) m ++ s ∷ rest))
    ≡ Ok (record { run = k; level = m; negative = s; rest = rest })
unfolding triple_at
triple_again room run magnitude k m s rest h g j =
    let level = word (level_book magnitude) m ++ s ∷ rest in
    let r = code_again (run_book run) k level (plain_run run) (omega arith) in
    let q = code_again (level_book magnitude) m (s ∷ rest) (plain_level magnitude) (omega arith) in
    ap (λ w. faulty w >>= run_then room magnitude) r
    ∙ rw (lt-ltb k room h) (ap (λ w. faulty w >>= level_then k) q ∙ rw (lt-ltb m 32767 j) refl)

pub record IsTriple (room run magnitude : ℕ) (l : List Bool) (t : Triple) : Type 0 where
  pub inside : t.run < room
  pub small : t.level < 32767
  pub words_are : l ≡ word (run_book run) t.run ++ (word (level_book magnitude) t.level ++ t.negative ∷ t.rest)

triple_parts : {E : Type 0} (a b : Triple) → ◌≡◌ {A = Result Triple E} (Ok a) (Ok b) → a ≡ b
triple_parts a b e = cc

record IsSign (run level : ℕ) (l : List Bool) (t : Triple) : Type 0 where
  of_run : t.run ≡ run
  of_level : t.level ≡ level
  sign_is : l ≡ t.negative ∷ t.rest

sign_found : (run level : ℕ) (l : List Bool) (t : Triple) → sign_then run level l ≡ Ok t → IsSign run level l t
sign_found run level [] t e = absurd (cc)
sign_found run level (b ∷ l) t e =
    subst (IsSign run level (b ∷ l)) (triple_parts (record { run = run; level = level; negative = b; rest = l }) t e) (record { of_run = refl; of_level = refl; sign_is = refl })

pub triple_found : (room run magnitude : ℕ) (l : List Bool) (t : Triple) → triple_at room run magnitude l ≡ Ok t → IsTriple room run magnitude l t
unfolding triple_at
triple_found room run magnitude l t e =
    let b = bind_ok (word_at (run_book run) l) (run_then room magnitude) t e in
    let w = code_found (run_book run) l b.0.0 b.0.1 (faulty_ok (code_at (run_book run) l) b.0 b.1) in
    elim (chosen (ltb b.0.0 room) (word_at (level_book magnitude) b.0.1 >>= level_then b.0.0) (Err run_past) (Ok t) b.2) [
      | inl fits ↦
          let b2 = bind_ok (word_at (level_book magnitude) b.0.1) (level_then b.0.0) t fits.1 in
          let w2 = code_found (level_book magnitude) b.0.1 b2.0.0 b2.0.1 (faulty_ok (code_at (level_book magnitude) b.0.1) b2.0 b2.1) in
          elim (chosen (ltb b2.0.0 32767) (sign_then b.0.0 b2.0.0 b2.0.1) (Err level_range) (Ok t) b2.2) [
            | inl small ↦
                let s = sign_found b.0.0 b2.0.0 b2.0.1 t small.1 in
                record {
                  inside = omega (arith, s.of_run, ltb-true b.0.0 room fits.0);
                  small = omega (arith, s.of_level, ltb-true b2.0.0 32767 small.0);
                  words_are = w.1 ∙ ap (λ m. word (run_book run) b.0.0 ++ m) (w2.1 ∙ ap (λ m. word (level_book magnitude) b2.0.0 ++ m) s.sign_is)
                      ∙ ap (λ k. word (run_book run) k ++ (word (level_book magnitude) b2.0.0 ++ t.negative ∷ t.rest)) (sym s.of_run)
                      ∙ ap (λ k. word (run_book run) t.run ++ (word (level_book magnitude) k ++ t.negative ∷ t.rest)) (sym s.of_level);
                }
            | inr large ↦ absurd (cc)
          ]
      | inr over ↦ absurd (cc)
    ]

-- no codeword is zeros alone
pub word_has_one : (b : Codebook) (n : ℕ) (rest : List Bool) → no_ones (word b n ++ rest) ≡ false
word_has_one b n rest =
    let p = parts b n in
    let w : word b n ++ rest ≡ zeros p.z ++ true ∷ (bits_of (tail b p.z) p.t ++ rest) =
    ap (λ w. w ++ rest) (spelled b n p) ∙ append_assoc (zeros p.z) (true ∷ bits_of (tail b p.z) p.t) rest in
    ap no_ones w ∙ ne_eqb _ _ (λ e. omega (arith, e, leading_of p.z (bits_of (tail b p.z) p.t ++ rest), length-append (zeros p.z) (true ∷ (bits_of (tail b p.z) p.t ++ rest)), length-replicate p.z false))

pub no_ones_zeros : (z : ℕ) → no_ones (zeros z) ≡ true
no_ones_zeros z = eq-eqb _ _ (leading_of_zeros z ∙ sym (length-replicate z false))

pub no_ones_means : (l : List Bool) → no_ones l ≡ true → l ≡ zeros (leading l)
no_ones_means l h = leading_all l (eqb-true _ _ h)

-- k zeros before values are kept beside them
pub ac_words_zeros : (run magnitude k j : ℕ) (vs : List ℤ) → ac_words run magnitude k (replicate j (pos 0) ++ vs) ≡ ac_words run magnitude (k + j) vs
ac_words_zeros run magnitude k zero vs = ap (λ i. ac_words run magnitude i vs) (let e : k ≡ k + 0 = omega arith in e)
ac_words_zeros run magnitude k (suc j) vs = ac_words_zeros run magnitude (suc k) j vs ∙ ap (λ i. ac_words run magnitude i vs) (let e : suc k + j ≡ k + suc j = omega arith in e)

pub ac_words_signed : (run magnitude k m : ℕ) (s : Bool) (vs : List ℤ) →
    ac_words run magnitude k (signed s m ∷ vs) ≡ word (run_book run) k ++ (word (level_book magnitude) m ++ s ∷ ac_words k (suc m) 0 vs)
ac_words_signed run magnitude k m true vs = refl
ac_words_signed run magnitude k m false vs = refl

zeros_shift : (k : ℕ) (vs : List ℤ) → replicate (suc k) (pos 0) ++ vs ≡ replicate k (pos 0) ++ pos 0 ∷ vs
zeros_shift zero vs = refl
zeros_shift (suc k) vs = ap (λ m. pos 0 ∷ m) (zeros_shift k vs)

-- one iteration that reads a triple
values_turn : (turns room run magnitude k m : ℕ) (s : Bool) (l : List Bool) (vs : List ℤ) → k < room → room ≤ 2 ^ 20 → m < 32767 →
    values_at turns (room - k - 1) k (suc m) l ≡ Ok vs →
    values_at (suc turns) room run magnitude (word (run_book run) k ++ (word (level_book magnitude) m ++ s ∷ l)) ≡ Ok (replicate k (pos 0) ++ signed s m ∷ vs)
values_turn turns room run magnitude k m s l vs h g j e =
    rw (word_has_one (run_book run) k (word (level_book magnitude) m ++ s ∷ l), triple_again room run magnitude k m s l h g j, e) refl

regroup : (a b : List Bool) (s : Bool) (c d : List Bool) → (a ++ (b ++ s ∷ c)) ++ d ≡ a ++ (b ++ s ∷ (c ++ d))
regroup a b s c d = append_assoc a (b ++ s ∷ c) d ∙ ap (λ m. a ++ m) (append_assoc b (s ∷ c) d)

pub values_again : (vs : List ℤ) (turns room run magnitude k z : ℕ) → length vs < turns → room ≡ k + length vs → room ≤ 2 ^ 20 → AllSmall vs →
    values_at turns room run magnitude (ac_words run magnitude k vs ++ zeros z) ≡ Ok (replicate k (pos 0) ++ vs)
values_again vs zero room run magnitude k z h e g a = absurd (omega arith)
values_again [] (suc turns) room run magnitude k z h e g a =
    rw (no_ones_zeros z) (ap Ok (ap (λ n. replicate n (pos 0)) (let f : room ≡ k = omega (arith, e) in f) ∙ sym (append-nil (replicate k (pos 0)))))
values_again (pos zero ∷ vs) (suc turns) room run magnitude k z h e g a =
    values_again vs (suc turns) room run magnitude (suc k) z (omega arith) (omega (arith, e)) g a.1 ∙ ap Ok (zeros_shift k vs)
values_again (pos (suc m) ∷ vs) (suc turns) room run magnitude k z h e g a =
    ap (values_at (suc turns) room run magnitude) (regroup (word (run_book run) k) (word (level_book magnitude) m) false (ac_words k (suc m) 0 vs) (zeros z))
    ∙ values_turn turns room run magnitude k m false _ vs (omega (arith, e)) g (omega (arith, a.0))
    (values_again vs turns (room - k - 1) k (suc m) 0 z (omega arith) (omega (arith, e)) (omega arith) a.1)
values_again (negsuc m ∷ vs) (suc turns) room run magnitude k z h e g a =
    ap (values_at (suc turns) room run magnitude) (regroup (word (run_book run) k) (word (level_book magnitude) m) true (ac_words k (suc m) 0 vs) (zeros z))
    ∙ values_turn turns room run magnitude k m true _ vs (omega (arith, e)) g (omega (arith, a.0))
    (values_again vs turns (room - k - 1) k (suc m) 0 z (omega arith) (omega (arith, e)) (omega arith) a.1)

list_parts : {E : Type 0} (a b : List ℤ) → ◌≡◌ {A = Result (List ℤ) E} (Ok a) (Ok b) → a ≡ b
list_parts a b e = cc

small_zeros : (n : ℕ) → AllSmall (replicate n (pos 0))
small_zeros zero = tt
small_zeros (suc n) = (omega arith, small_zeros n)

small_behind : (n : ℕ) (vs : List ℤ) → AllSmall vs → AllSmall (replicate n (pos 0) ++ vs)
small_behind zero vs h = h
small_behind (suc n) vs h = (omega arith, small_behind n vs h)

signed_small : (s : Bool) (m : ℕ) → m < 32767 → IsSmall (signed s m)
signed_small true m h = omega arith
signed_small false m h = omega arith

pub record AreValues (room run magnitude : ℕ) (l : List Bool) (vs : List ℤ) : Type 0 where
  pub count : length vs ≡ room
  pub small : AllSmall vs
  pub behind : ℕ
  pub words_are : l ≡ ac_words run magnitude 0 vs ++ zeros behind

pub values_found : (turns room run magnitude : ℕ) (l : List Bool) (vs : List ℤ) → values_at turns room run magnitude l ≡ Ok vs → AreValues room run magnitude l vs
values_found zero room run magnitude l vs e = absurd (cc)
values_found (suc turns) room run magnitude l vs e =
    let f = λ (t : Triple). values_at turns (room - t.run - 1) t.run (suc t.level) t.rest >>= with_triple t in
    elim (chosen (no_ones l) (Ok (replicate room (pos 0))) (triple_at room run magnitude l >>= f) (Ok vs) e) [
      | inl ended ↦
          let same : replicate room (pos 0) ≡ vs = list_parts _ _ ended.1 in
          let none : ac_words run magnitude 0 (replicate room (pos 0)) ≡ [] =
          ap (ac_words run magnitude 0) (sym (append-nil (replicate room (pos 0)))) ∙ ac_words_zeros run magnitude 0 room [] in
          subst (AreValues room run magnitude l) same (record {
            count = length-replicate room (pos 0);
            small = small_zeros room;
            behind = leading l;
            words_are = no_ones_means l ended.0 ∙ ap (λ m. m ++ zeros (leading l)) (sym none);
          })
      | inr on ↦
          let b = bind_ok (triple_at room run magnitude l) f vs on.1 in
          let t = b.0 in
          let b2 = bind_ok (values_at turns (room - t.run - 1) t.run (suc t.level) t.rest) (with_triple t) vs b.2 in
          let w = triple_found room run magnitude l t b.1 in
          let i = values_found turns (room - t.run - 1) t.run (suc t.level) t.rest b2.0 b2.1 in
          let inside = w.inside in
          let v = signed t.negative t.level ∷ b2.0 in
          let words : ac_words run magnitude 0 (replicate t.run (pos 0) ++ v) ≡ word (run_book run) t.run ++ (word (level_book magnitude) t.level ++ t.negative ∷ ac_words t.run (suc t.level) 0 b2.0) =
          ac_words_zeros run magnitude 0 t.run v ∙ ap (λ n. ac_words run magnitude n v) (let z : 0 + t.run ≡ t.run = omega arith in z)
          ∙ ac_words_signed run magnitude t.run t.level t.negative b2.0 in
          subst (AreValues room run magnitude l) (list_parts _ _ b2.2) (record {
            count = omega (arith, inside, i.count, length-append (replicate t.run (pos 0)) v, length-replicate t.run (pos 0));
            small = small_behind t.run v (let u : AllSmall v = (signed_small t.negative t.level w.small, i.small) in u);
            behind = i.behind;
            words_are = w.words_are
                ∙ ap (λ m. word (run_book run) t.run ++ (word (level_book magnitude) t.level ++ t.negative ∷ m)) i.words_are
                ∙ sym (regroup (word (run_book run) t.run) (word (level_book magnitude) t.level) t.negative (ac_words t.run (suc t.level) 0 b2.0) (zeros i.behind))
                ∙ ap (λ m. m ++ zeros i.behind) (sym words);
          })
    ]
