-- Laws of the words of a book.
use Rattle.std.proofs.Common.{◌≡◌, ℕ, zero, suc, ◌+◌, ◌-◌, ◌*◌, ◌/◌, ◌%◌, ◌^◌, ◌<◌, ◌≤◌, ◌⊎◌, inl, inr, ◌&&◌, Bool, true, false, cond, eqb, ltb, List, [], ◌∷◌, ◌++◌, length, take, drop, Result, Ok, Err, refl, ap, sym, ◌∙◌, subst, arith, length-append, append_assoc}
use Rattle.std.proofs.Math.Nat.{mul-le-mul_right}
use Rattle.std.proofs.lemmas.Nat.{pow_pos, shr_high, mod_below, shr_split, pow_below, le-div, leading_top, one_shl, shl_whole, mul-le}
use Rattle.std.specs.Int.Count.{count_leading_zeros}
use Rattle.std.proofs.lemmas.Bool.{cases_lt, cases_Bool, le-leb, lt-leb, ltb-true, ltb-false, lt-ltb, le-ltb, ne_eqb, eq-eqb, eqb-true, eqb-false}
use Rattle.std.proofs.lemmas.List.{take_at, drop_at, length-replicate, length-take-le, take-append-drop}
use Rattle.pr_codes.specs.declared.book.Codebook.{Codebook}
use Rattle.std.specs.List.{list_any, list_all}
use Rattle.pw_bits.specs.Bits.{bits_of, value, zeros}
use Rattle.pr_codes.specs.Words.{floor_log2_in, floor_log2, word, tail, first, at_end, too_large, book, books, is_same, is_book, most, leading, within, after, code_at}
use Rattle.pw_bits.proofs.BitsLemmas.{pow_mono_at, length-bits_of, bits_of_low, bits_of-value, same_number, value-lt, pow_suc, bits_of-one, value_of_bits}

-- ---- the books

-- what the proofs need of a book
pub record IsPlain (b : Codebook) : Type 0 where
  pub exp : b.exp < 8
  pub some : 0 < b.exp
  pub last : b.last < 3
  pub rice : b.rice < 6

is_plain : Codebook → Bool
is_plain b = ltb b.exp 8 && (ltb 0 b.exp && (ltb b.last 3 && ltb b.rice 6))

both : (a b : Bool) → a && b ≡ true → (a ≡ true) × (b ≡ true)
both true true e = (refl, refl)
both true false e = absurd (let f : false ≡ true = e in cc)
both false b e = absurd (let f : false ≡ true = e in cc)

plain_same : (a b : Codebook) → is_same a b ≡ true → is_plain b ≡ true → is_plain a ≡ true
unfolding is_plain
plain_same a b e p =
    let s = both (eqb a.last b.last && eqb a.rice b.rice) (eqb a.exp b.exp) e in
    let t = both (eqb a.last b.last) (eqb a.rice b.rice) s.0 in
    let x : a.exp ≡ b.exp = eqb-true a.exp b.exp s.1 in
    let l : a.last ≡ b.last = eqb-true a.last b.last t.0 in
    let r : a.rice ≡ b.rice = eqb-true a.rice b.rice t.1 in
    rw (x, l, r) p

plain_among : (b : Codebook) (cs : List Codebook) → list_all is_plain cs ≡ true → list_any (is_same b) cs ≡ true → is_plain b ≡ true
plain_among b [] p e = absurd (let f : false ≡ true = e in cc)
plain_among b (c ∷ cs) p e =
    let q = both (is_plain c) (list_all is_plain cs) p in
    elim (cases_Bool (is_same b c)) [
      | inl same ↦ plain_same b c same q.0
      | inr other ↦ plain_among b cs q.1 (rw other at e)
    ]

pub plain : (b : Codebook) → is_book b ≡ true → IsPlain b
unfolding is_plain
plain b e =
    let p = plain_among b books refl e in
    let q = both (ltb b.exp 8) (ltb 0 b.exp && (ltb b.last 3 && ltb b.rice 6)) p in
    let r = both (ltb 0 b.exp) (ltb b.last 3 && ltb b.rice 6) q.1 in
    let s = both (ltb b.last 3) (ltb b.rice 6) r.1 in
    record { exp = ltb-true b.exp 8 q.0; some = ltb-true 0 b.exp r.0; last = ltb-true b.last 3 s.0; rice = ltb-true b.rice 6 s.1 }

-- ---- the logarithm

floor_log2_in-bounds : (t v : ℕ) → 0 < v → v ≤ t → (2 ^ floor_log2_in t v ≤ v) × (v < 2 ^ suc (floor_log2_in t v))
floor_log2_in-bounds zero v h k = absurd (omega arith)
floor_log2_in-bounds (suc t) v h k = elim (cases_lt v 2) [
  | inl lt ↦ rw (lt-ltb v 2 lt) (omega arith, omega arith)
  | inr ge ↦
      let w = floor_log2_in t (v / 2) in
      let r = floor_log2_in-bounds t (v / 2) (omega arith) (omega arith) in
      let p = pow_suc w in
      let q = pow_suc (suc w) in
      rw (le-ltb v 2 ge) (omega arith, omega arith)
]

pub floor_log2-bounds : (v : ℕ) → 0 < v → (2 ^ floor_log2 v ≤ v) × (v < 2 ^ suc (floor_log2 v))
unfolding floor_log2
floor_log2-bounds v h = floor_log2_in-bounds v v h (omega arith)

pub floor_log2-is : (v l : ℕ) → 2 ^ l ≤ v → v < 2 ^ suc l → floor_log2 v ≡ l
floor_log2-is v l low high =
    let b = floor_log2-bounds v (omega (arith, pow_pos l)) in
    elim (cases_lt (floor_log2 v) l) [
      | inl lt ↦ absurd (omega (arith, pow_mono_at (suc (floor_log2 v)) l (omega arith)))
      | inr ge ↦ elim (cases_lt l (floor_log2 v)) [
        | inl lt ↦ absurd (omega (arith, pow_mono_at (suc l) (floor_log2 v) (omega arith)))
        | inr le ↦ omega arith
      ]
    ]

-- ---- a word by its zeros

tail-small : (book : Codebook) (z : ℕ) → z ≤ book.last → tail book z ≡ book.rice
unfolding tail
tail-small book z h = rw (le-leb z book.last h) refl

tail-large : (book : Codebook) (z : ℕ) → book.last < z → tail book z ≡ z - book.last - 1 + book.exp
unfolding tail
tail-large book z h = rw (lt-leb z book.last h) refl

first-small : (book : Codebook) (z : ℕ) → z ≤ book.last → first book z ≡ z * 2 ^ book.rice
unfolding first
first-small book z h = rw (le-leb z book.last h) refl

first-large : (book : Codebook) (z : ℕ) → book.last < z → first book z ≡ 2 ^ (z - book.last - 1 + book.exp) + (book.last + 1) * 2 ^ book.rice - 2 ^ book.exp
unfolding first
first-large book z h = rw (lt-leb z book.last h) refl

word-small : (book : Codebook) (n : ℕ) → n / 2 ^ book.rice ≤ book.last → word book n ≡ zeros (n / 2 ^ book.rice) ++ true ∷ bits_of book.rice n
unfolding word
word-small book n h = rw (le-leb (n / 2 ^ book.rice) book.last h) refl

word-large : (book : Codebook) (n v l : ℕ) → book.last < n / 2 ^ book.rice → n + 2 ^ book.exp - (book.last + 1) * 2 ^ book.rice ≡ v → floor_log2 v ≡ l → word book n ≡ zeros (l - book.exp + book.last + 1) ++ bits_of (l + 1) v
unfolding word
word-large book n v l h e f = rw (lt-leb (n / 2 ^ book.rice) book.last h, e, f) refl

word_of_large : (book : Codebook) (z t size : ℕ) → book.last < z → size ≡ z - book.last - 1 + book.exp → t < 2 ^ size → word book (first book z + t) ≡ zeros z ++ true ∷ bits_of (tail book z) t
word_of_large book z t size lt is low =
    let e = book.exp in
    let s = book.last in
    let r = book.rice in
    let n = 2 ^ size + (s + 1) * 2 ^ r - 2 ^ e + t in
    let more = pow_mono_at e size (omega arith) in
    let base : first book z ≡ 2 ^ size + (s + 1) * 2 ^ r - 2 ^ e = first-large book z lt ∙ ap (λ k. 2 ^ k + (s + 1) * 2 ^ r - 2 ^ e) (sym is) in
    let rest : tail book z ≡ size = tail-large book z lt ∙ sym is in
    let p = pow_suc size in
    let v : n + 2 ^ e - (s + 1) * 2 ^ r ≡ 2 ^ size + t = omega arith in
    let l : floor_log2 (2 ^ size + t) ≡ size = floor_log2-is (2 ^ size + t) size (omega arith) (omega arith) in
    let high : s + 1 ≤ n / 2 ^ r = le-div (s + 1) n (2 ^ r) (pow_pos r) (omega arith) in
    let w = word-large book n (2 ^ size + t) size (omega arith) v l in
    let c : size - e + s + 1 ≡ z = omega arith in
    let one : bits_of (size + 1) (2 ^ size + t) ≡ true ∷ bits_of size t =
    ap (λ k. bits_of k (2 ^ size + t)) (let u : size + 1 ≡ suc size = omega arith in u)
    ∙ ap (λ k. bits_of (suc size) k) (let u : 2 ^ size + t ≡ 1 * 2 ^ size + t = omega arith in u)
    ∙ bits_of-one size 1 t low true refl in
    rw (base, rest, w, c, one) refl

pub word_of_parts : (book : Codebook) (z t : ℕ) → t < 2 ^ tail book z → word book (first book z + t) ≡ zeros z ++ true ∷ bits_of (tail book z) t
word_of_parts book z t h = elim (cases_lt book.last z) [
  | inl lt ↦
      let size = z - book.last - 1 + book.exp in
      let low : t < 2 ^ size = subst (λ k. t < 2 ^ k) (tail-large book z lt) h in
      word_of_large book z t size lt refl low
  | inr le ↦
      let r = book.rice in
      let low : t < 2 ^ r = subst (λ k. t < 2 ^ k) (tail-small book z le) h in
      let q : (z * 2 ^ r + t) / 2 ^ r ≡ z = shr_high z r t low in
      let w = word-small book (z * 2 ^ r + t) (omega (arith, q)) in
      rw (first-small book z le, tail-small book z le, w, q, bits_of_low r z r t (omega arith)) refl
]

pub record Parts (book : Codebook) (n : ℕ) : Type 0 where
  pub z : ℕ
  pub t : ℕ
  pub low : t < 2 ^ tail book z
  pub is : n ≡ first book z + t

div_above : (n r m : ℕ) → m ≤ n / 2 ^ r → m * 2 ^ r ≤ n
div_above n r m h = omega (arith, shr_split n r, mul-le-mul_right (2 ^ r) h)

log_above : (e l v : ℕ) → 2 ^ e ≤ v → v < 2 ^ suc l → e ≤ l
log_above e l v h k = elim (cases_lt l e) [ inl lt ↦ absurd (omega (arith, pow_mono_at (suc l) e (omega arith))) | inr ge ↦ ge ]

pub parts : (book : Codebook) (n : ℕ) → Parts book n
parts book n = elim (cases_lt book.last (n / 2 ^ book.rice)) [
  | inl lt ↦
      let e = book.exp in
      let s = book.last in
      let r = book.rice in
      let v = n + 2 ^ e - (s + 1) * 2 ^ r in
      let big : (s + 1) * 2 ^ r ≤ n = div_above n r (s + 1) (omega arith) in
      let b = floor_log2-bounds v (omega (arith, pow_pos e)) in
      let l = floor_log2 v in
      let z = l - e + s + 1 in
      let el : e ≤ l = log_above e l v (omega arith) b.1 in
      let c : z - s - 1 + e ≡ l = omega arith in
      let size : tail book z ≡ l = tail-large book z (omega arith) ∙ c in
      let base : first book z ≡ 2 ^ l + (s + 1) * 2 ^ r - 2 ^ e = first-large book z (omega arith) ∙ ap (λ k. 2 ^ k + (s + 1) * 2 ^ r - 2 ^ e) c in
      let p = pow_suc l in
      let q = pow_mono_at e l el in
      record { z = z; t = v - 2 ^ l; low = rw size (omega arith); is = rw base (omega arith) }
  | inr le ↦
      let z = n / 2 ^ book.rice in
      record {
        z = z;
        t = n % 2 ^ book.rice;
        low = rw (tail-small book z le) (mod_below n (2 ^ book.rice) (pow_pos book.rice));
        is = rw (first-small book z le) (sym (shr_split n book.rice));
      }
]

pub spelled : (book : Codebook) (n : ℕ) (p : Parts book n) → word book n ≡ zeros p.z ++ true ∷ bits_of (tail book p.z) p.t
spelled book n p = rw (p.is) (word_of_parts book p.z p.t p.low)

pub same_zeros : (a b : ℕ) (x y : List Bool) → zeros a ++ true ∷ x ≡ zeros b ++ true ∷ y → (a ≡ b) × (x ≡ y)
same_zeros zero zero x y e = (refl, cc)
same_zeros zero (suc b) x y e = cc
same_zeros (suc a) zero x y e = cc
same_zeros (suc a) (suc b) x y e = let r = same_zeros a b x y (cc) in (ap suc r.0, r.1)

pub same_front : (a b x y : List Bool) → length a ≡ length b → a ++ x ≡ b ++ y → (a ≡ b) × (x ≡ y)
same_front [] [] x y l e = (refl, e)
same_front [] (q ∷ b) x y l e = absurd (omega (arith, l))
same_front (p ∷ a) [] x y l e = absurd (omega (arith, l))
same_front (p ∷ a) (q ∷ b) x y l e =
    let r = same_front a b x y (omega (arith, l)) (cc) in
    let h : p ≡ q = cc in (let u : a ≡ b = r.0 in cc, r.1)

same_parts : (book : Codebook) (z w t u : ℕ) (x y : List Bool) → z ≡ w → t < 2 ^ tail book z → u < 2 ^ tail book w → bits_of (tail book z) t ++ x ≡ bits_of (tail book w) u ++ y → (t ≡ u) × (x ≡ y)
same_parts book z w t u x y e ht hu h =
    let k = tail book w in
    let c : tail book z ≡ k = ap (tail book) e in
    let h' : bits_of k t ++ x ≡ bits_of k u ++ y = subst (λ j. bits_of j t ++ x ≡ bits_of k u ++ y) c h in
    let f = same_front (bits_of k t) (bits_of k u) x y (length-bits_of k t ∙ sym (length-bits_of k u)) h' in
    (same_number k t u (subst (λ j. t < 2 ^ j) c ht) hu f.0, f.1)

pub prefix_free : (book : Codebook) (m n : ℕ) (x y : List Bool) → word book m ++ x ≡ word book n ++ y → (m ≡ n) × (x ≡ y)
prefix_free book m n x y e =
    let p = parts book m in
    let q = parts book n in
    let e' : zeros p.z ++ true ∷ (bits_of (tail book p.z) p.t ++ x) ≡ zeros q.z ++ true ∷ (bits_of (tail book q.z) q.t ++ y) =
    sym (append_assoc (zeros p.z) _ x) ∙ ap (λ w. w ++ x) (sym (spelled book m p)) ∙ e ∙ ap (λ w. w ++ y) (spelled book n q) ∙ append_assoc (zeros q.z) _ y in
    let h = same_zeros p.z q.z _ _ e' in
    let r = same_parts book p.z q.z p.t q.t x y h.0 p.low q.low h.1 in
    (p.is ∙ ap (λ z. first book z + p.t) h.0 ∙ ap (λ t. first book q.z + t) r.0 ∙ sym q.is, r.1)

-- ---- reading

pub chosen : {X : Type 0} (b : Bool) (x y z : X) → cond b x y ≡ z → ((b ≡ true) × (x ≡ z)) ⊎ ((b ≡ false) × (y ≡ z))
chosen true x y z e = inl (refl, e)
chosen false x y z e = inr (refl, e)

pub leading_of : (z : ℕ) (l : List Bool) → leading (zeros z ++ true ∷ l) ≡ z
leading_of zero l = refl
leading_of (suc z) l = ap suc (leading_of z l)

pub drop_leading : (z : ℕ) (l : List Bool) → drop (suc z) (zeros z ++ true ∷ l) ≡ l
drop_leading zero l = refl
drop_leading (suc z) l = drop_leading z l

pub leading_of_zeros : (z : ℕ) → leading (zeros z) ≡ z
leading_of_zeros zero = refl
leading_of_zeros (suc z) = ap suc (leading_of_zeros z)

pub leading_behind : (z : ℕ) (l : List Bool) → z ≤ leading (zeros z ++ l)
leading_behind zero l = omega arith
leading_behind (suc z) l = omega (arith, leading_behind z l)

pub leading-le : (l : List Bool) → leading l ≤ length l
leading-le [] = omega arith
leading-le (true ∷ l) = omega arith
leading-le (false ∷ l) = omega (arith, leading-le l)

pub leading_all : (l : List Bool) → leading l ≡ length l → l ≡ zeros (leading l)
leading_all [] h = refl
leading_all (true ∷ l) h = absurd (omega (arith, h))
leading_all (false ∷ l) h = ap (λ m. false ∷ m) (leading_all l (omega (arith, h)))

pub leading_split : (l : List Bool) → leading l < length l → l ≡ zeros (leading l) ++ true ∷ drop (suc (leading l)) l
leading_split [] h = absurd (omega arith)
leading_split (true ∷ l) h = refl
leading_split (false ∷ l) h = ap (λ m. false ∷ m) (leading_split l (omega arith))

ok_pair : {E : Type 0} (a b : ℕ) (x y : List Bool) → ◌≡◌ {A = Result (ℕ × List Bool) E} (Ok (a, x)) (Ok (b, y)) → (a ≡ b) × (x ≡ y)
ok_pair a b x y e =
    let p : ◌≡◌ {A = ℕ × List Bool} (a, x) (b, y) = cc in
    (ap (λ (q : ℕ × List Bool). q.0) p, ap (λ (q : ℕ × List Bool). q.1) p)

-- the three ways that zeros end
pub code_at_one : (book : Codebook) (z : ℕ) (l : List Bool) → z ≤ most book → code_at book (zeros z ++ true ∷ l) ≡ after book z l
unfolding code_at
code_at_one book z l h =
    let len : eqb z (length (zeros z ++ true ∷ l)) ≡ false = ne_eqb z _ (λ e. omega (arith, e, length-append (zeros z) (true ∷ l), length-replicate z false)) in
    rw (leading_of z l, drop_leading z l, le-ltb (most book) z h, len) refl

pub code_at_end : (book : Codebook) (z : ℕ) → z ≤ most book → code_at book (zeros z) ≡ Err at_end
unfolding code_at
code_at_end book z h =
    let len : eqb z (length (zeros z)) ≡ true = eq-eqb z _ (sym (length-replicate z false)) in
    rw (leading_of_zeros z, le-ltb (most book) z h, len) refl

pub code_at_many : (book : Codebook) (l : List Bool) → code_at book (zeros (suc (most book)) ++ l) ≡ Err too_large
unfolding code_at
code_at_many book l = rw (lt-ltb (most book) (leading (zeros (suc (most book)) ++ l)) (omega (arith, leading_behind (suc (most book)) l))) refl

pub after_again : (book : Codebook) (z t : ℕ) (rest : List Bool) → t < 2 ^ tail book z → first book z + t ≤ 2 ^ 20 → after book z (bits_of (tail book z) t ++ rest) ≡ Ok (first book z + t, rest)
unfolding after
after_again book z t rest h k =
    let b = bits_of (tail book z) t in
    let n = length-bits_of (tail book z) t in
    let long : ltb (length (b ++ rest)) (tail book z) ≡ false = le-ltb _ _ (omega (arith, length-append b rest, n)) in
    rw (take_at b rest (tail book z) n, drop_at b rest (tail book z) n, long, value_of_bits (tail book z) t h, le-ltb (2 ^ 20) (first book z + t) k) refl

pub after_found : (book : Codebook) (z : ℕ) (l : List Bool) (n : ℕ) (rest : List Bool) → after book z l ≡ Ok (n, rest) → (n ≤ 2 ^ 20) × (zeros z ++ true ∷ l ≡ word book n ++ rest)
unfolding after
after_found book z l n rest e =
    elim (chosen (ltb (length l) (tail book z)) (Err at_end) (within (first book z + value (take (tail book z) l)) (drop (tail book z) l)) (Ok (n, rest)) e) [
      | inl short ↦ cc
      | inr long ↦ elim (chosen (ltb (2 ^ 20) (first book z + value (take (tail book z) l))) (Err too_large) (Ok (first book z + value (take (tail book z) l), drop (tail book z) l)) (Ok (n, rest)) long.1) [
        | inl large ↦ cc
        | inr small ↦
            let k = tail book z in
            let t = value (take k l) in
            let fits : k ≤ length l = ltb-false (length l) k long.0 in
            let size : length (take k l) ≡ k = length-take-le k l fits in
            let low : t < 2 ^ k = subst (λ j. t < 2 ^ j) size (value-lt (take k l)) in
            let same : bits_of k t ≡ take k l = ap (λ j. bits_of j t) (sym size) ∙ bits_of-value (take k l) in
            let both = ok_pair (first book z + t) n (drop k l) rest small.1 in
            let is : first book z + t ≡ n = both.0 in
            let over : drop k l ≡ rest = both.1 in
            let w : word book n ≡ zeros z ++ true ∷ take k l = ap (word book) (sym is) ∙ word_of_parts book z t low ∙ ap (λ b. zeros z ++ true ∷ b) same in (
              omega (arith, ltb-false (2 ^ 20) (first book z + t) small.0),
              ap (λ m. zeros z ++ true ∷ m) (sym (take-append-drop k l) ∙ ap (λ r. take k l ++ r) over)
                  ∙ sym (append_assoc (zeros z) (true ∷ take k l) rest) ∙ ap (λ m. m ++ rest) (sym w),
            )
      ]
    ]

pub zeros_within : (book : Codebook) (z t : ℕ) → IsPlain book → first book z + t ≤ 2 ^ 20 → z ≤ most book
zeros_within book z t plain h = elim (cases_lt book.last z) [
  | inl lt ↦ elim (cases_lt (most book) z) [
    | inl over ↦
        let p : 2 ^ 21 ≤ 2 ^ (z - book.last - 1 + book.exp) = pow_mono_at 21 (z - book.last - 1 + book.exp) (omega (arith, plain.exp)) in
        let q = pow_below book.exp 8 plain.exp in
        absurd (omega (arith, first-large book z lt))
    | inr le ↦ le
  ]
  | inr le ↦ omega arith
]

pub code_again : (book : Codebook) (n : ℕ) (rest : List Bool) → IsPlain book → n ≤ 2 ^ 20 → code_at book (word book n ++ rest) ≡ Ok (n, rest)
code_again book n rest plain h =
    let p = parts book n in
    let k : first book p.z + p.t ≤ 2 ^ 20 = omega (arith, p.is) in
    ap (λ w. code_at book (w ++ rest)) (spelled book n p)
    ∙ ap (code_at book) (append_assoc (zeros p.z) _ rest)
    ∙ code_at_one book p.z _ (zeros_within book p.z p.t plain k)
    ∙ after_again book p.z p.t rest p.low k
    ∙ ap (λ m. Ok (m, rest)) (sym p.is)

pub code_found : (book : Codebook) (l : List Bool) (n : ℕ) (rest : List Bool) → code_at book l ≡ Ok (n, rest) → (n ≤ 2 ^ 20) × (l ≡ word book n ++ rest)
unfolding code_at
code_found book l n rest e =
    elim (chosen (ltb (most book) (leading l)) (Err too_large) (cond (eqb (leading l) (length l)) (Err at_end) (after book (leading l) (drop (suc (leading l)) l))) (Ok (n, rest)) e) [
      | inl many ↦ cc
      | inr few ↦ elim (chosen (eqb (leading l) (length l)) (Err at_end) (after book (leading l) (drop (suc (leading l)) l)) (Ok (n, rest)) few.1) [
        | inl ended ↦ cc
        | inr on ↦
            let ne = eqb-false (leading l) (length l) on.0 in
            let lt : leading l < length l = elim (cases_lt (leading l) (length l)) [ inl h ↦ h | inr ge ↦ absurd (ne (omega (arith, leading-le l))) ] in
            let f = after_found book (leading l) _ n rest on.1 in
            (f.0, leading_split l lt ∙ f.1)
      ]
    ]

-- ---- the parts of a word, as a machine computes them

-- the bit length of a number and its logarithm
pub log_of_length : (v size : ℕ) → 0 < size → 2 ^ (size - 1) ≤ v → v < 2 ^ size → floor_log2 v ≡ size - 1
log_of_length v size some low high = floor_log2-is v (size - 1) low (let e : suc (size - 1) ≡ size = omega arith in subst (λ k. v < 2 ^ k) (sym e) high)

pub length_by_leading : (v : ℕ) → 0 < v → v < 2 ^ 64 →
    (0 < 64 - count_leading_zeros 64 v) × (2 ^ (64 - count_leading_zeros 64 v - 1) ≤ v) × (v < 2 ^ (64 - count_leading_zeros 64 v)) × (64 - count_leading_zeros 64 v ≤ 64)
length_by_leading v h k =
    let t = leading_top 64 v h k in
    let j = t.0 in
    let d : 64 - count_leading_zeros 64 v ≡ suc j = omega (arith, t.1) in
    let c : 64 - count_leading_zeros 64 v - 1 ≡ j = omega (arith, t.1) in
    (omega (arith, t.1), rw c (t.2), rw d (t.3), omega (arith, t.1))

-- a word of few zeros: `mask` is the machine's power
pub word_small_parts : (book : Codebook) (n mask word_mask : ℕ) → n / 2 ^ book.rice ≤ book.last → mask ≡ 2 ^ book.rice → word_mask ≡ 2 ^ book.rice →
    word book n ≡ zeros (n / 2 ^ book.rice) ++ bits_of (book.rice + 1) (mask + n % word_mask)
word_small_parts book n mask word_mask h e f =
    let r = book.rice in
    let t = n % 2 ^ r in
    let low : bits_of r n ≡ bits_of r t = ap (bits_of r) (sym (shr_split n r)) ∙ bits_of_low r (n / 2 ^ r) r t (omega arith) in
    let number : 1 * 2 ^ r + t ≡ mask + n % word_mask = ap (λ x. 1 * 2 ^ r + n % x) (sym f) ∙ (let u : 1 * 2 ^ r + n % word_mask ≡ mask + n % word_mask = omega (arith, e) in u) in
    let one : bits_of (r + 1) (mask + n % word_mask) ≡ true ∷ bits_of r t =
    ap (bits_of (r + 1)) (sym number) ∙ ap (λ k. bits_of k (1 * 2 ^ r + t)) (let u : r + 1 ≡ suc r = omega arith in u) ∙ bits_of-one r 1 t (mod_below n (2 ^ r) (pow_pos r)) true refl in
    word-small book n h ∙ ap (λ b. zeros (n / 2 ^ r) ++ b) (ap (λ b. true ∷ b) low ∙ sym one)

pub word_large_parts : (book : Codebook) (n o size : ℕ) → book.last < n / 2 ^ book.rice → n + 2 ^ book.exp - (book.last + 1) * 2 ^ book.rice ≡ o
    → 0 < size → 2 ^ (size - 1) ≤ o → o < 2 ^ size → (book.exp < size) × (word book n ≡ zeros (size - book.exp + book.last) ++ bits_of size o)
word_large_parts book n o size h e some low high =
    let l = size - 1 in
    let big = div_above n book.rice (book.last + 1) (omega arith) in
    let f = log_of_length o size some low high in
    let s : l + 1 ≡ size = omega arith in
    let s' : suc l ≡ size = omega arith in
    let above : 2 ^ book.exp ≤ o = omega arith in
    let le = log_above book.exp l o above (subst (λ k. o < 2 ^ k) (sym s') high) in
    let c : l - book.exp + book.last + 1 ≡ size - book.exp + book.last = omega arith in
    (omega (arith, le), word-large book n o l h e f ∙ ap (λ z. zeros z ++ bits_of (l + 1) o) c ∙ ap (λ k. zeros (size - book.exp + book.last) ++ bits_of k o) s)

-- the offset that the machine computes, and how large it is
pub record Offset (book : Codebook) (n o : ℕ) : Type 0 where
  pub is : o ≡ n + 2 ^ book.exp - (book.last + 1) * 2 ^ book.rice
  pub small : 2 ^ book.exp ≤ 128

pub machine_offset : (book : Codebook) (n v s : ℕ) → IsPlain book → v ≡ n → s ≡ book.last →
    Offset book n (v + 1 * 2 ^ book.exp % 2 ^ 64 - (s + 1) * 2 ^ book.rice % 2 ^ 64)
machine_offset book n v s plain same e =
    let a : 1 * 2 ^ book.exp % 2 ^ 64 ≡ 2 ^ book.exp = one_shl book.exp 64 (omega (arith, plain.exp)) in
    let b : (s + 1) * 2 ^ book.rice % 2 ^ 64 ≡ (book.last + 1) * 2 ^ book.rice =
    shl_whole (s + 1) 2 book.rice 64 (omega (arith, e, plain.last)) (omega (arith, plain.rice)) ∙ ap (λ x. (x + 1) * 2 ^ book.rice) e in
    record { is = omega (arith, a, b, same); small = pow_mono_at book.exp 7 (omega (arith, plain.exp)) }

-- a number below a power has few bits
pub length_below : (o size k : ℕ) → 0 < size → 2 ^ (size - 1) ≤ o → o < 2 ^ k → size ≤ k
length_below o size k some low high = elim (cases_lt k size) [ inl lt ↦ absurd (omega (arith, pow_mono_at k (size - 1) (omega arith))) | inr ge ↦ ge ]

-- ---- reading, as a machine does it

pub machine_tail : (book : Codebook) (z s : ℕ) → IsPlain book → s ≡ book.last → s < z → z ≤ most book → (z - s - 1 + book.exp ≡ tail book z) × (z - s - 1 + book.exp ≤ 20)
machine_tail book z s plain e lt few = (omega (arith, e, tail-large book z (omega arith)), omega (arith, e, few, plain.exp))

pub machine_tail_small : (book : Codebook) (z s : ℕ) → IsPlain book → s ≡ book.last → z ≤ s → (book.rice ≡ tail book z) × (book.rice ≤ 20)
machine_tail_small book z s plain e le = (sym (tail-small book z (omega arith)), omega (arith, plain.rice))

small_power : (k : ℕ) → k < 8 → 2 ^ k ≤ 128
small_power k h = pow_mono_at k 7 (omega arith)

pub machine_first_small : (book : Codebook) (z s : ℕ) → IsPlain book → s ≡ book.last → z ≤ s → (z * 2 ^ book.rice % 2 ^ 32 ≡ first book z) × (z * 2 ^ book.rice % 2 ^ 32 ≤ 2 ^ 21)
machine_first_small book z s plain e le =
    let w : z * 2 ^ book.rice % 2 ^ 32 ≡ z * 2 ^ book.rice = shl_whole z 2 book.rice 32 (omega (arith, plain.last)) (omega (arith, plain.rice)) in
    let p = small_power book.rice (omega (arith, plain.rice)) in
    let b = mul-le z (2 ^ book.rice) 2 128 (omega (arith, plain.last)) p in
    (w ∙ sym (first-small book z (omega arith)), omega (arith, w, b))

machine_parts : (book : Codebook) (s : ℕ) → IsPlain book → s ≡ book.last → (size : ℕ) → size ≤ 20 →
    (1 * 2 ^ size % 2 ^ 32 ≡ 2 ^ size) × ((s + 1) * 2 ^ book.rice % 2 ^ 32 ≡ (book.last + 1) * 2 ^ book.rice) × (1 * 2 ^ book.exp % 2 ^ 32 ≡ 2 ^ book.exp)
machine_parts book s plain e size h = (
  one_shl size 32 (omega arith),
  shl_whole (s + 1) 2 book.rice 32 (omega (arith, plain.last)) (omega (arith, plain.rice)) ∙ ap (λ x. (x + 1) * 2 ^ book.rice) e,
  one_shl book.exp 32 (omega (arith, plain.exp)),
)

pub machine_first : (book : Codebook) (z s : ℕ) → IsPlain book → s ≡ book.last → s < z → z ≤ most book →
    (1 * 2 ^ book.exp % 2 ^ 32 ≤ 1 * 2 ^ (z - s - 1 + book.exp) % 2 ^ 32 + (s + 1) * 2 ^ book.rice % 2 ^ 32)
    × (1 * 2 ^ (z - s - 1 + book.exp) % 2 ^ 32 + (s + 1) * 2 ^ book.rice % 2 ^ 32 - 1 * 2 ^ book.exp % 2 ^ 32 ≡ first book z)
    × (1 * 2 ^ (z - s - 1 + book.exp) % 2 ^ 32 + (s + 1) * 2 ^ book.rice % 2 ^ 32 - 1 * 2 ^ book.exp % 2 ^ 32 ≤ 2 ^ 21)
machine_first book z s plain e lt few =
    let size = z - s - 1 + book.exp in
    let t = machine_tail book z s plain e lt few in
    let m = machine_parts book s plain e size t.1 in
    let f = first-large book z (omega arith) in
    let c : z - book.last - 1 + book.exp ≡ size = omega (arith, e) in
    let f' : first book z ≡ 2 ^ size + (book.last + 1) * 2 ^ book.rice - 2 ^ book.exp = f ∙ ap (λ k. 2 ^ k + (book.last + 1) * 2 ^ book.rice - 2 ^ book.exp) c in
    let more = pow_mono_at book.exp size (omega arith) in
    let top = pow_mono_at size 20 t.1 in
    let b = mul-le (book.last + 1) (2 ^ book.rice) 3 128 (omega (arith, plain.last)) (small_power book.rice (omega (arith, plain.rice))) in
    (omega (arith, m.0, m.1, m.2, more), omega (arith, m.0, m.1, m.2, f'), omega (arith, m.0, m.1, m.2, top, b))

pub after_large : (book : Codebook) (z t : ℕ) (rest : List Bool) → t < 2 ^ tail book z → 2 ^ 20 < first book z + t → after book z (bits_of (tail book z) t ++ rest) ≡ Err too_large
unfolding after
after_large book z t rest h k =
    let b = bits_of (tail book z) t in
    let n = length-bits_of (tail book z) t in
    let long : ltb (length (b ++ rest)) (tail book z) ≡ false = le-ltb _ _ (omega (arith, length-append b rest, n)) in
    rw (take_at b rest (tail book z) n, drop_at b rest (tail book z) n, long, value_of_bits (tail book z) t h, lt-ltb (2 ^ 20) (first book z + t) k) refl

pub after_short : (book : Codebook) (z : ℕ) (l : List Bool) → length l < tail book z → after book z l ≡ Err at_end
unfolding after
after_short book z l h = rw (lt-ltb (length l) (tail book z) h) refl

-- ---- how long words are

length-word : (b : Codebook) (n : ℕ) → length (word b n) ≡ (parts b n).z + 1 + tail b (parts b n).z
length-word b n =
    let p = parts b n in
    let l = bits_of (tail b p.z) p.t in
    ap length (spelled b n p) ∙ omega (arith, length-append (zeros p.z) (true ∷ l), length-replicate p.z false, length-bits_of (tail b p.z) p.t)

pub length-word-le : (b : Codebook) (n k : ℕ) → is_book b ≡ true → 5 ≤ k → n + 2 ^ b.exp < 2 ^ (k + 1) → length (word b n) ≤ 2 * k + 3
length-word-le b n k is five h =
    let p = parts b n in
    let plain = plain b is in
    elim (cases_lt b.last p.z) [
      | inl lt ↦
          let size = p.z - b.last - 1 + b.exp in
          let c = tail-large b p.z lt in
          let top : 2 ^ size ≤ n + 2 ^ b.exp = omega (arith, first-large b p.z lt, p.is) in
          let few : size ≤ k = elim (cases_lt k size) [ inl over ↦ absurd (omega (arith, pow_mono_at (k + 1) size (omega arith))) | inr le ↦ le ] in
          omega (arith, length-word b n, c, plain.last, plain.some)
      | inr le ↦ omega (arith, length-word b n, tail-small b p.z le, plain.last, plain.rice)
    ]
