-- Bits of bytes in memory.
use Rattle.std.proofs.Common.{◌≡◌, ℕ, zero, suc, ◌+◌, ◌-◌, ◌*◌, ◌/◌, ◌%◌, ◌^◌, ◌<◌, ◌≤◌, Bool, true, false, eqb, List, [], ◌∷◌, ◌++◌, length, take, drop, get_or, refl, ap, sym, ◌∙◌, subst, arith, length-append, append_assoc, lit<}
use Rattle.std.specs.Int.Count.{count_leading_zeros, count_trailing_zeros}
use Rattle.std.proofs.lemmas.Bool.{agree_below_at, eqb-true}
use Rattle.std.proofs.lemmas.Nat.{pow_pos, pow-add, shl-shr, shr-shr, field_of, le-div, shr_below, leading_top, leading_length, be_bytes_8}
use Rattle.std.proofs.lemmas.List.{length-replicate, drop-drop, drop_more, drop_all, drop_at, take-append-le, take_all}
use Rattle.std.specs.Int.{w64, from_be_bytes}
use Rattle.pw_bits.specs.Bits.{bits_of, bits, zeros, AreBytes}
use Rattle.pw_bits.proofs.BitsLemmas.{length-bits_of, bits_of-append, bits_of-mod, bits_of-zero, bits_of_small, bits_of-one, bits-high_first, pow_mono_at, pow_suc}
use Rattle.pw_bits.specs.Places.{ahead, LastOne}
use Rattle.pw_bits.proofs.ReadingLemmas.{zeros-zeros}

-- ---- eight bytes

drop_bits_none : (n : ℕ) → drop n (let l : List Bool = [] in l) ≡ []
drop_bits_none n = drop_all n [] (omega arith)

pub drop_bits : (i : ℕ) (b : List ℕ) → drop (8 * i) (bits b) ≡ bits (drop i b)
drop_bits zero b = refl
drop_bits (suc i) [] = drop_bits_none (8 * suc i)
drop_bits (suc i) (x ∷ b) =
    ap (λ n. drop n (bits_of 8 x ++ bits b)) (let e : 8 * suc i ≡ 8 + 8 * i = omega arith in e)
    ∙ sym (drop-drop (8 * i) 8 (bits_of 8 x ++ bits b)) ∙ drop_bits i b

drop_one : (xs : List ℕ) (i j : ℕ) → j ≡ i + 1 → i < length xs → drop i xs ≡ get_or xs i 0 ∷ drop j xs
drop_one xs i j e h = drop_more xs i 0 h ∙ ap (λ n. get_or xs i 0 ∷ drop n xs) (sym e)

abbrev pub eight_from : List ℕ → ℕ → List ℕ
eight_from xs i =
    get_or xs i 0 ∷ get_or xs (i + 1) 0 ∷ get_or xs (i + 2) 0 ∷ get_or xs (i + 3) 0 ∷ get_or xs (i + 4) 0 ∷ get_or xs (i + 5) 0 ∷ get_or xs (i + 6) 0 ∷ get_or xs (i + 7) 0 ∷ []

eight_small : (xs : List ℕ) (i : ℕ) → AreBytes xs → AreBytes (eight_from xs i)
eight_small xs i h zero = h i
eight_small xs i h (suc zero) = h (i + 1)
eight_small xs i h (suc (suc zero)) = h (i + 2)
eight_small xs i h (suc (suc (suc zero))) = h (i + 3)
eight_small xs i h (suc (suc (suc (suc zero)))) = h (i + 4)
eight_small xs i h (suc (suc (suc (suc (suc zero))))) = h (i + 5)
eight_small xs i h (suc (suc (suc (suc (suc (suc zero)))))) = h (i + 6)
eight_small xs i h (suc (suc (suc (suc (suc (suc (suc zero))))))) = h (i + 7)
eight_small xs i h (suc (suc (suc (suc (suc (suc (suc (suc k)))))))) = lit< tt

eight_front : (xs : List ℕ) (i : ℕ) → i + 8 ≤ length xs → drop i xs ≡ eight_from xs i ++ drop (i + 8) xs
eight_front xs i h =
    let c = λ (j : ℕ) (l : List ℕ). get_or xs j 0 ∷ l in
    drop_one xs i (i + 1) (omega arith) (omega arith)
    ∙ ap (c i) (drop_one xs (i + 1) (i + 2) (omega arith) (omega arith)
    ∙ ap (c (i + 1)) (drop_one xs (i + 2) (i + 3) (omega arith) (omega arith)
    ∙ ap (c (i + 2)) (drop_one xs (i + 3) (i + 4) (omega arith) (omega arith)
    ∙ ap (c (i + 3)) (drop_one xs (i + 4) (i + 5) (omega arith) (omega arith)
    ∙ ap (c (i + 4)) (drop_one xs (i + 5) (i + 6) (omega arith) (omega arith)
    ∙ ap (c (i + 5)) (drop_one xs (i + 6) (i + 7) (omega arith) (omega arith)
    ∙ ap (c (i + 6)) (drop_one xs (i + 7) (i + 8) (omega arith) (omega arith))))))))

pub bits_both : (a b : List ℕ) → bits (a ++ b) ≡ bits a ++ bits b
bits_both [] b = refl
bits_both (x ∷ a) b = ap (λ l. bits_of 8 x ++ l) (bits_both a b) ∙ sym (append_assoc (bits_of 8 x) (bits a) (bits b))

pub eight_bits : (xs : List ℕ) (i n : ℕ) → i + 8 ≤ length xs → AreBytes xs → n ≡ from_be_bytes w64 (eight_from xs i) →
    drop (8 * i) (bits xs) ≡ bits_of 64 n ++ drop (8 * i + 64) (bits xs)
eight_bits xs i n h small e =
    let b = eight_from xs i in
    let bytes = eight_small xs i small in
    let same : bits b ≡ bits_of 64 n = ap bits (sym (be_bytes_8 b n refl bytes e)) ∙ bits-high_first 8 n in
    drop_bits i xs ∙ ap bits (eight_front xs i h) ∙ bits_both b (drop (i + 8) xs)
    ∙ ap (λ l. l ++ bits (drop (i + 8) xs)) same
    ∙ ap (λ l. bits_of 64 n ++ l) (sym (drop_bits (i + 8) xs) ∙ ap (λ m. drop m (bits xs)) (let e : 8 * (i + 8) ≡ 8 * i + 64 = omega arith in e))

-- ---- the bits from a place on

-- a part in the middle
pub middle : (all a b c : List Bool) (base at s k : ℕ) → drop base all ≡ a ++ (b ++ c) → length a ≡ s → length b ≡ k → at ≡ base + s → drop at all ≡ b ++ drop (at + k) all
middle all a b c base at s k e la lb is =
    let here : drop at all ≡ b ++ c = ap (λ n. drop n all) is ∙ sym (drop-drop s base all) ∙ ap (drop s) e ∙ drop_at a (b ++ c) s la in
    here ∙ ap (λ l. b ++ l) (sym (sym (drop-drop k at all) ∙ ap (drop k) here ∙ drop_at b c k lb))

pub window_front : (all : List Bool) (at n k : ℕ) → drop (8 * (at / 8)) all ≡ bits_of 64 n ++ drop (8 * (at / 8) + 64) all → k ≤ 57 →
    drop at all ≡ bits_of k (n * 2 ^ (at % 8) % 2 ^ 64 / 2 ^ (64 - k)) ++ drop (at + k) all
window_front all at n k e h =
    let s = at % 8 in
    let r = 64 - s - k in
    let rest = drop (8 * (at / 8) + 64) all in
    let small : s < 8 = omega arith in
    let size : 64 ≡ s + (k + r) = omega arith in
    let parts : bits_of 64 n ≡ bits_of s (n / 2 ^ (k + r)) ++ (bits_of k (n / 2 ^ r) ++ bits_of r n) =
    ap (λ m. bits_of m n) size ∙ bits_of-append s (k + r) n ∙ ap (λ l. bits_of s (n / 2 ^ (k + r)) ++ l) (bits_of-append k r n) in
    let whole : drop (8 * (at / 8)) all ≡ bits_of s (n / 2 ^ (k + r)) ++ (bits_of k (n / 2 ^ r) ++ (bits_of r n ++ rest)) =
    e ∙ ap (λ l. l ++ rest) parts ∙ append_assoc (bits_of s (n / 2 ^ (k + r))) (bits_of k (n / 2 ^ r) ++ bits_of r n) rest
    ∙ ap (λ l. bits_of s (n / 2 ^ (k + r)) ++ l) (append_assoc (bits_of k (n / 2 ^ r)) (bits_of r n) rest) in
    let m = middle all (bits_of s (n / 2 ^ (k + r))) (bits_of k (n / 2 ^ r)) (bits_of r n ++ rest) (8 * (at / 8)) at s k whole (length-bits_of s (n / 2 ^ (k + r))) (length-bits_of k (n / 2 ^ r)) (omega arith) in
    let up : n * 2 ^ s / 2 ^ (64 - k) ≡ n / 2 ^ r =
    ap (λ j. n * 2 ^ s / 2 ^ j) (let u : 64 - k ≡ s + r = omega arith in u) ∙ sym (shr-shr (n * 2 ^ s) s r) ∙ ap (λ x. x / 2 ^ r) (shl-shr n s) in
    let field : n * 2 ^ s % 2 ^ 64 / 2 ^ (64 - k) ≡ n / 2 ^ r % 2 ^ k =
    ap (λ j. n * 2 ^ s % 2 ^ j / 2 ^ (64 - k)) (let u : 64 ≡ k + (64 - k) = omega arith in u) ∙ field_of (n * 2 ^ s) k (64 - k) ∙ ap (λ x. x % 2 ^ k) up in
    m ∙ ap (λ l. l ++ drop (at + k) all) (bits_of-mod k (n / 2 ^ r) ∙ ap (bits_of k) (sym field))

-- ---- zeros at the start of a number

pub record Front (w z size v : ℕ) : Type 0 where
  pub low : 2 ^ size ≤ v
  pub high : v < 2 ^ suc size
  pub is : bits_of (z + 1 + size) v ≡ zeros z ++ true ∷ bits_of size (v - 2 ^ size)

pub front_word : (w z size v : ℕ) → w < 2 ^ 64 → z ≡ count_leading_zeros 64 w → z + 1 + size ≤ 57 → v ≡ w / 2 ^ (64 - (z + 1 + size)) → Front w z size v
unfolding count_leading_zeros
front_word zero z size v h e few is =
    let top : count_leading_zeros 64 0 ≡ 64 = refl in
    absurd (omega arith)
front_word (suc m) z size v h e few is =
    let w = suc m in
    let t = leading_top 64 w (omega arith) h in
    let r = 64 - (z + 1 + size) in
    let place : t.0 ≡ size + r = omega (arith, e, t.1) in
    let place' : suc t.0 ≡ suc size + r = omega (arith, e, t.1) in
    let low : 2 ^ size ≤ w / 2 ^ r = le-div (2 ^ size) w (2 ^ r) (pow_pos r) (omega (arith, t.2, ap (λ j. 2 ^ j) place, pow-add 2 size r)) in
    let high : w / 2 ^ r < 2 ^ suc size = shr_below w (suc size) r (subst (λ j. w < 2 ^ j) place' t.3) in
    let low' : 2 ^ size ≤ v = subst (λ x. 2 ^ size ≤ x) (sym is) low in
    let high' : v < 2 ^ suc size = subst (λ x. x < 2 ^ suc size) (sym is) high in
    let rest : v - 2 ^ size < 2 ^ size = omega (arith, low', high', pow_suc size) in
    record {
      low = low';
      high = high';
      is = ap (λ j. bits_of j v) (let u : z + 1 + size ≡ z + suc size = omega arith in u) ∙ bits_of_small z (suc size) v high'
          ∙ ap (λ l. zeros z ++ l) (ap (bits_of (suc size)) (let u : v ≡ 1 * 2 ^ size + (v - 2 ^ size) = omega (arith, low') in u) ∙ bits_of-one size 1 (v - 2 ^ size) rest true refl);
    }

pub front_zeros : (w m : ℕ) → w < 2 ^ 64 → m < count_leading_zeros 64 w → m ≤ 56 → bits_of (suc m) (w / 2 ^ (64 - suc m)) ≡ zeros (suc m)
front_zeros w m h more few =
    let t = leading_length 64 w h in
    let r = 64 - suc m in
    let small : w < 2 ^ (0 + r) = omega (arith, t.2, pow_mono_at t.0 (0 + r) (omega (arith, t.1))) in
    let none : w / 2 ^ r ≡ 0 = omega (arith, shr_below w 0 r small) in
    ap (bits_of (suc m)) none ∙ bits_of-zero (suc m)

-- ---- what is ahead

take_over : (a x : List Bool) (k m : ℕ) → length a ≡ k → take (k + m) (a ++ x) ≡ a ++ take m x
take_over [] x k m e = ap (λ n. take n x) (let u : k + m ≡ m = omega (arith, e) in u)
take_over (b ∷ a) x zero m e = absurd (omega (arith, e))
take_over (b ∷ a) x (suc k) m e =
    ap (λ n. take n (b ∷ (a ++ x))) (let u : suc k + m ≡ suc (k + m) = omega arith in u) ∙ ap (λ l. b ∷ l) (take_over a x k m (omega (arith, e)))

module _ (p : List ℕ) (end at k : ℕ) (a : List Bool) (front : drop at (bits p) ≡ a ++ drop (at + k) (bits p)) (size : length a ≡ k) where
  pub ahead_goes : k ≤ end - at → ahead p end at ≡ a ++ ahead p end (at + k)
  unfolding ahead
  ahead_goes h =
      ap (take (end - at)) front ∙ ap (λ n. take n (a ++ drop (at + k) (bits p))) (let u : end - at ≡ k + (end - (at + k)) = omega arith in u)
      ∙ take_over a (drop (at + k) (bits p)) k (end - (at + k)) size

  pub ahead_cut : end - at ≤ k → ahead p end at ≡ take (end - at) a
  unfolding ahead
  ahead_cut h = ap (take (end - at)) front ∙ take-append-le (end - at) a (drop (at + k) (bits p)) (omega (arith, size))

-- a window of the bits from a place on
pub record IsWindow (p : List ℕ) (at w : ℕ) : Type 0 where
  pub front : (k : ℕ) → k ≤ 57 → drop at (bits p) ≡ bits_of k (w / 2 ^ (64 - k)) ++ drop (at + k) (bits p)
  pub fits : w < 2 ^ 64

pub ahead_none : (p : List ℕ) (end at : ℕ) → end ≤ at → ahead p end at ≡ []
unfolding ahead
ahead_none p end at h = ap (λ n. take n (drop at (bits p))) (let u : end - at ≡ 0 = omega arith in u)

pub ahead_bit : (p : List ℕ) (end at : ℕ) (b : Bool) → at < end → drop at (bits p) ≡ b ∷ drop (at + 1) (bits p) → ahead p end at ≡ b ∷ ahead p end (at + 1)
ahead_bit p end at b h e = ahead_goes p end at 1 (b ∷ []) e refl (omega arith)

-- ---- the last 1

zeros_test : ℕ → Bool
zeros_test b = eqb (b % 2 ^ count_trailing_zeros 8 b) 0

one_test : ℕ → Bool
one_test n = eqb (suc n / 2 ^ count_trailing_zeros 8 (suc n) % 2) 1

pub byte_zeros : (b : ℕ) → b < 256 → b % 2 ^ count_trailing_zeros 8 b ≡ 0
unfolding zeros_test count_trailing_zeros
byte_zeros b h = eqb-true _ _ (agree_below_at zeros_test (λ _. true) 256 b refl h)

pub byte_one : (b : ℕ) → 0 < b → b < 256 → b / 2 ^ count_trailing_zeros 8 b % 2 ≡ 1
unfolding one_test count_trailing_zeros
byte_one zero some h = absurd (omega arith)
byte_one (suc n) some h = eqb-true _ _ (agree_below_at one_test (λ _. true) 255 n refl (omega arith))

byte_front : (p : List ℕ) (i : ℕ) → i < length p → drop (8 * i) (bits p) ≡ bits_of 8 (get_or p i 0) ++ drop (8 * i + 8) (bits p)
byte_front p i h =
    drop_bits i p ∙ ap bits (drop_more p i 0 h)
    ∙ ap (λ l. bits_of 8 (get_or p i 0) ++ l) (sym (drop_bits (i + 1) p) ∙ ap (λ n. drop n (bits p)) (let e : 8 * (i + 1) ≡ 8 * i + 8 = omega arith in e))

pub last_step : (p : List ℕ) (end last : ℕ) → 0 < last → last ≤ length p → 8 * last ≤ end → get_or p (last - 1) 0 ≡ 0 →
    ahead p end (8 * last) ≡ zeros (end - 8 * last) → ahead p end (8 * (last - 1)) ≡ zeros (end - 8 * (last - 1))
last_step p end last some inside fits none rest =
    let i = last - 1 in
    ahead_goes p end (8 * i) 8 (bits_of 8 (get_or p i 0)) (byte_front p i (omega arith)) refl (omega arith)
    ∙ ap (λ l. l ++ ahead p end (8 * i + 8)) (ap (bits_of 8) none) ∙ ap (λ n. zeros 8 ++ ahead p end n) (let e : 8 * i + 8 ≡ 8 * last = omega arith in e)
    ∙ ap (λ l. zeros 8 ++ l) rest ∙ zeros-zeros 8 (end - 8 * last) ∙ ap zeros (let e : 8 + (end - 8 * last) ≡ end - 8 * i = omega arith in e)

pub last_found : (p : List ℕ) (end last t r : ℕ) → 0 < last → last ≤ length p → 8 * last ≤ end → t < 8 → r ≡ 8 * last - t →
    get_or p (last - 1) 0 % 2 ^ t ≡ 0 → get_or p (last - 1) 0 / 2 ^ t % 2 ≡ 1 → ahead p end (8 * last) ≡ zeros (end - 8 * last) → LastOne p end r
last_found p end last t r some inside fits few is zero_bits one rest =
    let i = last - 1 in
    let b = get_or p i 0 in
    let all = bits p in
    let byte = byte_front p i (omega arith) in
    let behind_byte = drop (8 * i + 8) all in
    let x = bits_of (7 - t) (b / 2 ^ (1 + t)) in
    let y = bits_of 1 (b / 2 ^ t) in
    let z = bits_of t b in
    let parts : bits_of 8 b ≡ x ++ (y ++ z) =
    ap (λ n. bits_of n b) (let u : 8 ≡ (7 - t) + (1 + t) = omega arith in u) ∙ bits_of-append (7 - t) (1 + t) b ∙ ap (λ l. x ++ l) (bits_of-append 1 t b) in
    let two : drop (8 * i) all ≡ x ++ (y ++ (z ++ behind_byte)) =
    byte ∙ ap (λ l. l ++ behind_byte) parts ∙ append_assoc x (y ++ z) behind_byte ∙ ap (λ l. x ++ l) (append_assoc y z behind_byte) in
    let three : drop (8 * i) all ≡ (x ++ y) ++ (z ++ behind_byte) = two ∙ sym (append_assoc x y (z ++ behind_byte)) in
    let lx = length-bits_of (7 - t) (b / 2 ^ (1 + t)) in
    let y_is : y ≡ true ∷ [] = ap (bits_of 1) (let u : b / 2 ^ t ≡ b / 2 ^ t * 2 ^ 0 + 0 = omega arith in u) ∙ bits_of-one 0 (b / 2 ^ t) 0 (lit< tt) true (ap (λ m. eqb m 1) one) in
    let z_is : z ≡ zeros t = bits_of-mod t b ∙ ap (bits_of t) zero_bits ∙ bits_of-zero t in
    let at_one : drop (r - 1) all ≡ true ∷ drop (r - 1 + 1) all =
    middle all x y (z ++ behind_byte) (8 * i) (r - 1) (7 - t) 1 two lx refl (omega arith) ∙ ap (λ l. l ++ drop (r - 1 + 1) all) y_is in
    let at_zeros : drop r all ≡ zeros t ++ drop (r + t) all =
    middle all (x ++ y) z behind_byte (8 * i) r (8 - t) t three (omega (arith, length-append x y, lx, length-bits_of 1 (b / 2 ^ t))) (length-bits_of t b) (omega arith) ∙ ap (λ l. l ++ drop (r + t) all) z_is in
    record {
      inside = omega arith;
      behind = ahead_goes p end r t (zeros t) at_zeros (length-replicate t false) (omega arith)
          ∙ ap (λ n. zeros t ++ ahead p end n) (let u : r + t ≡ 8 * last = omega arith in u) ∙ ap (λ l. zeros t ++ l) rest
          ∙ zeros-zeros t (end - 8 * last) ∙ ap zeros (let u : t + (end - 8 * last) ≡ end - r = omega arith in u);
      one = λ h. ahead_goes p end (r - 1) 1 (true ∷ []) at_one refl (omega arith) ∙ ap (λ n. true ∷ ahead p end n) (let u : r - 1 + 1 ≡ r = omega arith in u);
    }

pub last_none : (p : List ℕ) (end last : ℕ) → last ≡ 0 → ahead p end (8 * last) ≡ zeros (end - 8 * last) → LastOne p end 0
last_none p end last is rest =
    record { inside = omega arith; behind = subst (λ n. ahead p end (8 * n) ≡ zeros (end - 8 * n)) is rest; one = λ h. absurd (omega arith) }

take_split : (k m : ℕ) (x : List Bool) → take (k + m) x ≡ take k x ++ take m (drop k x)
take_split zero m x = ap (λ n. take n x) (let u : 0 + m ≡ m = omega arith in u)
take_split (suc k) m [] = ap (λ n. take n (let l : List Bool = [] in l)) (let u : suc k + m ≡ suc (k + m) = omega arith in u) ∙ sym (take_all m [] (omega arith))
take_split (suc k) m (b ∷ x) = ap (λ n. take n (b ∷ x)) (let u : suc k + m ≡ suc (k + m) = omega arith in u) ∙ ap (λ l. b ∷ l) (take_split k m x)

pub ahead_split : (p : List ℕ) (end at k : ℕ) → at + k ≤ end → ahead p end at ≡ take k (drop at (bits p)) ++ ahead p end (at + k)
unfolding ahead
ahead_split p end at k h =
    let x = drop at (bits p) in
    ap (λ n. take n x) (let u : end - at ≡ k + (end - (at + k)) = omega arith in u) ∙ take_split k (end - (at + k)) x
    ∙ ap (λ l. take k x ++ take (end - (at + k)) l) (drop-drop k at (bits p))

-- ---- the bits of the first bytes

pub take_bits : (i : ℕ) (b : List ℕ) → take (8 * i) (bits b) ≡ bits (take i b)
take_bits zero b = refl
take_bits (suc i) [] = take_all (8 * suc i) [] (omega arith)
take_bits (suc i) (x ∷ b) =
    ap (λ n. take n (bits_of 8 x ++ bits b)) (let e : 8 * suc i ≡ 8 + 8 * i = omega arith in e)
    ∙ take_over (bits_of 8 x) (bits b) 8 (8 * i) refl ∙ ap (λ l. bits_of 8 x ++ l) (take_bits i b)

pub ahead_all : (p : List ℕ) (n : ℕ) → ahead p (8 * n) 0 ≡ bits (take n p)
unfolding ahead
ahead_all p n = ap (λ k. take k (bits p)) (let u : 8 * n - 0 ≡ 8 * n = omega arith in u) ∙ take_bits n p
