-- Laws of numbers and bytes as lists of bits.
use Rattle.std.proofs.Common.{◌≡◌, ℕ, zero, suc, ◌+◌, ◌-◌, ◌*◌, ◌/◌, ◌%◌, ◌^◌, ◌<◌, ◌≤◌, inl, inr, Bool, true, false, cond, eqb, List, [], ◌∷◌, ◌++◌, length, refl, ap, sym, ◌∙◌, subst, arith, length-append, append_assoc, append-nil, lit<, lit≤}
use Rattle.std.specs.Int.{byte_at, bytes_high_first}
use Rattle.std.proofs.lemmas.Bool.{cases_lt}
use Rattle.std.proofs.lemmas.List.{length-replicate, nil_from_length}
use Rattle.std.proofs.lemmas.Nat.{pow_pos, pow_below, pow-add, mod-pow-add, shr-shr, shr_high, mod_below, shr_split}
use Rattle.std.proofs.lemmas.Nat.Bits.{bit_at_cat_low}
use Rattle.pw_bits.specs.Bits.{bits_of, value, bits, zeros, whole, left, padding, bytes, AreBytes}

pub length-bits_of : (k n : ℕ) → length (bits_of k n) ≡ k
length-bits_of zero n = refl
length-bits_of (suc k) n = ap suc (length-bits_of k n)

bit_value : (b p : ℕ) → b < 2 → cond (eqb b 1) p 0 ≡ b * p
bit_value zero p h = grind arith
bit_value (suc zero) p h = grind arith
bit_value (suc (suc b)) p h = absurd (omega arith)

value-cons : (b : Bool) (l : List Bool) (p v : ℕ) → length l ≡ p → value l ≡ v → value (b ∷ l) ≡ cond b (2 ^ p) 0 + v
value-cons b l p v e f = ap (λ q. cond b (2 ^ q) 0 + value l) e ∙ ap (λ w. cond b (2 ^ p) 0 + w) f

pub value-bits_of : (k n : ℕ) → value (bits_of k n) ≡ n % 2 ^ k
value-bits_of zero n = omega arith
value-bits_of (suc k) n =
    let v = bit_value (n / 2 ^ k % 2) (2 ^ k) (mod_below (n / 2 ^ k) 2 (omega arith)) in
    let m = mod-pow-add n 1 k in
    let s : 1 + k ≡ suc k = omega arith in
    let m' : n % 2 ^ suc k ≡ n / 2 ^ k % 2 * 2 ^ k + n % 2 ^ k = subst (λ j. n % 2 ^ j ≡ n / 2 ^ k % 2 * 2 ^ k + n % 2 ^ k) s m in
    value-cons _ (bits_of k n) k _ (length-bits_of k n) (value-bits_of k n) ∙ omega (arith, v, m')

-- a number of k bits and more before has the bits of both
pub bits_of_low : (i a k b : ℕ) → i ≤ k → bits_of i (a * 2 ^ k + b) ≡ bits_of i b
bits_of_low zero a k b h = refl
bits_of_low (suc i) a k b h =
    rw (bit_at_cat_low a k b i (omega arith), bits_of_low i a k b (omega arith)) refl

pub bits_of-append : (j k n : ℕ) → bits_of (j + k) n ≡ bits_of j (n / 2 ^ k) ++ bits_of k n
bits_of-append zero k n = ap (λ j. bits_of j n) (let s : 0 + k ≡ k = omega arith in s)
bits_of-append (suc j) k n =
    let s : suc j + k ≡ suc (j + k) = omega arith in
    let t : k + j ≡ j + k = omega arith in
    let b : n / 2 ^ k / 2 ^ j ≡ n / 2 ^ (j + k) = shr-shr n k j ∙ ap (λ i. n / 2 ^ i) t in
    ap (λ i. bits_of i n) s ∙ rw (sym b) (ap (λ l. eqb (n / 2 ^ k / 2 ^ j % 2) 1 ∷ l) (bits_of-append j k n))

pub bits_of_cat : (j k a b : ℕ) → b < 2 ^ k → bits_of (j + k) (a * 2 ^ k + b) ≡ bits_of j a ++ bits_of k b
bits_of_cat j k a b h = rw (bits_of-append, shr_high a k b h, bits_of_low k a k b (omega arith)) refl

pub pow_suc : (k : ℕ) → 2 ^ suc k ≡ 2 ^ k + 2 ^ k
pow_suc k = grind arith

pub mod_of_lt : (a m : ℕ) → a < m → a % m ≡ a
mod_of_lt a m h = grind arith

pub value-lt : (l : List Bool) → value l < 2 ^ length l
value-lt [] = omega arith
value-lt (true ∷ l) = omega (arith, value-lt l, pow_suc (length l))
value-lt (false ∷ l) = omega (arith, value-lt l, pow_suc (length l))

pub bits_of-one : (k a v : ℕ) → v < 2 ^ k → (b : Bool) → eqb (a % 2) 1 ≡ b → bits_of (suc k) (a * 2 ^ k + v) ≡ b ∷ bits_of k v
bits_of-one k a v h b e = rw (shr_high a k v h, e, bits_of_low k a k v (omega arith)) refl

pub bits_of-value : (l : List Bool) → bits_of (length l) (value l) ≡ l
bits_of-value [] = refl
bits_of-value (true ∷ l) = ap (λ v. bits_of (suc (length l)) v) (let e : 2 ^ length l + value l ≡ 1 * 2 ^ length l + value l = omega arith in e) ∙ bits_of-one (length l) 1 (value l) (value-lt l) true refl ∙ ap (λ m. true ∷ m) (bits_of-value l)
bits_of-value (false ∷ l) = ap (λ v. bits_of (suc (length l)) v) (let e : 0 + value l ≡ 0 * 2 ^ length l + value l = omega arith in e) ∙ bits_of-one (length l) 0 (value l) (value-lt l) false refl ∙ ap (λ m. false ∷ m) (bits_of-value l)

pub same_number : (k a b : ℕ) → a < 2 ^ k → b < 2 ^ k → bits_of k a ≡ bits_of k b → a ≡ b
same_number k a b ha hb e =
    let v = sym (value-bits_of k a) ∙ ap value e ∙ value-bits_of k b in
    sym (mod_of_lt a (2 ^ k) ha) ∙ v ∙ mod_of_lt b (2 ^ k) hb

pub value_of_bits : (k n : ℕ) → n < 2 ^ k → value (bits_of k n) ≡ n
value_of_bits k n h = value-bits_of k n ∙ mod_of_lt n (2 ^ k) h

-- ---- bytes

pub bits-append : (a b : List ℕ) → bits (a ++ b) ≡ bits a ++ bits b
bits-append [] b = refl
bits-append (x ∷ a) b = ap (λ l. bits_of 8 x ++ l) (bits-append a b) ∙ sym (append_assoc (bits_of 8 x) (bits a) (bits b))

pub bits-whole : (l : List Bool) → bits (whole l) ++ left l ≡ l
bits-whole (a ∷ b ∷ c ∷ d ∷ e ∷ f ∷ g ∷ h ∷ l) =
    ap (λ k. (k ++ bits (whole l)) ++ left l) (bits_of-value (a ∷ b ∷ c ∷ d ∷ e ∷ f ∷ g ∷ h ∷ []))
    ∙ ap (λ k. a ∷ b ∷ c ∷ d ∷ e ∷ f ∷ g ∷ h ∷ k) (bits-whole l)
bits-whole _ = refl

pub length-left : (l : List Bool) → length (left l) < 8
length-left (a ∷ b ∷ c ∷ d ∷ e ∷ f ∷ g ∷ h ∷ l) = length-left l
length-left _ = lit< tt

pub whole-append : (l m : List Bool) → whole (l ++ m) ≡ whole l ++ whole (left l ++ m)
whole-append (a ∷ b ∷ c ∷ d ∷ e ∷ f ∷ g ∷ h ∷ l) m = ap (λ k. value (a ∷ b ∷ c ∷ d ∷ e ∷ f ∷ g ∷ h ∷ []) ∷ k) (whole-append l m)
whole-append _ m = refl

pub left-append : (l m : List Bool) → left (l ++ m) ≡ left (left l ++ m)
left-append (a ∷ b ∷ c ∷ d ∷ e ∷ f ∷ g ∷ h ∷ l) m = left-append l m
left-append _ m = refl

pub length-left_mod : (l : List Bool) → length (left l) ≡ length l % 8
length-left_mod (a ∷ b ∷ c ∷ d ∷ e ∷ f ∷ g ∷ h ∷ l) = omega (arith, length-left_mod l)
length-left_mod _ = refl

-- a list of whole bytes leaves nothing
pub left-none : (l : List Bool) → length l % 8 ≡ 0 → left l ≡ []
left-none l e = nil_from_length (left l) (length-left_mod l ∙ e)

pub padding-fills : (n : ℕ) → (n + (8 - n % 8) % 8) % 8 ≡ 0
padding-fills n = omega arith

pub length-padded : (l : List Bool) → length (l ++ padding l) % 8 ≡ 0
length-padded l = ap (λ n. n % 8) (length-append l (padding l) ∙ ap (λ n. length l + n) (length-replicate ((8 - length l % 8) % 8) false)) ∙ padding-fills (length l)

pub bits-bytes : (l : List Bool) → bits (bytes l) ≡ l ++ padding l
bits-bytes l =
    let all = l ++ padding l in
    sym (append-nil (bits (whole all))) ∙ ap (λ r. bits (whole all) ++ r) (sym (left-none all (length-padded l))) ∙ bits-whole all

pub whole-byte : (l m : List Bool) → length l ≡ 8 → whole (l ++ m) ≡ value l ∷ whole m
whole-byte (a ∷ b ∷ c ∷ d ∷ e ∷ f ∷ g ∷ h ∷ []) m h' = refl
whole-byte _ m h' = absurd (omega (arith, h'))

length-bits : (b : List ℕ) → length (bits b) % 8 ≡ 0
length-bits [] = refl
length-bits (x ∷ b) = omega (arith, length-bits b)

-- bits of bytes, and fewer than 8 bits after them
pub whole-bits : (b : List ℕ) (m : List Bool) → AreBytes b → whole (bits b ++ m) ≡ b ++ whole m
whole-bits [] m h = refl
whole-bits (x ∷ b) m h =
    ap whole (append_assoc (bits_of 8 x) (bits b) m)
    ∙ whole-byte (bits_of 8 x) (bits b ++ m) refl
    ∙ ap (λ v. v ∷ whole (bits b ++ m)) (value_of_bits 8 x (h 0))
    ∙ ap (λ l. x ∷ l) (whole-bits b m (λ i. h (suc i)))

pub left-bits : (b : List ℕ) (m : List Bool) → left (bits b ++ m) ≡ left m
left-bits [] m = refl
left-bits (x ∷ b) m = left-bits b m

pub bytes-bits : (b : List ℕ) → AreBytes b → bytes (bits b) ≡ b
bytes-bits b h =
    let none : padding (bits b) ≡ [] = ap (λ n. zeros ((8 - n) % 8)) (length-bits b) in
    ap (λ p. whole (bits b ++ p)) none ∙ whole-bits b [] h ∙ append-nil b

pub left-byte : (l m : List Bool) → length l ≡ 8 → left (l ++ m) ≡ left m
left-byte (a ∷ b ∷ c ∷ d ∷ e ∷ f ∷ g ∷ h ∷ []) m h' = refl
left-byte _ m h' = absurd (omega (arith, h'))

pub short_whole : (l : List Bool) → length l < 8 → whole l ≡ []
short_whole (a ∷ b ∷ c ∷ d ∷ e ∷ f ∷ g ∷ h ∷ l) k = absurd (omega arith)
short_whole _ k = refl

pub short_left : (l : List Bool) → length l < 8 → left l ≡ l
short_left (a ∷ b ∷ c ∷ d ∷ e ∷ f ∷ g ∷ h ∷ l) k = absurd (omega arith)
short_left _ k = refl

-- the top byte and the others
pub bits_of_top : (k low : ℕ) → bits_of (8 + k) low ≡ bits_of 8 (low / 2 ^ k) ++ bits_of k (low % 2 ^ k)
bits_of_top k low =
    let m : bits_of k low ≡ bits_of k (low % 2 ^ k) = ap (bits_of k) (sym (shr_split low k)) ∙ bits_of_low k (low / 2 ^ k) k (low % 2 ^ k) (omega arith) in
    bits_of-append 8 k low ∙ ap (λ l. bits_of 8 (low / 2 ^ k) ++ l) m

pub bits_of-zero : (z : ℕ) → bits_of z 0 ≡ zeros z
bits_of-zero zero = refl
bits_of-zero (suc z) = let q : 0 / 2 ^ z ≡ 0 = ap (λ x. x / 2 ^ z) (let u : 0 ≡ 0 * 2 ^ z + 0 = omega arith in u) ∙ shr_high 0 z 0 (pow_pos z) in rw q (ap (λ l. false ∷ l) (bits_of-zero z))

-- a small number has zeros before
pub bits_of_small : (z k n : ℕ) → n < 2 ^ k → bits_of (z + k) n ≡ zeros z ++ bits_of k n
bits_of_small z k n h =
    ap (bits_of (z + k)) (let u : n ≡ 0 * 2 ^ k + n = omega arith in u) ∙ bits_of_cat z k 0 n h ∙ ap (λ l. l ++ bits_of k n) (bits_of-zero z)

pub pow_mono_at : (i j : ℕ) → i ≤ j → 2 ^ i ≤ 2 ^ j
pow_mono_at i j h = elim (cases_lt i j) [ inl lt ↦ omega (arith, pow_below i j lt) | inr ge ↦ let e : i ≡ j = omega arith in rw e (omega arith) ]

-- ---- bytes of a number

pow_256 : (k : ℕ) → 256 ^ suc k ≡ 256 * 256 ^ k
pow_256 k = grind arith

pow-bytes : (k : ℕ) → 2 ^ (8 * k) ≡ 256 ^ k
pow-bytes zero = refl
pow-bytes (suc k) = ap (λ n. 2 ^ n) (let s : 8 * suc k ≡ 8 + 8 * k = omega arith in s) ∙ pow-add 2 8 (8 * k) ∙ ap (λ n. 256 * n) (pow-bytes k) ∙ sym (pow_256 k)

bits_of_mod : (x : ℕ) → bits_of 8 (x % 256) ≡ bits_of 8 x
bits_of_mod x = sym (ap (bits_of 8) (sym (shr_split x 8)) ∙ bits_of_low 8 (x / 256) 8 (x % 256) (lit≤ tt))

byte-bits : (k n : ℕ) → bits_of 8 (byte_at k n) ≡ bits_of 8 (n / 2 ^ (8 * k))
byte-bits zero n = bits_of_mod n ∙ ap (bits_of 8) (let q : n ≡ n / 2 ^ 0 = omega arith in q)
byte-bits (suc k) n = bits_of_mod (n / 256 ^ suc k) ∙ ap (λ p. bits_of 8 (n / p)) (sym (pow-bytes (suc k)))

pub bits-high_first : (k n : ℕ) → bits (bytes_high_first k n) ≡ bits_of (8 * k) n
bits-high_first zero n = refl
bits-high_first (suc k) n =
    ap (λ l. l ++ bits (bytes_high_first k n)) (byte-bits k n)
    ∙ ap (λ l. bits_of 8 (n / 2 ^ (8 * k)) ++ l) (bits-high_first k n)
    ∙ sym (bits_of-append 8 (8 * k) n)
    ∙ ap (λ j. bits_of j n) (let s : 8 + 8 * k ≡ 8 * suc k = omega arith in s)

-- the low bits of a number are those of its remainder
pub bits_of-mod : (k n : ℕ) → bits_of k n ≡ bits_of k (n % 2 ^ k)
bits_of-mod k n = ap (bits_of k) (sym (shr_split n k)) ∙ bits_of_low k (n / 2 ^ k) k (n % 2 ^ k) (omega arith)

byte_at-lt : (k n : ℕ) → byte_at k n < 256
byte_at-lt zero n = mod_below n 256 (lit< tt)
byte_at-lt (suc k) n = mod_below (n / 256 ^ suc k) 256 (lit< tt)

pub AreBytes-high_first : (k n : ℕ) → AreBytes (bytes_high_first k n)
AreBytes-high_first zero n i = lit< tt
AreBytes-high_first (suc k) n zero = byte_at-lt k n
AreBytes-high_first (suc k) n (suc i) = AreBytes-high_first k n i
