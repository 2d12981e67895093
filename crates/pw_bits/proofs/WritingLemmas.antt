-- Laws of what is written: one list of bits and then another, and the parts of one call.
use Rattle.std.proofs.Common.{◌≡◌, ℕ, zero, suc, ◌+◌, ◌-◌, ◌*◌, ◌/◌, ◌%◌, ◌^◌, ◌<◌, ◌≤◌, Bool, List, [], ◌++◌, length, take, drop, Option, refl, ap, sym, ◌∙◌, subst, arith, append_assoc, append-nil, length-append}
use Rattle.std.proofs.lemmas.Nat.{shr_below, shl_whole, mul-add-lt, pow-add}
use Rattle.std.proofs.lemmas.List.{take-append-drop, take_rest}
use Rattle.std.specs.Io.KnownBytes.{Appends}
use Rattle.std.proofs.KnownBytes.{Appends-nil, Appends-trans}
use Rattle.std.specs.Int.{bytes_high_first}
use Rattle.pw_outside.specs.Ports.{last, taken_more}
use Rattle.pw_bits.specs.Bits.{bits_of, value, bits, zeros, whole, left, padding, bytes}
use Rattle.pw_bits.specs.Writing.{Written, written, Writes, Begins}
use Rattle.pw_bits.proofs.BitsLemmas.{pow_mono_at, bits_of_cat, bits_of-append, whole-append, left-append, length-bits_of, length-left, length-left_mod, left-none, length-padded, short_whole, short_left, whole-bits, left-bits, bits-high_first, bits_of-mod, AreBytes-high_first}

-- the bytes of two lists of bits
whole-two : (p l m : List Bool) → whole (p ++ (l ++ m)) ≡ whole (p ++ l) ++ whole (left (p ++ l) ++ m)
whole-two p l m = ap whole (sym (append_assoc p l m)) ∙ whole-append (p ++ l) m

taken-two : (t u v : ℕ) (a b c : List ℕ) → u ≡ taken_more t (length a) → v ≡ taken_more u (length b) → c ≡ a ++ b → v ≡ taken_more t (length c)
taken-two t u v a b c e f g = omega (arith, e, f, ap length g, length-append a b)

-- after a call fewer than 8 bits are pending
pub Writes-short : {before after : Written} {l : List Bool} → Writes before after l → length after.pending < 8
Writes-short {before} {after} {l} w = subst (λ p. length p < 8) (sym w.pending) (length-left (before.pending ++ l))

-- no bits
pub Writes-nil : (at : Written) → length at.pending < 8 → at.taken ≤ last → Writes at at []
Writes-nil at short counts =
    let none : whole (at.pending ++ []) ≡ [] = ap whole (append-nil at.pending) ∙ short_whole at.pending short in
    record {
      bytes = subst (Appends at.held at.held) (sym none) (Appends-nil at.held);
      taken = subst (λ b. at.taken ≡ taken_more at.taken (length b)) (sym none) (omega arith);
      pending = sym (ap left (append-nil at.pending) ∙ short_left at.pending short);
    }

-- one list of bits and then another
pub Writes-Writes : {before mid after : Written} {l m : List Bool} → Writes before mid l → Writes mid after m → Writes before after (l ++ m)
Writes-Writes {before} {mid} {after} {l} {m} a b =
    let p = before.pending in
    let w : whole (p ++ (l ++ m)) ≡ whole (p ++ l) ++ whole (mid.pending ++ m) = whole-two p l m ∙ ap (λ q. whole (p ++ l) ++ whole (q ++ m)) (sym a.pending) in
    record {
      bytes = subst (Appends before.held after.held) (sym w) (Appends-trans before.held mid.held after.held (whole (p ++ l)) (whole (mid.pending ++ m)) a.bytes b.bytes);
      taken = taken-two before.taken mid.taken after.taken (whole (p ++ l)) (whole (mid.pending ++ m)) (whole (p ++ (l ++ m))) a.taken b.taken w;
      pending = b.pending ∙ ap (λ q. left (q ++ m)) a.pending ∙ sym (left-append (p ++ l) m) ∙ ap left (append_assoc p l m);
    }

-- the first of two failed
pub Begins-first : {before after : Written} {l : List Bool} (m : List Bool) → Begins before after l → Begins before after (l ++ m)
Begins-first {before} {after} {l} m b =
    let p = before.pending in
    let more = whole (left (p ++ l) ++ m) in
    record {
      front = b.front;
      rest = b.rest ++ more;
      parts = sym (append_assoc b.front b.rest more) ∙ ap (λ x. x ++ more) b.parts ∙ sym (whole-two p l m);
      bytes = b.bytes;
      taken = b.taken;
    }

-- the second of two failed
pub Begins-second : {before mid after : Written} {l m : List Bool} → Writes before mid l → Begins mid after m → Begins before after (l ++ m)
Begins-second {before} {mid} {after} {l} {m} a b =
    let p = before.pending in
    record {
      front = whole (p ++ l) ++ b.front;
      rest = b.rest;
      parts = append_assoc (whole (p ++ l)) b.front b.rest ∙ ap (λ x. whole (p ++ l) ++ x) (b.parts ∙ ap (λ q. whole (q ++ m)) a.pending) ∙ sym (whole-two p l m);
      bytes = Appends-trans before.held mid.held after.held (whole (p ++ l)) b.front a.bytes b.bytes;
      taken = taken-two before.taken mid.taken after.taken (whole (p ++ l)) b.front (whole (p ++ l) ++ b.front) a.taken b.taken refl;
    }

-- ---- the end of a stream

-- padding depends on the pending bits alone
pub padding-left : (l : List Bool) → padding (left l) ≡ padding l
padding-left l = ap (λ n. zeros ((8 - n) % 8)) (let e : length (left l) % 8 ≡ length l % 8 = omega (arith, length-left_mod l) in e)

-- after the padding nothing is pending
pub left-padded : (l : List Bool) → left (l ++ padding l) ≡ []
left-padded l = left-none (l ++ padding l) (length-padded l)

-- bits and then the padding are the bytes of all bits
pub Writes-padded : {before mid after : Written} {l : List Bool} → Writes before mid l → Writes mid after (padding mid.pending) →
    Appends before.held after.held (bytes (before.pending ++ l)) × (after.taken ≡ taken_more before.taken (length (bytes (before.pending ++ l)))) × (after.pending ≡ [])
Writes-padded {before} {mid} {after} {l} a b =
    let p = before.pending in
    let all = Writes-Writes a b in
    let q : padding mid.pending ≡ padding (p ++ l) = ap padding a.pending ∙ padding-left (p ++ l) in
    let w : whole (p ++ (l ++ padding mid.pending)) ≡ bytes (p ++ l) = ap whole (sym (append_assoc p l (padding mid.pending))) ∙ ap (λ z. whole ((p ++ l) ++ z)) q in (
      subst (Appends before.held after.held) w all.bytes,
      all.taken ∙ ap (λ x. taken_more before.taken (length x)) w,
      b.pending ∙ left-padded mid.pending,
    )

-- ---- the parts of one call

pub joined_value : (count n low value : ℕ) → low < 2 ^ count → count < 8 → n ≤ 32 → low * 2 ^ n % 2 ^ 64 + value ≡ low * 2 ^ n + value
joined_value count n low value h k m = ap (λ x. x + value) (shl_whole low count n 64 h (omega arith))

pub joined_fits : (count n low value : ℕ) → low < 2 ^ count → value < 2 ^ n → low * 2 ^ n + value < 2 ^ (count + n)
joined_fits count n low value h v = omega (arith, mul-add-lt low (2 ^ n) value (2 ^ count) h v, pow-add 2 count n)

pub joined_bits : (count n low value : ℕ) → low < 2 ^ count → value < 2 ^ n → count < 8 → n ≤ 32 → bits_of (count + n) (low * 2 ^ n % 2 ^ 64 + value) ≡ bits_of count low ++ bits_of n value
joined_bits count n low value h v k m = ap (bits_of (count + n)) (joined_value count n low value h k m) ∙ bits_of_cat count n low value v

-- the last bytes of four
last_bytes : (k n : ℕ) → k ≤ 4 → drop (4 - k) (bytes_high_first 4 n) ≡ bytes_high_first k n
last_bytes zero n h = refl
last_bytes (suc zero) n h = refl
last_bytes (suc (suc zero)) n h = refl
last_bytes (suc (suc (suc zero))) n h = refl
last_bytes (suc (suc (suc (suc zero)))) n h = refl
last_bytes (suc (suc (suc (suc (suc k))))) n h = absurd (omega arith)

pub piece-is : (b : List ℕ) (n x k : ℕ) → b ≡ bytes_high_first 4 n → x ≡ k → take (4 - (4 - x)) (drop (4 - x) b) ≡ drop (4 - k) (bytes_high_first 4 n)
piece-is b n x k e f =
    ap (λ y. take (4 - (4 - y)) (drop (4 - y) b)) f ∙ ap (λ c. take (4 - (4 - k)) (drop (4 - k) c)) e ∙ take_rest (bytes_high_first 4 n) (4 - k)

-- a number of so many bits, as its whole bytes and what is left
whole_parts : (k r all : ℕ) → r < 8 → (whole (bits_of (8 * k + r) all) ≡ bytes_high_first k (all / 2 ^ r)) × (left (bits_of (8 * k + r) all) ≡ bits_of r (all % 2 ^ r))
whole_parts k r all h =
    let b = bytes_high_first k (all / 2 ^ r) in
    let m = bits_of r (all % 2 ^ r) in
    let short : length m < 8 = omega (arith, length-bits_of r (all % 2 ^ r)) in
    let e : bits_of (8 * k + r) all ≡ bits b ++ m = bits_of-append (8 * k) r all ∙ ap (λ l. l ++ bits_of r all) (sym (bits-high_first k (all / 2 ^ r))) ∙ ap (λ l. bits b ++ l) (bits_of-mod r all) in (
      ap whole e ∙ whole-bits b m (AreBytes-high_first k (all / 2 ^ r)) ∙ ap (λ l. b ++ l) (short_whole m short) ∙ append-nil b,
      ap left e ∙ left-bits b m ∙ short_left m short,
    )

-- what one call has: the pending bits and those of the value, as a number of `total` bits
pub record Joined (count low n value all total : ℕ) : Type 0 where
  pub fits : all < 2 ^ total
  pub few : total < 40
  pub bits : bits_of total all ≡ bits_of count low ++ bits_of n value

pub joined : (count n low value front word : ℕ) → count < 8 → low < 2 ^ count → n ≤ 32 → value < 2 ^ n → front ≡ low → word ≡ value → Joined count low n value (front * 2 ^ n % 2 ^ 64 + word) (count + n)
joined count n low value front word few fits size small same_low same =
    let v = joined_value count n front word (subst (λ x. x < 2 ^ count) (sym same_low) fits) few size in
    let f = joined_fits count n front word (subst (λ x. x < 2 ^ count) (sym same_low) fits) (subst (λ x. x < 2 ^ n) (sym same) small) in
    record {
      fits = omega (arith, v, f);
      few = omega arith;
      bits = ap (λ x. bits_of (count + n) (x * 2 ^ n % 2 ^ 64 + word)) same_low ∙ ap (λ x. bits_of (count + n) (low * 2 ^ n % 2 ^ 64 + x)) same ∙ joined_bits count n low value fits small few size;
    }

module _ (count low n value all total : ℕ) (j : Joined count low n value all total) where
  pub number-lt : all / 2 ^ (total % 8) < 2 ^ 32
  number-lt =
      let e : total ≡ 8 * (total / 8) + total % 8 = omega arith in
      let few : 8 * (total / 8) ≤ 32 = omega (arith, j.few) in
      omega (arith, shr_below all (8 * (total / 8)) (total % 8) (subst (λ t. all < 2 ^ t) e j.fits), pow_mono_at (8 * (total / 8)) 32 few)

  call_parts : (pending : List Bool) → bits_of count low ≡ pending →
      (whole (pending ++ bits_of n value) ≡ drop (4 - total / 8) (bytes_high_first 4 (all / 2 ^ (total % 8)))) × (left (pending ++ bits_of n value) ≡ bits_of (total % 8) (all % 2 ^ (total % 8)))
  call_parts pending same =
      let k = total / 8 in
      let r = total % 8 in
      let e : pending ++ bits_of n value ≡ bits_of (8 * k + r) all = ap (λ p. p ++ bits_of n value) (sym same) ∙ sym j.bits ∙ ap (λ t. bits_of t all) (let u : total ≡ 8 * k + r = omega arith in u) in
      let p = whole_parts k r all (omega arith) in
      (ap whole e ∙ p.0 ∙ sym (last_bytes k (all / 2 ^ r) (omega (arith, j.few))), ap left e ∙ p.1)

  pub Writes-call : (h0 h1 : Option (List ℕ)) (t0 t1 mask : ℕ) (pending : List Bool) (piece : List ℕ) → bits_of count low ≡ pending → mask ≡ 2 ^ (total % 8)
      → piece ≡ drop (4 - total / 8) (bytes_high_first 4 (all / 2 ^ (total % 8))) → Appends h0 h1 piece → t1 ≡ taken_more t0 (length piece)
      → Writes (written h0 t0 pending) (written h1 t1 (bits_of (total % 8) (all % mask))) (bits_of n value)
  Writes-call h0 h1 t0 t1 mask pending piece same power is held count_is =
      let p = call_parts pending same in
      let w : piece ≡ whole (pending ++ bits_of n value) = is ∙ sym p.0 in
      record {
        bytes = subst (Appends h0 h1) w held;
        taken = count_is ∙ ap (λ b. taken_more t0 (length b)) w;
        pending = ap (λ x. bits_of (total % 8) (all % x)) power ∙ sym p.1;
      }

  pub Begins-call : (h0 h1 : Option (List ℕ)) (t0 t1 out : ℕ) (pending after : List Bool) (piece : List ℕ) → bits_of count low ≡ pending
      → piece ≡ drop (4 - total / 8) (bytes_high_first 4 (all / 2 ^ (total % 8))) → Appends h0 h1 (take out piece) → t1 ≡ taken_more t0 (length (take out piece))
      → Begins (written h0 t0 pending) (written h1 t1 after) (bits_of n value)
  Begins-call h0 h1 t0 t1 out pending after piece same is held count_is =
      let p = call_parts pending same in
      record {
        front = take out piece;
        rest = drop out piece;
        parts = take-append-drop out piece ∙ is ∙ sym p.0;
        bytes = held;
        taken = count_is;
      }
