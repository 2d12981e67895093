-- Bits written to memory.
use Rattle.std.proofs.Common.{◌≡◌, ℕ, zero, suc, ◌+◌, ◌-◌, ◌*◌, ◌/◌, ◌%◌, ◌^◌, ◌<◌, ◌≤◌, Bool, List, [], ◌∷◌, ◌++◌, length, take, refl, ap, sym, ◌∙◌, arith, length-append, append_assoc, append-nil, lit<}
use Rattle.std.proofs.lemmas.Nat.{pow-add, shl-shr, shr-shr, shl_whole, one_shl, mul-add-lt}
use Rattle.std.proofs.lemmas.List.{length-take, take-append-le, take_at}
use Rattle.std.specs.Int.{bytes_high_first}
use Rattle.pw_outside.proofs.Steps.{bytes-take}
use Rattle.pw_bits.specs.Bits.{bits_of, bits, bytes, whole, padding, zeros, AreBytes}
use Rattle.pw_bits.proofs.BitsLemmas.{length-bits_of, bits_of-append, bits_of-mod, bits_of-zero, bits_of_cat, bits-high_first, pow_mono_at, whole-bits}
use Rattle.pw_bits.specs.Spelled.{spelled}
use Rattle.pw_bits.proofs.PlacesLemmas.{take_bits, bits_both}

pub length_of_bits : (b : List ℕ) → length (bits b) ≡ 8 * length b
length_of_bits [] = refl
length_of_bits (x ∷ b) = omega (arith, length-append (bits_of 8 x) (bits b), length-bits_of 8 x, length_of_bits b)

over : (a x : List ℕ) (k m : ℕ) → length a ≡ k → take (k + m) (a ++ x) ≡ a ++ take m x
over [] x k m e = ap (λ n. take n x) (let u : k + m ≡ m = omega (arith, e) in u)
over (b ∷ a) x zero m e = absurd (omega (arith, e))
over (b ∷ a) x (suc k) m e =
    ap (λ n. take n (b ∷ (a ++ x))) (let u : suc k + m ≡ suc (k + m) = omega arith in u) ∙ ap (λ l. b ∷ l) (over a x k m (omega (arith, e)))

eight_part : (v w : ℕ) → w ≤ 8 → bits (take w (bytes_high_first 8 v)) ≡ bits_of (8 * w) (v / 2 ^ (64 - 8 * w))
eight_part v w h =
    let r = 64 - 8 * w in
    sym (take_bits w (bytes_high_first 8 v)) ∙ ap (take (8 * w)) (bits-high_first 8 v ∙ ap (λ k. bits_of k v) (let u : 64 ≡ 8 * w + r = omega arith in u) ∙ bits_of-append (8 * w) r v)
    ∙ take_at (bits_of (8 * w) (v / 2 ^ r)) (bits_of r v) (8 * w) (length-bits_of (8 * w) (v / 2 ^ r))

pub store_bits : (out post : List ℕ) (at w v : ℕ) → at + 8 ≤ length out → w ≤ 8 →
    bits (take (at + w) (take at out ++ (bytes_high_first 8 v ++ post))) ≡ bits (take at out) ++ bits_of (8 * w) (v / 2 ^ (64 - 8 * w))
store_bits out post at w v room h =
    let front : length (take at out) ≡ at = omega (arith, length-take at out) in
    ap bits (over (take at out) (bytes_high_first 8 v ++ post) at w front ∙ ap (λ l. take at out ++ l) (take-append-le w (bytes_high_first 8 v) post h))
    ∙ bits_both (take at out) (take w (bytes_high_first 8 v)) ∙ ap (λ l. bits (take at out) ++ l) (eight_part v w h)

module _ (low count value n : ℕ) (fits : low < 2 ^ count) (few : count < 8) (some : 0 < n) (short : n ≤ 57) (small : value < 2 ^ n) where
  pub joined_is : low * 2 ^ n % 2 ^ 64 + value ≡ low * 2 ^ n + value
  joined_is = ap (λ x. x + value) (shl_whole low count n 64 fits (omega arith))

  pub joined_lt : low * 2 ^ n % 2 ^ 64 + value < 2 ^ (count + n)
  joined_lt = omega (arith, joined_is, mul-add-lt low (2 ^ n) value (2 ^ count) fits small, pow-add 2 count n)

  pub joined_fits : low * 2 ^ n % 2 ^ 64 + value < 2 ^ 64
  joined_fits = omega (arith, joined_lt, pow_mono_at (count + n) 64 (omega arith))

  pub put_spelled : (old new : List ℕ) (at : ℕ) →
      ((w : ℕ) → w ≤ 8 → bits (take (at + w) new) ≡ bits (take at old) ++ bits_of (8 * w) ((low * 2 ^ n % 2 ^ 64 + value) * 2 ^ (64 - (count + n)) % 2 ^ 64 / 2 ^ (64 - 8 * w))) →
      spelled new (at + (count + n) / 8) ((low * 2 ^ n % 2 ^ 64 + value) % (1 * 2 ^ ((count + n) % 8) % 2 ^ 64)) ((count + n) % 8) ≡ spelled old at low count ++ bits_of n value
  unfolding spelled
  put_spelled old new at stored =
      let all = low * 2 ^ n % 2 ^ 64 + value in
      let total = count + n in
      let w = total / 8 in
      let r = total % 8 in
      let front = bits (take at old) in
      let whole_shift : all * 2 ^ (64 - total) % 2 ^ 64 ≡ all * 2 ^ (64 - total) = shl_whole all total (64 - total) 64 joined_lt (omega arith) in
      let back : all * 2 ^ (64 - total) % 2 ^ 64 / 2 ^ (64 - 8 * w) ≡ all / 2 ^ r =
      ap (λ x. x / 2 ^ (64 - 8 * w)) whole_shift ∙ ap (λ j. all * 2 ^ (64 - total) / 2 ^ j) (let u : 64 - 8 * w ≡ 64 - total + r = omega arith in u)
      ∙ sym (shr-shr (all * 2 ^ (64 - total)) (64 - total) r) ∙ ap (λ x. x / 2 ^ r) (shl-shr all (64 - total)) in
      let bytes_are : bits (take (at + w) new) ≡ front ++ bits_of (8 * w) (all / 2 ^ r) = stored w (omega arith) ∙ ap (λ x. front ++ bits_of (8 * w) x) back in
      let rest : bits_of r (all % (1 * 2 ^ r % 2 ^ 64)) ≡ bits_of r all = ap (λ m. bits_of r (all % m)) (one_shl r 64 (omega arith)) ∙ sym (bits_of-mod r all) in
      let both : bits_of (8 * w) (all / 2 ^ r) ++ bits_of r all ≡ bits_of count low ++ bits_of n value =
      sym (bits_of-append (8 * w) r all) ∙ ap (λ k. bits_of k all) (let u : 8 * w + r ≡ count + n = omega arith in u) ∙ ap (bits_of (count + n)) joined_is ∙ bits_of_cat count n low value small in
      ap (λ l. l ++ bits_of r (all % (1 * 2 ^ r % 2 ^ 64))) bytes_are ∙ ap (λ l. (front ++ bits_of (8 * w) (all / 2 ^ r)) ++ l) rest
      ∙ append_assoc front (bits_of (8 * w) (all / 2 ^ r)) (bits_of r all) ∙ ap (λ l. front ++ l) both
      ∙ sym (append_assoc front (bits_of count low) (bits_of n value))

-- ---- the end

length-spelled : (out : List ℕ) (at low count : ℕ) → at ≤ length out → length (spelled out at low count) ≡ 8 * at + count
unfolding spelled
length-spelled out at low count h =
    omega (arith, length-append (bits (take at out)) (bits_of count low), length_of_bits (take at out), length-bits_of count low, length-take at out)

bytes_of_bits : (b : List ℕ) (l : List Bool) → AreBytes b → bits b ≡ l ++ padding l → b ≡ bytes l
bytes_of_bits b l h e =
    sym (append-nil b) ∙ sym (whole-bits b [] h) ∙ ap whole (append-nil (bits b) ∙ e)

pub finish_none : (out : List ℕ) (at low count : ℕ) → count ≡ 0 → at ≤ length out → AreBytes out → take at out ≡ bytes (spelled out at low count)
unfolding spelled
finish_none out at low count none inside h =
    let l = spelled out at low count in
    let size : (8 - length l % 8) % 8 ≡ 0 = omega (arith, length-spelled out at low count inside, none) in
    let e : bits (take at out) ≡ l ++ padding l =
    sym (append-nil (bits (take at out))) ∙ ap (λ k. bits (take at out) ++ bits_of k low) (sym none) ∙ sym (append-nil l) ∙ ap (λ k. l ++ zeros k) (sym size) in
    bytes_of_bits (take at out) l (bytes-take at out h) e

pub finish_some : (old out : List ℕ) (at low count at' low' count' : ℕ) → 0 < count → count < 8 → count' < 8 → at ≤ length old → AreBytes out →
    8 * at' + count' ≡ 8 * at + count + (8 - count) → spelled out at' low' count' ≡ spelled old at low count ++ bits_of (8 - count) 0 → take at' out ≡ bytes (spelled old at low count)
unfolding spelled
finish_some old out at low count at' low' count' some few few' inside h place e =
    let l = spelled old at low count in
    let size : (8 - length l % 8) % 8 ≡ 8 - count = omega (arith, length-spelled old at low count inside) in
    let none : count' ≡ 0 = omega (arith, place) in
    let same : bits (take at' out) ≡ l ++ padding l =
    sym (append-nil (bits (take at' out))) ∙ ap (λ k. bits (take at' out) ++ bits_of k low') (sym none) ∙ e ∙ ap (λ x. l ++ x) (bits_of-zero (8 - count) ∙ ap zeros (sym size)) in
    bytes_of_bits (take at' out) l (bytes-take at' out h) same

pub spelled_start : (out : List ℕ) (at low count : ℕ) → at ≡ 0 → count ≡ 0 → spelled out at low count ≡ []
unfolding spelled
spelled_start out at low count a b = ap (λ n. bits (take n out) ++ bits_of count low) a ∙ ap (λ n. bits_of n low) b
