-- The bytes that a number was read from, and the rest after them.
use Rattle.std.proofs.Common.{◌≡◌, ℕ, zero, suc, ◌+◌, ◌^◌, ◌<◌, ◌≤◌, Bool, true, false, nat_lt, List, [], ◌∷◌, ◌++◌, length, take, drop, Result, Ok, refl, sym, ap, ◌∙◌, subst, arith}
use Rattle.std.specs.Prelude.{if◌then◌else◌}
use Rattle.std.specs.Int.{Width, byte_len, w8, w16, w32, w64, to_be_bytes, from_be_bytes}
use Rattle.std.proofs.lemmas.Bool.{ltb-false}
use Rattle.std.proofs.lemmas.List.{take-append-drop, length-take}
use Rattle.std.proofs.lemmas.Nat.{be_bytes_2, be_bytes_4, be_bytes_8}
use Rattle.pw_outside.specs.Reading.{Fault, Rest, number_at, bad, AreBytes, Took}
use Rattle.pw_outside.proofs.Steps.{bytes-drop, bytes-take}

abbrev done : {K A : Type 0} → A → Result A (Fault K)
done x = Ok x

pub ok_is : {K A : Type 0} (x y : A) → done {K = K} x ≡ done {K = K} y → x ≡ y
ok_is x y e = cc

-- a read that wasn't short
read_ok : {K A : Type 0} (short : K) (b : Bool) (place : ℕ) (x y : A) → (if b then bad short place else done x) ≡ done {K = K} y → (b ≡ false) × (x ≡ y)
read_ok short true place x y e = absurd cc
read_ok short false place x y e = (refl, ok_is x y e)

-- a number of a width is below its limit, and its bytes are those that it was read from
pub record IsWide (w : Width) (limit : ℕ) : Type 0 where
  pub len : (n : ℕ) → length (to_be_bytes w n) ≡ byte_len w
  pub back : (bytes : List ℕ) → length bytes ≡ byte_len w → AreBytes bytes → to_be_bytes w (from_be_bytes w bytes) ≡ bytes
  pub below : (bytes : List ℕ) → AreBytes bytes → from_be_bytes w bytes < limit

pub wide16 : IsWide w16 (2 ^ 16)
wide16 = record { len = λ n. refl; back = λ bytes len fits. be_bytes_2 bytes _ len fits refl; below = λ bytes fits. omega (arith, fits 0, fits 1) }

pub wide32 : IsWide w32 (2 ^ 32)
wide32 = record { len = λ n. refl; back = λ bytes len fits. be_bytes_4 bytes _ len fits refl; below = λ bytes fits. omega (arith, fits 0, fits 1, fits 2, fits 3) }

pub wide64 : IsWide w64 (2 ^ 64)
wide64 = record { len = λ n. refl; back = λ bytes len fits. be_bytes_8 bytes _ len fits refl; below = λ bytes fits. omega (arith, fits 0, fits 1, fits 2, fits 3, fits 4, fits 5, fits 6, fits 7) }

-- the bytes that a number was read from
pub number_took : {K : Type 0} (short : K) (w : Width) (limit : ℕ) → IsWide w limit → (s : Rest) (x : ℕ × Rest) → AreBytes s.bytes → number_at short w s ≡ Ok x → Took s (to_be_bytes w x.0) x.1 × (x.0 < limit)
number_took short w limit wide s x fits e =
    let g = read_ok short (nat_lt (length s.bytes) (byte_len w)) s.place (from_be_bytes w (take (byte_len w) s.bytes), record { place = s.place + byte_len w; bytes = drop (byte_len w) s.bytes }) x e in
    let long : byte_len w ≤ length s.bytes = ltb-false _ _ g.0 in
    let front : List ℕ = take (byte_len w) s.bytes in
    let len : length front ≡ byte_len w = omega (arith, length-take (byte_len w) s.bytes) in
    let back : to_be_bytes w (from_be_bytes w front) ≡ front = wide.back front len (bytes-take (byte_len w) s.bytes fits) in
    subst (λ (y : ℕ × Rest). Took s (to_be_bytes w y.0) y.1 × (y.0 < limit)) g.1 (
      record {
        parts = sym (ap (λ l. l ++ drop (byte_len w) s.bytes) back ∙ take-append-drop (byte_len w) s.bytes);
        place = omega (arith, wide.len (from_be_bytes w front));
        behind = bytes-drop (byte_len w) s.bytes fits;
      },
      wide.below front (bytes-take (byte_len w) s.bytes fits),
    )

-- a byte
byte_at : {K : Type 0} (short : K) (place : ℕ) (bytes : List ℕ) (x : ℕ × Rest) → AreBytes bytes → number_at short w8 (record { place = place; bytes = bytes }) ≡ Ok x → Took (record { place = place; bytes = bytes }) (x.0 ∷ []) x.1 × (x.0 < 256)
byte_at short place [] x fits e = absurd cc
byte_at short place (b ∷ bs) x fits e =
    let g = read_ok short (nat_lt (length (b ∷ bs)) 1) place (from_be_bytes w8 (b ∷ []), record { place = place + 1; bytes = bs }) x e in
    let one : from_be_bytes w8 (b ∷ []) ≡ b = omega arith in
    subst (λ (y : ℕ × Rest). Took (record { place = place; bytes = b ∷ bs }) (y.0 ∷ []) y.1 × (y.0 < 256)) g.1
    (record { parts = ap (λ (n : ℕ). n ∷ bs) (sym one); place = omega arith; behind = λ i. fits (suc i) }, omega (arith, one, fits 0))

pub byte_took : {K : Type 0} (short : K) (s : Rest) (x : ℕ × Rest) → AreBytes s.bytes → number_at short w8 s ≡ Ok x → Took s (x.0 ∷ []) x.1 × (x.0 < 256)
byte_took short s x fits e = byte_at short s.place s.bytes x fits e

-- a number other than 0 is at least 1
pub positive : (n : ℕ) → (n ≡ 0 → ⊥) → 1 ≤ n
positive zero h = absurd (h refl)
positive (suc n) h = omega arith
