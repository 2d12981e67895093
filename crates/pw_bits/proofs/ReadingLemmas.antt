-- Laws of what is read, and of the bits of one byte.
use Rattle.std.proofs.Common.{◌≡◌, ℕ, zero, suc, ◌+◌, ◌-◌, ◌*◌, ◌/◌, ◌%◌, ◌^◌, ◌<◌, ◌≤◌, inl, inr, Bool, true, false, List, [], ◌∷◌, ◌++◌, length, take, get_or, Option, Some, None, refl, ap, sym, ◌∙◌, subst, arith, append_assoc, append-nil}
use Rattle.std.specs.Prelude.{IsSome, unwrap_or}
use Rattle.std.specs.Io.KnownBytes.{Consumes, IsAtEnd as NoneLeft, Keeps}
use Rattle.std.proofs.lemmas.Nat.{pow_pos, shr_below, shl_whole, mod_low, mul-add-lt, pow-add, leading_top}
use Rattle.std.proofs.lemmas.Bool.{cases_lt}
use Rattle.std.specs.Int.Count.{count_leading_zeros}
use Rattle.pw_outside.specs.Ports.{Lowers}
use Rattle.pw_outside.specs.Reading.{bytes_of}
use Rattle.pw_bits.specs.Bits.{bits_of, bits, zeros}
use Rattle.pw_bits.specs.Reading.{unread, Takes}
use Rattle.pw_bits.proofs.BitsLemmas.{bits_of_cat, bits_of-append, bits_of-mod, bits_of-zero, bits_of_small, bits_of-one, pow_mono_at, pow_suc}

-- ---- one byte

pub told-read : (old new : Option (List ℕ)) (l : List ℕ) → Consumes old new l → IsSome old → IsSome new
told-read None new l c t = let e : false ≡ true = t in cc
told-read (Some xs) None l c t = absurd c
told-read (Some xs) (Some ys) l c t = refl

pub told-kept : (old new : Option (List ℕ)) → Keeps old new → IsSome old → IsSome new
told-kept None new c t = let e : false ≡ true = t in cc
told-kept (Some xs) None c t = absurd c
told-kept (Some xs) (Some ys) c t = refl

one-byte : (old new : Option (List ℕ)) (byte : ℕ) → Consumes old new (byte ∷ []) → IsSome old → bytes_of old ≡ byte ∷ bytes_of new
one-byte None new byte c t = let e : false ≡ true = t in cc
one-byte (Some xs) None byte c t = absurd c
one-byte (Some xs) (Some ys) byte c t = c

pub byte-read : (old new : Option (List ℕ)) (piece : List ℕ) (n : ℕ) → length piece ≡ 1 → n ≡ 1 → Consumes old new (take n piece) → IsSome old → bytes_of old ≡ get_or piece 0 0 ∷ bytes_of new
byte-read old new [] n size e c t = absurd (omega (arith, size))
byte-read old new (x ∷ []) n size e c t = one-byte old new x (subst (λ k. Consumes old new (take k (x ∷ []))) e c) t
byte-read old new (x ∷ y ∷ piece) n size e c t = absurd (omega (arith, size))

pub end-read : (old new : Option (List ℕ)) (n : ℕ) (piece : List ℕ) → n ≡ 0 → Consumes old new (take n piece) → NoneLeft new → IsSome old → (bytes_of old ≡ []) × (bytes_of new ≡ [])
end-read None new n piece e c d t = let e : false ≡ true = t in cc
end-read (Some xs) None n piece e c d t = absurd c
end-read (Some xs) (Some ys) n piece e c d t = let f : xs ≡ take 0 piece ++ ys = subst (λ k. xs ≡ take k piece ++ ys) e c in (f ∙ d, d)

-- ---- the zeros before the bits of one byte

pub front-parts : (count low : ℕ) → count ≤ 8 → low < 2 ^ count → (z : ℕ) → z ≡ count_leading_zeros 8 low + count - 8 →
    (8 ≤ count_leading_zeros 8 low + count) × (z ≤ count) × (low < 2 ^ (count - z)) × (z < count → bits_of count low ≡ zeros z ++ true ∷ bits_of (count - z - 1) (low % 2 ^ (count - z - 1))) × (z ≡ count → low ≡ 0)
unfolding count_leading_zeros
front-parts count zero size fits z e =
    let top : count_leading_zeros 8 0 ≡ 8 = refl in
    (omega arith, omega arith, pow_pos (count - z), λ h. absurd (omega arith), λ h. refl)
front-parts count (suc m) size fits z e =
    let low = suc m in
    let more = pow_mono_at count 8 size in
    let t = leading_top 8 low (omega arith) (omega arith) in
    let j = t.0 in
    let within : j < count = elim (cases_lt j count) [ inl lt ↦ lt | inr ge ↦ absurd (omega (arith, pow_mono_at count j ge, t.2)) ] in
    let place : count ≡ z + suc j = omega (arith, e, t.1) in
    let rest : count - z ≡ suc j = omega (arith, place) in
    let behind : count - z - 1 ≡ j = omega (arith, place) in
    let v = low - 2 ^ j in
    let p = pow_suc j in
    let v-lt : v < 2 ^ j = omega (arith, t.2, t.3) in
    let whole : low ≡ 1 * 2 ^ j + v = omega (arith, t.2) in
    let part : low % 2 ^ j ≡ v = ap (λ x. x % 2 ^ j) whole ∙ mod_low 1 j v v-lt in (
      omega (arith, t.1),
      omega (arith, place),
      subst (λ k. low < 2 ^ k) (sym rest) t.3,
      λ h. ap (λ k. bits_of k low) place ∙ bits_of_small z (suc j) low t.3
          ∙ ap (λ l. zeros z ++ l) (ap (bits_of (suc j)) whole ∙ bits_of-one j 1 v v-lt true refl)
          ∙ ap (λ x. zeros z ++ true ∷ bits_of j x) (sym part)
          ∙ ap (λ k. zeros z ++ true ∷ bits_of k (low % 2 ^ k)) (sym behind),
      λ h. absurd (omega (arith, place)),
    )

-- ---- what was taken

pub zeros-zeros : (a b : ℕ) → zeros a ++ zeros b ≡ zeros (a + b)
zeros-zeros zero b = ap zeros (let e : b ≡ 0 + b = omega arith in e)
zeros-zeros (suc a) b = ap (λ l. false ∷ l) (zeros-zeros a b) ∙ ap zeros (let e : suc (a + b) ≡ suc a + b = omega arith in e)

-- nothing was taken
pub Takes-nil : (kept kept' : List Bool) (left : Option (List ℕ)) → kept ≡ kept' → Takes kept left kept' left []
Takes-nil kept kept' left e = record { bits = λ t. ap (λ k. unread k left) e }

module _ {kept0 : List Bool} {left0 : Option (List ℕ)} where
  -- one thing and then another
  pub Takes-Takes : {kept1 kept2 : List Bool} {left1 left2 : Option (List ℕ)} {l m : List Bool} → Takes kept0 left0 kept1 left1 l → (IsSome left0 → IsSome left1)
      → Takes kept1 left1 kept2 left2 m → Takes kept0 left0 kept2 left2 (l ++ m)
  Takes-Takes {kept1} {kept2} {left1} {left2} {l} {m} a told b =
      record { bits = λ t. a.bits t ∙ ap (λ x. l ++ x) (b.bits (told t)) ∙ sym (append_assoc l m (unread kept2 left2)) }

  -- bits from the start of those that are kept
  pub Takes-front : {kept : List Bool} {left : Option (List ℕ)} {l : List Bool} (m kept' : List Bool) → kept ≡ m ++ kept' → Takes kept0 left0 kept left l → Takes kept0 left0 kept' left (l ++ m)
  Takes-front {kept} {left} {l} m kept' e a =
      record { bits = λ t. a.bits t ∙ ap (λ k. l ++ (k ++ bits (bytes_of left))) e ∙ ap (λ x. l ++ x) (append_assoc m kept' (bits (bytes_of left))) ∙ sym (append_assoc l m (kept' ++ bits (bytes_of left))) }

  -- a byte of the source after those that are kept
  pub Takes-byte : {kept : List Bool} {left left' : Option (List ℕ)} {l : List Bool} (byte : ℕ) → (IsSome left0 → IsSome left) → (IsSome left → bytes_of left ≡ byte ∷ bytes_of left')
      → Takes kept0 left0 kept left l → Takes kept0 left0 (kept ++ bits_of 8 byte) left' l
  Takes-byte {kept} {left} {left'} {l} byte told gives a =
      record { bits = λ t. a.bits t ∙ ap (λ b. l ++ (kept ++ bits b)) (gives (told t)) ∙ ap (λ x. l ++ x) (sym (append_assoc kept (bits_of 8 byte) (bits (bytes_of left')))) }

  -- the end of the source
  pub Takes-end : {kept : List Bool} {left left' : Option (List ℕ)} {l : List Bool} → (IsSome left0 → IsSome left) → (IsSome left → (bytes_of left ≡ []) × (bytes_of left' ≡ []))
      → Takes kept0 left0 kept left l → Takes kept0 left0 kept left' l
  Takes-end {kept} {left} {left'} {l} told ends a =
      record { bits = λ t. a.bits t ∙ ap (λ b. l ++ (kept ++ bits b)) ((ends (told t)).0 ∙ sym (ends (told t)).1) }

  -- so many bits are kept, and there are no others
  pub Takes-short : {kept : List Bool} {left : Option (List ℕ)} → (IsSome left0 → IsSome left) → (IsSome left → bytes_of left ≡ [])
      → Takes kept0 left0 kept left [] → IsSome left0 → length (unread kept0 left0) ≡ length kept
  Takes-short {kept} {left} told ends a t = ap length (a.bits t ∙ ap (λ b. kept ++ bits b) (ends (told t)) ∙ append-nil kept)

-- ---- the steps of the calls

-- a byte after the bits of a number
pub pushed : (count all byte word : ℕ) → all < 2 ^ count → count < 40 → byte < 256 → word ≡ byte →
    (all * 256 % 2 ^ 64 + word < 2 ^ (count + 8)) × (bits_of (count + 8) (all * 256 % 2 ^ 64 + word) ≡ bits_of count all ++ bits_of 8 byte)
pushed count all byte word fits few small same =
    let w : all * 256 % 2 ^ 64 ≡ all * 256 = shl_whole all count 8 64 fits (omega arith) in
    let e : all * 256 % 2 ^ 64 + word ≡ all * 2 ^ 8 + byte = omega (arith, w, same) in (
      omega (arith, e, mul-add-lt all 256 byte (2 ^ count) fits small, pow-add 2 count 8),
      ap (bits_of (count + 8)) e ∙ bits_of_cat count 8 all byte small,
    )

-- the first n bits of a number, and the others
pub split_bits : (count n kept all mask : ℕ) → count ≡ n + kept → mask ≡ 2 ^ kept → bits_of count all ≡ bits_of n (all / 2 ^ kept) ++ bits_of kept (all % mask)
split_bits count n kept all mask e power =
    ap (λ k. bits_of k all) e ∙ bits_of-append n kept all ∙ ap (λ l. bits_of n (all / 2 ^ kept) ++ l) (bits_of-mod kept all)
    ∙ ap (λ m. bits_of n (all / 2 ^ kept) ++ bits_of kept (all % m)) (sym power)

-- the number of the first n bits
pub front_number : (count n all : ℕ) → n ≤ count → n ≤ 32 → all < 2 ^ count → (all / 2 ^ (count - n) < 2 ^ n) × (all / 2 ^ (count - n) < 2 ^ 32)
front_number count n all le size fits =
    let e : count ≡ n + (count - n) = omega arith in
    let h = shr_below all n (count - n) (subst (λ k. all < 2 ^ k) e fits) in
    (h, omega (arith, h, pow_mono_at n 32 size))

module _ {kept0 : List Bool} {left0 : Option (List ℕ)} (low count run : ℕ) (left : Option (List ℕ)) (taken : Takes kept0 left0 (bits_of count low) left (zeros run)) where
  -- more zeros before than are allowed
  pub takes_many : (front most : ℕ) → run ≤ most → most - run < front → front ≤ count → low < 2 ^ (count - front) →
      Takes kept0 left0 (bits_of (count - (most - run) - 1) low) left (zeros (most + 1))
  takes_many front most within many le small =
      let m = most - run + 1 in
      let k = count - (most - run) - 1 in
      let e : count ≡ m + k = omega arith in
      let fits : low < 2 ^ k = omega (arith, small, pow_mono_at (count - front) k (omega arith)) in
      let parts : bits_of count low ≡ zeros m ++ bits_of k low = ap (λ c. bits_of c low) e ∙ bits_of_small m k low fits in
      let all : zeros run ++ zeros m ≡ zeros (most + 1) = zeros-zeros run m ∙ ap zeros (let u : run + m ≡ most + 1 = omega arith in u) in
      subst (Takes kept0 left0 (bits_of k low) left) all (Takes-front (zeros m) (bits_of k low) parts taken)

  -- zeros and a 1
  pub takes_one : (front more k mask : ℕ) → more ≡ front → k ≡ count - front - 1 → mask ≡ 2 ^ k → (bits_of count low ≡ zeros front ++ true ∷ bits_of (count - front - 1) (low % 2 ^ (count - front - 1))) →
      Takes kept0 left0 (bits_of k (low % mask)) left (zeros (run + more) ++ true ∷ [])
  takes_one front more k mask same size power one =
      let j : count - front - 1 ≡ k = sym size in
      let rest = bits_of k (low % 2 ^ k) in
      let parts : bits_of count low ≡ (zeros front ++ true ∷ []) ++ rest = one ∙ ap (λ i. zeros front ++ true ∷ bits_of i (low % 2 ^ i)) j ∙ sym (append_assoc (zeros front) (true ∷ []) rest) in
      let all : zeros run ++ (zeros front ++ true ∷ []) ≡ zeros (run + more) ++ true ∷ [] =
      sym (append_assoc (zeros run) (zeros front) (true ∷ [])) ∙ ap (λ l. l ++ true ∷ []) (zeros-zeros run front ∙ ap (λ x. zeros (run + x)) (sym same)) in
      let t : Takes kept0 left0 rest left (zeros (run + more) ++ true ∷ []) = subst (Takes kept0 left0 rest left) all (Takes-front (zeros front ++ true ∷ []) rest parts taken) in
      subst (λ m. Takes kept0 left0 (bits_of k (low % m)) left (zeros (run + more) ++ true ∷ [])) (sym power) t

  -- all the bits that are kept are zeros
  pub takes_kept : (more : ℕ) → more ≡ count → low ≡ 0 → Takes kept0 left0 [] left (zeros (run + more))
  takes_kept more same none =
      let parts : bits_of count low ≡ zeros count ++ [] = ap (bits_of count) none ∙ bits_of-zero count ∙ sym (append-nil (zeros count)) in
      let all : zeros run ++ zeros count ≡ zeros (run + more) = zeros-zeros run count ∙ ap (λ x. zeros (run + x)) (sym same) in
      subst (Takes kept0 left0 [] left) all (Takes-front (zeros count) [] parts taken)

-- zeros were taken, and nothing else
pub record TakesSome (kept0 : List Bool) (left0 : Option (List ℕ)) (kept : List Bool) (left : Option (List ℕ)) : Type 0 where
  pub run : ℕ
  pub taken : Takes kept0 left0 kept left (zeros run)

-- a bound that is visible stays visible, and is lower
pub told-bound : (old new : Option ℕ) (n : ℕ) → Lowers old new n → IsSome old → IsSome new
told-bound None new n l t = let e : false ≡ true = t in cc
told-bound (Some m) None n l t = absurd l
told-bound (Some m) (Some k) n l t = refl

pub bound-lt : (old new : Option ℕ) → Lowers old new 1 → IsSome old → unwrap_or new 0 < unwrap_or old 0
bound-lt None new l t = let e : false ≡ true = t in cc
bound-lt (Some m) None l t = absurd l
bound-lt (Some m) (Some k) l t = omega arith
