-- What a read of a part of a source gives.
use Rattle.std.proofs.Common.{◌≡◌, ℕ, zero, suc, ◌+◌, ◌-◌, ◌<◌, ◌≤◌, min, false, true, List, [], ◌∷◌, ◌++◌, length, take, drop, Option, Some, None, arith, refl, sym, ap, ◌∙◌, length-take-le}
use Rattle.std.proofs.lemmas.List.{take-append-le}
use Rattle.std.proofs.Math.Seq.{take-nil}
use Rattle.std.specs.Prelude.{IsSome}
use Rattle.pw_outside.specs.Reading.{bytes_of}
use Rattle.std.specs.Io.KnownBytes.{Consumes, IsAtEnd}
use Rattle.pw_bits.specs.Window.{first_bytes}

take-past : (n : ℕ) (a b : List ℕ) → length a ≤ n → take n (a ++ b) ≡ a ++ take (n - length a) b
take-past n [] b h = ap (λ k. take k b) (let e : n ≡ n - 0 = omega arith in e)
take-past zero (x ∷ a) b h = absurd (omega arith)
take-past (suc n) (x ∷ a) b h = ap (λ l. x ∷ l) (take-past n a b (omega arith) ∙ ap (λ k. a ++ take k b) (let e : n - length a ≡ suc n - suc (length a) = omega arith in e))

pub window-consumes : (w k : ℕ) (old new : Option (List ℕ)) (sub rest : List ℕ) → k ≤ length sub → k ≤ w → Consumes old new (take k sub) → Consumes (first_bytes w old) (first_bytes (w - k) new) (take k (sub ++ rest))
window-consumes w k None new sub rest fits within c = tt
window-consumes w k (Some xs) None sub rest fits within c = absurd c
window-consumes w k (Some xs) (Some ys) sub rest fits within c =
    let len : length (take k sub) ≡ k = length-take-le k sub fits in
    ap (take w) c ∙ take-past w (take k sub) ys (omega (arith, len)) ∙ ap (λ j. take k sub ++ take (w - j) ys) len ∙ ap (λ l. l ++ take (w - k) ys) (sym (take-append-le k sub rest fits))

pub window-end : (w k size : ℕ) (new : Option (List ℕ)) (sub : List ℕ) → length sub ≡ min w size → (k ≡ 0 → 0 < length sub → IsAtEnd new) → k ≡ 0 → 0 < size → IsAtEnd (first_bytes (w - k) new)
window-end w k size None sub len ends none room = tt
window-end zero k size (Some ys) sub len ends none room = ap (λ j. take j ys) (let e : 0 - k ≡ 0 = omega arith in e)
window-end (suc w) k size (Some ys) sub len ends none room =
    let e : ys ≡ [] = ends none (omega arith) in
    ap (take (suc w - k)) e ∙ take-nil (suc w - k)

-- what comes after so many bytes, once some of them are gone
drop-past : (w : ℕ) (a b : List ℕ) → length a ≤ w → drop w (a ++ b) ≡ drop (w - length a) b
drop-past w [] b h = ap (λ k. drop k b) (let e : w ≡ w - 0 = omega arith in e)
drop-past zero (x ∷ a) b h = absurd (omega arith)
drop-past (suc w) (x ∷ a) b h = drop-past w a b (omega arith) ∙ ap (λ k. drop k b) (let e : w - length a ≡ suc w - suc (length a) = omega arith in e)

pub window-behind : (w w' k : ℕ) (old new : Option (List ℕ)) (piece : List ℕ) → k ≡ length (take k (take w piece)) → w' + k ≡ w → Consumes old new (take k (take w piece)) → IsSome old → drop w' (bytes_of new) ≡ drop w (bytes_of old)
window-behind w w' k None new piece len e c t = let f : false ≡ true = t in cc
window-behind w w' k (Some xs) None piece len e c t = absurd c
window-behind w w' k (Some xs) (Some ys) piece len e c t =
    let p = take k (take w piece) in
    sym (ap (drop w) c ∙ drop-past w p ys (omega (arith, len)) ∙ ap (λ j. drop j ys) (let f : w - length p ≡ w' = omega (arith, len) in f))

pub at-end : (left : Option (List ℕ)) → IsAtEnd left → bytes_of left ≡ []
at-end None e = refl
at-end (Some xs) e = e

pub first-none : (w : ℕ) (left : Option (List ℕ)) → bytes_of left ≡ [] → bytes_of (first_bytes w left) ≡ []
first-none w None e = refl
first-none w (Some xs) e = ap (take w) e ∙ take-nil w

pub first-zero : (left : Option (List ℕ)) → bytes_of (first_bytes 0 left) ≡ []
first-zero None = refl
first-zero (Some xs) = refl

pub moved-behind : (w k : ℕ) (old new : Option (List ℕ)) (l : List ℕ) → k ≡ length l → k ≤ w → Consumes old new l → IsSome old → drop (w - k) (bytes_of new) ≡ drop w (bytes_of old)
moved-behind w k None new l len le c t = let f : false ≡ true = t in cc
moved-behind w k (Some xs) None l len le c t = absurd c
moved-behind w k (Some xs) (Some ys) l len le c t =
    sym (ap (drop w) c ∙ drop-past w l ys (omega (arith, len)) ∙ ap (λ j. drop j ys) (let f : w - length l ≡ w - k = omega (arith, len) in f))
