-- Facts of the form of a WAV that was read.
use Rattle.std.proofs.Common.{◌≡◌, refl, ℕ, zero, suc, ◌*◌, ◌/◌, ◌%◌, ◌≤◌, Bool, true, false, nat_lt, if◌then◌else◌, ◌||◌, Option, None, Some, Ok, Err, arith, ap, subst}
use Rattle.std.specs.Prelude.{◌==◌, not, IfSome, codes}
use Rattle.std.specs.Str.{bytes_eq}
use Rattle.std.proofs.Math.Nat.{mul-div-le}
use Rattle.std.proofs.lemmas.Bool.Decides.{nat_tests}
use Rattle.pw_outside.specs.Reading.{Fault, Rest, Read}
use Rattle.pw_outside.proofs.Steps.{bind-ok, refuse-ok}
use Rattle.pcm_track.specs.declared.fault.SoundKind.{SoundKind}
use Rattle.pcm_track.specs.declared.form.Format.{Format}
use Rattle.pcm_track.specs.declared.form.Pcm.{Pcm}
use Rattle.pcm_track.specs.declared.form.Met.{Met}
use Rattle.pcm_track.specs.declared.form.Met.TheVariants as met
use Rattle.pcm_track.specs.Wav.{frame_size, format_at, format_chunk_at, data_chunk_at, other_chunk_at, chunk_at, going_on, form_from, form_at, IsFormat, IsPcm, IsMet}

abbrev read : {A : Type 0} → A × Rest → Read SoundKind A
read x = Ok x

value-both : {A : Type 0} (x y : A × Rest) → read x ≡ read y → x.0 ≡ y.0
value-both x y e = let same : x ≡ y = cc in ap (λ z. z.0) same

abbrev refused : {A : Type 0} → Fault SoundKind → Read SoundKind A
refused f = Err f

not-bad : {A : Type 0} (f : Fault SoundKind) (x : A × Rest) → refused f ≡ read x → ⊥
not-bad f x e = absurd cc

-- ---- tests

one-or-two : (a b : Bool) (n : ℕ) → (n == 1) ≡ a → (n == 2) ≡ b → not (a || b) ≡ false → (1 ≤ n) × (n ≤ 2)
one-or-two true b n e f h = (grind (arith, nat_tests, e), grind (arith, nat_tests, e))
one-or-two false true n e f h = (grind (arith, nat_tests, f), grind (arith, nat_tests, f))
one-or-two false false n e f h = absurd cc

neither : (a b : Bool) → (a || b) ≡ false → (a ≡ false) × (b ≡ false)
neither true b h = absurd cc
neither false b h = (refl, h)

-- ---- the chunks

format-is : (chunk size : ℕ) (s t : Rest) (f : Format) → format_at chunk size s ≡ Ok (f, t) → IsFormat f
unfolding format_at
format-is chunk size s t f e =
    let e1 = bind-ok _ _ e in
    let e2 = bind-ok _ _ e1.2 in
    let e3 = bind-ok _ _ e2.2 in
    let e4 = bind-ok _ _ e3.2 in
    let e5 = bind-ok _ _ e4.2 in
    let e6 = bind-ok _ _ e5.2 in
    let e7 = bind-ok _ _ e6.2 in
    let e8 = bind-ok _ _ e7.2 in
    let e9 = bind-ok _ _ e8.2 in
    let e10 = bind-ok _ _ e9.2 in
    let e11 = bind-ok _ _ e10.2 in
    let e12 = bind-ok _ _ e11.2 in
    let e13 = bind-ok _ _ e12.2 in
    let channels = e4.0.0 in
    let rate = e6.0.0 in
    let tests = neither (rate == 0) (nat_lt 65535 rate) (refuse-ok _ _ _ e7.1) in
    let some : 1 ≤ rate = grind (arith, nat_tests, tests.0) in
    let few : rate ≤ 65535 = grind (arith, nat_tests, tests.1) in
    subst IsFormat (value-both _ (f, t) e13.2) (record { channels = one-or-two (channels == 1) (channels == 2) channels refl refl (refuse-ok _ _ _ e5.1); rate = (some, few) })

-- what is known of the format
abbrev IsKnown : Option Format → Type 0
IsKnown known = IfSome known IsFormat

format-met : (chunk : ℕ) (known : Option Format) (s t : Rest) (x : Met) → format_chunk_at chunk known s ≡ Ok (x, t) → IsMet x
unfolding format_chunk_at
format-met chunk (Some f) s t x e = absurd cc
format-met chunk None s t x e =
    let e1 = bind-ok _ _ e in
    let e2 = bind-ok _ _ e1.2 in
    subst IsMet (value-both _ (x, t) e2.2) (format-is chunk e1.0.0 e1.0.1 e2.0.1 e2.0.0 e2.1)

data-met : (chunk : ℕ) (known : Option Format) (s t : Rest) (x : Met) → IsKnown known → data_chunk_at chunk known s ≡ Ok (x, t) → IsMet x
unfolding data_chunk_at
data-met chunk None s t x k e = absurd cc
data-met chunk (Some f) s t x k e =
    let e1 = bind-ok _ _ e in
    let e2 = bind-ok _ _ e1.2 in
    let size = e1.0.0 in
    let tests = neither (not (size % frame_size f.channels == 0)) (nat_lt 4294967250 size) (refuse-ok _ _ _ e2.1) in
    let few : size ≤ 4294967250 = grind (arith, nat_tests, tests.1) in
    let whole : frame_size f.channels * (size / frame_size f.channels) ≤ size = mul-div-le size (frame_size f.channels) in
    subst IsMet (value-both _ (x, t) e2.2) (record { channels = k.channels; rate = k.rate; size = omega (arith, few, whole) })

other-met : (s t : Rest) (x : Met) → other_chunk_at s ≡ Ok (x, t) → IsMet x
unfolding other_chunk_at
other-met s t x e =
    let e1 = bind-ok _ _ e in
    let e2 = bind-ok _ _ e1.2 in
    subst IsMet (value-both _ (x, t) e2.2) tt

kind-met : (a b : Bool) (chunk : ℕ) (known : Option Format) (s t : Rest) (x : Met) → IsKnown known
    → (if a then format_chunk_at chunk known s else (if b then data_chunk_at chunk known s else other_chunk_at s)) ≡ Ok (x, t) → IsMet x
kind-met true b chunk known s t x k e = format-met chunk known s t x e
kind-met false true chunk known s t x k e = data-met chunk known s t x k e
kind-met false false chunk known s t x k e = other-met s t x e

chunk-met : (known : Option Format) (s t : Rest) (x : Met) → IsKnown known → chunk_at known s ≡ Ok (x, t) → IsMet x
unfolding chunk_at
chunk-met known s t x k e =
    let e1 = bind-ok _ _ e in
    kind-met (bytes_eq e1.0.0 (codes "fmt ")) (bytes_eq e1.0.0 (codes "data")) s.place known e1.0.1 t x k e1.2

-- ---- the form

going-on : (known : Option Format) (x : Met) (rest : Rest) (others : Option Format → Rest → Read SoundKind Pcm) (p : Pcm) (t : Rest) → IsMet x → IsKnown known
    → ((next : Option Format) (r : Rest) → IsKnown next → others next r ≡ Ok (p, t) → IsPcm p) → going_on known (x, rest) others ≡ Ok (p, t) → IsPcm p
going-on known (met.Format f) rest others p t is k h e = h (Some f) rest is e
going-on known met.Other rest others p t is k h e = h known rest k e
going-on known (met.Data q) rest others p t is k h e = subst IsPcm (value-both (q, rest) (p, t) e) is

form-from : (n : ℕ) (known : Option Format) (s t : Rest) (p : Pcm) → IsKnown known → form_from n known s ≡ Ok (p, t) → IsPcm p
unfolding form_from
form-from zero known s t p k e =
    let e1 = bind-ok _ _ e in
    absurd (not-bad _ _ e1.2)
form-from (suc n) known s t p k e =
    let e1 = bind-ok _ _ e in
    going-on known e1.0.0 e1.0.1 (λ next rest. form_from n next rest) p t (chunk-met known s e1.0.1 e1.0.0 k e1.1) k (λ next r is h. form-from n next r t p is h) e1.2

pub form-is : (s t : Rest) (p : Pcm) → form_at s ≡ Ok (p, t) → IsPcm p
unfolding form_at
form-is s t p e =
    let e1 = bind-ok _ _ e in
    let e2 = bind-ok _ _ e1.2 in
    let e3 = bind-ok _ _ e2.2 in
    let e4 = bind-ok _ _ e3.2 in
    let e5 = bind-ok _ _ e4.2 in
    form-from 1000 None e4.0.1 t p tt e5.2
