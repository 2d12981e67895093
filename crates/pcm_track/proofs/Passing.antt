-- Bytes that are skipped piece by piece.
use Rattle.std.proofs.Common.{◌≡◌, refl, ℕ, ◌+◌, ◌-◌, ◌<◌, ◌≤◌, length, drop, Ok, Err, true, false, nat_lt, arith, sym, ap, ◌∙◌, inl, inr}
use Rattle.std.proofs.lemmas.Bool.{cases_lt, le-ltb, lt-ltb}
use Rattle.std.proofs.lemmas.List.{drop-drop, length-drop}
use Rattle.pw_outside.specs.Reading.{Fault, Rest, Read, bind}
use Rattle.pcm_track.specs.declared.fault.SoundKind.{SoundKind}
use Rattle.pcm_track.specs.declared.fault.SoundKind.TheVariants.{Truncated}
use Rattle.pcm_track.specs.Wav.{passed_over}

abbrev pub behind : ℕ → Rest → Rest
behind n s = record { place = s.place + n; bytes = drop n s.bytes }

abbrev cut_at : ℕ → Fault SoundKind
cut_at place = record { kind = Truncated; place = place }

abbrev ok : Unit {0} × Rest → Read SoundKind (Unit {0})
ok x = Ok x

abbrev err : Fault SoundKind → Read SoundKind (Unit {0})
err f = Err f

abbrev rest_or : Rest → Read SoundKind (Unit {0}) → Rest
rest_or s (Ok x) = x.1
rest_or s (Err f) = s

abbrev pub cut : Rest → Fault SoundKind
cut s = record { kind = Truncated; place = s.place + length s.bytes }

-- enough bytes are skipped
pub passed-ok : (n : ℕ) (s : Rest) → n ≤ length s.bytes → passed_over n s ≡ Ok (tt, behind n s)
unfolding passed_over bind
passed-ok n s h = let e : nat_lt (length s.bytes) n ≡ false = le-ltb _ _ h in rw e refl

-- too few are a fault
pub passed-cut : (n : ℕ) (s : Rest) → length s.bytes < n → passed_over n s ≡ Err (cut s)
unfolding passed_over bind
passed-cut n s h = let e : nat_lt (length s.bytes) n ≡ true = lt-ltb _ _ h in rw e refl

-- the skipped bytes existed
pub passed-there : (n : ℕ) (s t : Rest) → passed_over n s ≡ Ok (tt, t) → n ≤ length s.bytes
passed-there n s t e = elim (cases_lt (length s.bytes) n) [
  | inl lt ↦ absurd (not-both (sym (passed-cut n s lt) ∙ e))
  | inr le ↦ le
]
  where
    not-both : {f : Fault SoundKind} {x : Unit {0} × Rest} → err f ≡ Ok x → ⊥
    not-both e = absurd cc

-- the rest after the skipped bytes
pub passed-behind : (n : ℕ) (s t : Rest) → passed_over n s ≡ Ok (tt, t) → t ≡ behind n s
passed-behind n s t e = ap (rest_or s) (sym e ∙ passed-ok n s (passed-there n s t e))

-- some bytes are skipped, then the others
pub passed-step : (a n : ℕ) (s t : Rest) → a ≤ n → passed_over a s ≡ Ok (tt, t) → passed_over n s ≡ passed_over (n - a) t
passed-step a n s t le e =
    let there = passed-there a s t e in
    elim (cases_lt (length s.bytes) n) [
      | inl lt ↦ passed-cut n s lt ∙ ap Err (same s there) ∙ sym (passed-cut (n - a) (behind a s) (omega (arith, length-drop a s.bytes))) ∙ ap (passed_over (n - a)) (sym (passed-behind a s t e))
      | inr le' ↦ passed-ok n s le' ∙ ap (λ r. Ok (tt, r)) (whole s) ∙ sym (passed-ok (n - a) (behind a s) (omega (arith, length-drop a s.bytes))) ∙ ap (passed_over (n - a)) (sym (passed-behind a s t e))
    ]
  where
    same : (s : Rest) → a ≤ length s.bytes → cut s ≡ cut (behind a s)
    same s there = ap cut_at (let e : s.place + length s.bytes ≡ (s.place + a) + length (drop a s.bytes) = omega (arith, there, length-drop a s.bytes) in e)

    whole : (s : Rest) → behind n s ≡ behind (n - a) (behind a s)
    whole s =
        let split : n ≡ a + (n - a) = omega (arith, le) in
        let bytes : drop n s.bytes ≡ drop (n - a) (drop a s.bytes) = ap (λ k. drop k s.bytes) split ∙ sym (drop-drop (n - a) a s.bytes) in
        let place : s.place + n ≡ (s.place + a) + (n - a) = omega (arith, le) in
        rw (bytes, place) refl

-- if some bytes can't be skipped, more can't either
pub passed-err : (a n : ℕ) (s : Rest) (f : Fault SoundKind) → a ≤ n → passed_over a s ≡ Err f → passed_over n s ≡ Err f
passed-err a n s f le e = elim (cases_lt (length s.bytes) a) [
  | inl lt ↦ passed-cut n s (omega (arith, lt, le)) ∙ sym (passed-cut a s lt) ∙ e
  | inr le' ↦ absurd (not-both (sym (passed-ok a s le') ∙ e))
]
  where
    not-both : {f : Fault SoundKind} {x : Unit {0} × Rest} → ok x ≡ Err f → ⊥
    not-both e = absurd cc

-- no bytes are skipped
pub passed-none : (s : Rest) → passed_over 0 s ≡ Ok (tt, s)
passed-none s = passed-ok 0 s (omega arith) ∙ ap (λ r. Ok (tt, r)) (none s)
  where
    none : (s : Rest) → behind 0 s ≡ s
    none s = let place : s.place + 0 ≡ s.place = omega arith in rw place refl
