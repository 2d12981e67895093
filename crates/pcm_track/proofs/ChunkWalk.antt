-- The chunks before the sound, one after the other.
use Rattle.std.proofs.Common.{◌≡◌, refl, ℕ, suc, ◌+◌, ◌-◌, ◌<◌, List, Option, Some, Ok, Err, arith}
use Rattle.pw_outside.specs.Reading.{Fault, Rest, bind}
use Rattle.pcm_track.specs.declared.fault.SoundKind.{SoundKind}
use Rattle.pcm_track.specs.declared.fault.SoundKind.TheVariants.{Form}
use Rattle.pcm_track.specs.declared.form.Format.{Format}
use Rattle.pcm_track.specs.declared.form.Pcm.{Pcm}
use Rattle.pcm_track.specs.declared.form.Met.TheVariants as met
use Rattle.pcm_track.specs.Wav.{next_bytes, chunk_at, form_from}

pub one_less : (n : ℕ) → n < 1000 → 1000 - n ≡ suc (1000 - (n + 1))
one_less n h = omega arith

pub chunk-err : (m n : ℕ) (known : Option Format) (s : Rest) (f : Fault SoundKind) → m ≡ suc n → chunk_at known s ≡ Err f → form_from m known s ≡ Err f
unfolding form_from bind
chunk-err m n known s f k e = rw (k, e) refl

pub chunk-format : (m n : ℕ) (known : Option Format) (s t : Rest) (f : Format) → m ≡ suc n → chunk_at known s ≡ Ok (met.Format f, t) → form_from m known s ≡ form_from n (Some f) t
unfolding form_from bind
chunk-format m n known s t f k e = rw (k, e) refl

pub chunk-other : (m n : ℕ) (known : Option Format) (s t : Rest) → m ≡ suc n → chunk_at known s ≡ Ok (met.Other, t) → form_from m known s ≡ form_from n known t
unfolding form_from bind
chunk-other m n known s t k e = rw (k, e) refl

pub chunk-data : (m n : ℕ) (known : Option Format) (s t : Rest) (p : Pcm) → m ≡ suc n → chunk_at known s ≡ Ok (met.Data p, t) → form_from m known s ≡ Ok (p, t)
unfolding form_from bind
chunk-data m n known s t p k e = rw (k, e) refl

pub last-err : (m : ℕ) (known : Option Format) (s : Rest) (f : Fault SoundKind) → m ≡ 0 → next_bytes 4 s ≡ Err f → form_from m known s ≡ Err f
unfolding form_from bind
last-err m known s f k e = rw (k, e) refl

pub last-form : (m : ℕ) (known : Option Format) (s t : Rest) (kind : List ℕ) → m ≡ 0 → next_bytes 4 s ≡ Ok (kind, t) → form_from m known s ≡ Err (record { kind = Form; place = s.place })
unfolding form_from bind
last-form m known s t kind k e = rw (k, e) refl
