-- The data atoms of a movie with sound: one for each part, and the bytes of each part lie at its offset.
use Rattle.std.proofs.Common.{◌≡◌, refl, ℕ, ◌+◌, ◌*◌, ◌≤◌, ◌<◌, ◌^◌, Bool, true, false, nat_lt, if◌then◌else◌, List, [], ◌∷◌, ◌++◌, Ok, Err, length, take, drop, arith, sym, ap, subst, ◌∙◌, inl, inr, append_assoc, length-append}
use Rattle.std.specs.Prelude.{codes, max, replicate}
use Rattle.std.specs.Int.{w32, to_be_bytes}
use Rattle.std.specs.List.{flat_map, sum_by, All, AllByRecursion}
use Rattle.std.proofs.Math.Nat.{mul-le-mul_left}
use Rattle.std.proofs.lemmas.Bool.{cases_lt}
use Rattle.std.proofs.lemmas.Bool.Decides.{nat_tests}
use Rattle.std.proofs.lemmas.List.{take_at, drop_at, drop-drop, take-append-le}
use Rattle.std.proofs.lemmas.List.Sums.{sum_by-cons}
use Rattle.std.proofs.lemmas.List.Elements.{All-from_recursion}
use Rattle.pw_outside.specs.Reading.{Rest, Read}
use Rattle.qt_atoms.specs.Atoms.{bytes_in}
use Rattle.qt_tables.specs.declared.fault.MovieKind.{MovieKind}
use Rattle.qt_tables.specs.declared.fault.MovieKind.TheVariants.{SampleOutside, SampleLarge}
use Rattle.qt_tables.specs.Faults.{Found}
use Rattle.qt_tables.specs.Samples.{samples}
use Rattle.qt_movie.specs.Movie.{Movie, movie_in}
use Rattle.qt_movie.specs.MovieBytes.{ftyp_bytes, frame_bytes}
use Rattle.qt_movie.specs.Laws.{traks_bytes}
use Rattle.pcm_track.specs.declared.fault.SoundKind.{SoundKind}
use Rattle.pcm_track.specs.declared.fault.SoundKind.TheVariants.{Truncated}
use Rattle.pcm_track.specs.declared.form.Pcm.{Pcm}
use Rattle.pcm_track.specs.declared.parts.Part.{Part}
use Rattle.pcm_track.specs.declared.parts.Part.TheVariants as parts
use Rattle.pcm_track.specs.declared.end.SoundEnd.{SoundEnd}
use Rattle.pcm_track.specs.declared.end.SoundEnd.TheVariants as ends
use Rattle.pcm_track.specs.Wav.{sound_size, passed_over, form_at, IsPcm}
use Rattle.pcm_track.specs.Writing.{first_bytes}
use Rattle.pcm_track.specs.Adding.{part_size, part_frames, sound_in_part, part_bytes, data_atom, data_atoms, behind_sound, and_then, parts_end, parts_in, first_place, duration_field, picture_duration, sound_duration, picture_values, sound_values, two_tracks_bytes, movie_with_sound, added}
use Rattle.pcm_track.proofs.AddedRuns.{added-bad, added-bad-sound, added-end, added-out}
use Rattle.pcm_track.proofs.DataAtoms.{length-first}
use Rattle.pcm_track.proofs.Passing.{behind, passed-ok, passed-cut}
use Rattle.pcm_track.proofs.Shares.{frames-of}

-- ---- one body for each part

-- the bytes of each part
abbrev pub bodies : (file : List ℕ) → (channels : ℕ) → List Part → (sound : List ℕ) → List (List ℕ)
bodies file channels [] sound = []
bodies file channels (x ∷ xs) sound = part_bytes file channels x sound ∷ bodies file channels xs (drop (sound_in_part channels x) sound)

pub length-part : (file : List ℕ) (channels : ℕ) (x : Part) (sound : List ℕ) → length (part_bytes file channels x sound) ≡ part_size channels x
length-part file channels (parts.Picture s) sound = length-first s.size (drop s.at file)
length-part file channels (parts.Sound n) sound = length-first (sound_size channels n) sound

one-atom : (body : List ℕ) → data_atom body ≡ frame_bytes body
one-atom body = sym (append_assoc (to_be_bytes w32 (length body + 8)) (codes "mdat") body)

pub atoms-are : (file : List ℕ) (channels : ℕ) (xs : List Part) (sound : List ℕ) → data_atoms file channels xs sound ≡ flat_map frame_bytes (bodies file channels xs sound)
atoms-are file channels [] sound = refl
atoms-are file channels (x ∷ xs) sound =
    let body = part_bytes file channels x sound in
    let rest = drop (sound_in_part channels x) sound in
    ap (λ l. l ++ data_atoms file channels xs rest) (one-atom body) ∙ ap (λ l. frame_bytes body ++ l) (atoms-are file channels xs rest)

-- a movie with sound has these data atoms, and these two tracks
pub movie-is : (file : List ℕ) (m : Movie) (p : Pcm) (sound : List ℕ)
    → movie_with_sound file m p sound
    ≡ traks_bytes (bodies file p.channels (parts_in m p) sound) m.tables.timescale (duration_field (max (picture_duration m) (sound_duration m p))) (picture_values m p ∷ sound_values m p ∷ [])
movie-is file m p sound = ap (λ l. ftyp_bytes ++ (l ++ two_tracks_bytes m p)) (atoms-are file p.channels (parts_in m p) sound)

-- ---- the offsets of the bodies

-- Each body lies after the 8 bytes of its data atom's header, with the first data atom at an offset.
abbrev pub Lie : (out file : List ℕ) → (channels place : ℕ) → List Part → (sound : List ℕ) → Type 0
Lie out file channels place [] sound = Unit {0}
Lie out file channels place (x ∷ xs) sound =
    (bytes_in (part_size channels x) out (place + 8) ≡ part_bytes file channels x sound)
    × Lie out file channels (place + (8 + part_size channels x)) xs (drop (sound_in_part channels x) sound)

body-here : (front body rest : List ℕ) (n : ℕ) → length body ≡ n → bytes_in n (front ++ (data_atom body ++ rest)) (length front + 8) ≡ body
body-here front body rest n len =
    let F = front ++ (data_atom body ++ rest) in
    let here : drop (length front) F ≡ data_atom body ++ rest = drop_at front (data_atom body ++ rest) (length front) refl in
    ap (take n) (sym (drop-drop 8 (length front) F) ∙ ap (drop 8) here) ∙ take_at body rest n len

pub lie-from : (out file : List ℕ) (channels : ℕ) (xs : List Part) (sound front behind : List ℕ) → out ≡ front ++ (data_atoms file channels xs sound ++ behind) → Lie out file channels (length front) xs sound
lie-from out file channels [] sound front behind e = tt
lie-from out file channels (x ∷ xs) sound front behind e =
    let body = part_bytes file channels x sound in
    let A = data_atom body in
    let left = drop (sound_in_part channels x) sound in
    let rest = data_atoms file channels xs left in
    let first : out ≡ front ++ (A ++ (rest ++ behind)) = e ∙ ap (λ l. front ++ l) (append_assoc A rest behind) in
    let others : out ≡ (front ++ A) ++ (rest ++ behind) = first ∙ sym (append_assoc front A (rest ++ behind)) in
    let len : length (front ++ A) ≡ length front + (8 + part_size channels x) = omega (arith, length-append front A, length-part file channels x sound) in (
      ap (λ f. bytes_in (part_size channels x) f (length front + 8)) first ∙ body-here front body (rest ++ behind) (part_size channels x) (length-part file channels x sound),
      subst (λ n. Lie out file channels n xs left) len (lie-from out file channels xs left (front ++ A) behind others),
    )

pub bodies-lie : (file : List ℕ) (m : Movie) (p : Pcm) (sound : List ℕ) → Lie (movie_with_sound file m p sound) file p.channels first_place (parts_in m p) sound
bodies-lie file m p sound = lie-from (movie_with_sound file m p sound) file p.channels (parts_in m p) sound ftyp_bytes (two_tracks_bytes m p) refl

-- ---- parts that exist

-- A part exists whole, and a sample fits a data atom.
abbrev pub IsThere : (file : List ℕ) → (channels : ℕ) → Part → (sound : List ℕ) → Type 0
IsThere file channels (parts.Picture s) sound = (s.at + s.size ≤ length file) × (s.size ≤ 4294967286)
IsThere file channels (parts.Sound n) sound = sound_size channels n ≤ length sound

abbrev pub AreThere : (file : List ℕ) → (channels : ℕ) → List Part → (sound : List ℕ) → Type 0
AreThere file channels [] sound = Unit {0}
AreThere file channels (x ∷ xs) sound = IsThere file channels x sound × AreThere file channels xs (drop (sound_in_part channels x) sound)

picture-passed : (b c : Bool) (place : ℕ) (r : Rest) (f : Rest → SoundEnd)
    → and_then (if b then Err (ends.BadMovie SampleOutside place) else (if c then Err (ends.BadMovie SampleLarge place) else Ok r)) f ≡ ends.Done → (b ≡ false) × (c ≡ false) × (f r ≡ ends.Done)
picture-passed true c place r f e = absurd cc
picture-passed false true place r f e = absurd cc
picture-passed false false place r f e = (refl, refl, e)

sound-passed : (n : ℕ) (r : Rest) (f : Rest → SoundEnd) → and_then (behind_sound (passed_over n r)) f ≡ ends.Done → (n ≤ length r.bytes) × (f (behind n r) ≡ ends.Done)
sound-passed n r f e = elim (cases_lt (length r.bytes) n) [
  | inl lt ↦ absurd (cut (sym (ap (λ x. and_then (behind_sound x) f) (passed-cut n r lt)) ∙ e))
  | inr le ↦ (le, sym (ap (λ x. and_then (behind_sound x) f) (passed-ok n r le)) ∙ e)
]
  where
    cut : {place : ℕ} → ends.BadSound Truncated place ≡ ends.Done → ⊥
    cut e = absurd cc

-- if the run is done
pub done-there : (file : List ℕ) (channels : ℕ) (xs : List Part) (r : Rest) → parts_end file channels xs r ≡ ends.Done → AreThere file channels xs r.bytes
done-there file channels [] r e = tt
done-there file channels (parts.Picture s ∷ xs) r e =
    let h = picture-passed (nat_lt (length file) (s.at + s.size)) (nat_lt 4294967286 s.size) s.at r (λ rest. parts_end file channels xs rest) e in
    let inside : s.at + s.size ≤ length file = grind (arith, nat_tests, h.0) in
    let small : s.size ≤ 4294967286 = grind (arith, nat_tests, h.1) in
    ((inside, small), done-there file channels xs r h.2)
done-there file channels (parts.Sound n ∷ xs) r e =
    let h = sound-passed (sound_size channels n) r (λ rest. parts_end file channels xs rest) e in
    (h.0, done-there file channels xs (behind (sound_size channels n) r) h.1)

-- the first bytes of a list that is long enough
pub first-there : (n : ℕ) (bytes : List ℕ) → n ≤ length bytes → first_bytes n bytes ≡ take n bytes
first-there n bytes h = take-append-le n bytes (replicate n 0) h

-- ---- the sizes of the bodies

part-fits : (file : List ℕ) (channels frames : ℕ) (x : Part) (sound : List ℕ) → IsThere file channels x sound → part_frames x ≤ frames → sound_size channels frames ≤ 4294967250 → part_size channels x ≤ 4294967286
part-fits file channels frames (parts.Picture s) sound there few small = there.1
part-fits file channels frames (parts.Sound n) sound there few small = let less : sound_size channels n ≤ sound_size channels frames = mul-le-mul_left (2 * channels) few in omega (arith, less, small)

-- the number of bytes of each part
abbrev pub Fit : (channels : ℕ) → List Part → Type 0
Fit channels xs = AllByRecursion (λ x. part_size channels x ≤ 4294967286) xs

parts-fit-in : (file : List ℕ) (channels frames : ℕ) (xs : List Part) (sound : List ℕ) → AreThere file channels xs sound → sum_by part_frames xs ≤ frames → sound_size channels frames ≤ 4294967250 → Fit channels xs
parts-fit-in file channels frames [] sound there few small = tt
parts-fit-in file channels frames (x ∷ xs) sound there few small =
    let sums = sum_by-cons part_frames x xs in (
      part-fits file channels frames x sound there.0 (omega (arith, few, sums)) small,
      parts-fit-in file channels frames xs (drop (sound_in_part channels x) sound) there.1 (omega (arith, few, sums)) small,
    )

pub parts-fit : (file : List ℕ) (m : Movie) (p : Pcm) (sound : List ℕ) → 1 ≤ m.tables.timescale → IsPcm p → AreThere file p.channels (parts_in m p) sound → Fit p.channels (parts_in m p)
parts-fit file m p sound some is there = parts-fit-in file p.channels p.frames (parts_in m p) sound there (frames-of m.tables.timescale p (samples m.tables) some) is.size

bodies-fit-in : (file : List ℕ) (channels : ℕ) (xs : List Part) (sound : List ℕ) → Fit channels xs → AllByRecursion (λ (body : List ℕ). length body + 8 < 2 ^ 32) (bodies file channels xs sound)
bodies-fit-in file channels [] sound h = tt
bodies-fit-in file channels (x ∷ xs) sound h =
    (omega (arith, h.0, length-part file channels x sound), bodies-fit-in file channels xs (drop (sound_in_part channels x) sound) h.1)

pub bodies-fit : (file : List ℕ) (channels : ℕ) (xs : List Part) (sound : List ℕ) → Fit channels xs → All (λ body. length body + 8 < 2 ^ 32) (bodies file channels xs sound)
bodies-fit file channels xs sound h = All-from_recursion (λ (body : List ℕ). length body + 8 < 2 ^ 32) (bodies file channels xs sound) (bodies-fit-in file channels xs sound h)

-- ---- what was read and written

-- the movie and the form that were read, if the run is done
pub record IsAdded (file wav : List ℕ) : Type 0 where
  pub m : Movie
  pub p : Pcm
  pub rest : Rest
  pub movie : movie_in file ≡ Ok m
  pub form : form_at (record { place = 0; bytes = wav }) ≡ Ok (p, rest)
  pub done : parts_end file p.channels (parts_in m p) rest ≡ ends.Done
  pub out : movie_with_sound file m p rest.bytes ≡ (added file wav).out

with-form : (file wav : List ℕ) (m : Movie) (r : Read SoundKind Pcm) → movie_in file ≡ Ok m → form_at (record { place = 0; bytes = wav }) ≡ r → (added file wav).end ≡ ends.Done → IsAdded file wav
with-form file wav m (Ok x) e k h = record {
  m = m;
  p = x.0;
  rest = x.1;
  movie = e;
  form = k;
  done = sym (added-end file wav m x.0 x.1 e k) ∙ h;
  out = added-out file wav m x.0 x.1 e k;
}
with-form file wav m (Err f) e k h = absurd (bad-sound (added-bad-sound file wav m f e k ∙ h))
  where
    bad-sound : {kind : SoundKind} {place : ℕ} → ends.BadSound kind place ≡ ends.Done → ⊥
    bad-sound e = absurd cc

with-movie : (file wav : List ℕ) (r : Found Movie) → movie_in file ≡ r → (added file wav).end ≡ ends.Done → IsAdded file wav
with-movie file wav (Ok m) e h = with-form file wav m (form_at (record { place = 0; bytes = wav })) e refl h
with-movie file wav (Err f) e h = absurd (bad-movie (added-bad file wav f e ∙ h))
  where
    bad-movie : {kind : MovieKind} {place : ℕ} → ends.BadMovie kind place ≡ ends.Done → ⊥
    bad-movie e = absurd cc

pub is-added : (file wav : List ℕ) → (added file wav).end ≡ ends.Done → IsAdded file wav
is-added file wav h = with-movie file wav (movie_in file) refl h
