-- The outcome of a run that adds sound to pictures.
use Rattle.std.proofs.Common.{◌≡◌, ℕ, List, ◌++◌, Option, Ok, Err, ap, sym, subst, ◌∙◌}
use Rattle.std.specs.Prelude.{IsSome}
use Rattle.pw_outside.specs.Reading.{Fault, Rest, Told, rest_of, bytes_of}
use Rattle.pw_outside.specs.Writing.{SinkState, Puts, PutsFront}
use Rattle.qt_tables.specs.declared.fault.MovieKind.{MovieKind}
use Rattle.qt_movie.specs.Movie.{Movie, movie_in}
use Rattle.qt_movie.specs.MovieBytes.{ftyp_bytes}
use Rattle.pcm_track.specs.declared.fault.SoundKind.{SoundKind}
use Rattle.pcm_track.specs.declared.form.Pcm.{Pcm}
use Rattle.pcm_track.specs.declared.parts.Part.{Part}
use Rattle.pcm_track.specs.declared.end.SoundEnd.{SoundEnd}
use Rattle.pcm_track.specs.declared.end.SoundEnd.TheVariants as ends
use Rattle.pcm_track.specs.Wav.{form_at}
use Rattle.pcm_track.specs.Ends.{AnswersUnlessOutside}
use Rattle.pcm_track.specs.Writing.{PutsSome, PutsSomeFront, BothTold}
use Rattle.pcm_track.specs.Adding.{added, added_by, added_with, added_line, parts_end, parts_in, data_atoms, two_tracks_bytes, movie_with_sound}

pub added-bad : (file wav : List ℕ) (f : Fault MovieKind) → movie_in file ≡ Err f → ends.BadMovie f.kind f.place ≡ (added file wav).end
unfolding added
added-bad file wav f e = sym (ap (λ m. (added_by file wav m).end) e)

pub added-bad-sound : (file wav : List ℕ) (m : Movie) (f : Fault SoundKind) → movie_in file ≡ Ok m → form_at (record { place = 0; bytes = wav }) ≡ Err f → ends.BadSound f.kind f.place ≡ (added file wav).end
unfolding added
added-bad-sound file wav m f e k = sym (ap (λ x. (added_by file wav x).end) e ∙ ap (λ x. (added_with file m x).end) k)

pub added-end : (file wav : List ℕ) (m : Movie) (p : Pcm) (rest : Rest) → movie_in file ≡ Ok m → form_at (record { place = 0; bytes = wav }) ≡ Ok (p, rest) → (added file wav).end ≡ parts_end file p.channels (parts_in m p) rest
unfolding added
added-end file wav m p rest e k = ap (λ x. (added_by file wav x).end) e ∙ ap (λ x. (added_with file m x).end) k

pub added-out : (file wav : List ℕ) (m : Movie) (p : Pcm) (rest : Rest) → movie_in file ≡ Ok m → form_at (record { place = 0; bytes = wav }) ≡ Ok (p, rest) → movie_with_sound file m p rest.bytes ≡ (added file wav).out
unfolding added
added-out file wav m p rest e k = sym (ap (λ x. (added_by file wav x).out) e ∙ ap (λ x. (added_with file m x).out) k)

pub added-text : (file wav : List ℕ) (m : Movie) (p : Pcm) (rest : Rest) → movie_in file ≡ Ok m → form_at (record { place = 0; bytes = wav }) ≡ Ok (p, rest) → added_line m p ≡ (added file wav).text
unfolding added
added-text file wav m p rest e k = sym (ap (λ x. (added_by file wav x).text) e ∙ ap (λ x. (added_with file m x).text) k)

-- ---- once the parts were written

-- what was read: the movie, and the WAV up to its sound
pub record WasRead (told now wav left : Option (List ℕ)) (m : Movie) (p : Pcm) (place : ℕ) : Type 0 where
  pub same : now ≡ told
  pub movie : Told told (λ file. movie_in file ≡ Ok m)
  pub form : IsSome wav → form_at (rest_of 0 wav) ≡ Ok (p, rest_of place left)
  pub left_told : IsSome wav → IsSome left

pub run-answer : (told now wav left : Option (List ℕ)) (m : Movie) (p : Pcm) (place : ℕ) (xs : List Part) (end : SoundEnd) → WasRead told now wav left m p place → xs ≡ parts_in m p
    → BothTold now left (λ file sound. AnswersUnlessOutside end (parts_end file p.channels xs (rest_of place left)))
    → BothTold told wav (λ file bytes. AnswersUnlessOutside end (added file bytes).end)
run-answer told now wav left m p place xs end r e answer h i =
    let here = subst (λ t. BothTold t left (λ file sound. AnswersUnlessOutside end (parts_end file p.channels xs (rest_of place left)))) r.same answer in
    let total = added-end (bytes_of told) (bytes_of wav) m p (rest_of place left) (r.movie h) (r.form i) in
    subst (AnswersUnlessOutside end) (ap (λ l. parts_end (bytes_of told) p.channels l (rest_of place left)) e ∙ sym total) (here h (r.left_told i))

abbrev pub IsWritten : (now left : Option (List ℕ)) → (channels : ℕ) → List Part → (moov : List ℕ) → List ℕ → Type 0
IsWritten now left channels xs moov bytes = BothTold now left (λ file sound. bytes ≡ ftyp_bytes ++ (data_atoms file channels xs sound ++ moov))

is-written : (told now wav left : Option (List ℕ)) (m : Movie) (p : Pcm) (place : ℕ) (xs : List Part) (moov bytes : List ℕ) → WasRead told now wav left m p place → xs ≡ parts_in m p → moov ≡ two_tracks_bytes m p
    → IsWritten now left p.channels xs moov bytes → IsSome told → IsSome wav → bytes ≡ (added (bytes_of told) (bytes_of wav)).out
is-written told now wav left m p place xs moov bytes r e k is h i =
    let here = subst (λ t. IsWritten t left p.channels xs moov bytes) r.same is in
    here h (r.left_told i)
    ∙ ap (λ l. ftyp_bytes ++ (data_atoms (bytes_of told) p.channels l (bytes_of left) ++ moov)) e
    ∙ ap (λ l. ftyp_bytes ++ (data_atoms (bytes_of told) p.channels (parts_in m p) (bytes_of left) ++ l)) k
    ∙ added-out (bytes_of told) (bytes_of wav) m p (rest_of place left) (r.movie h) (r.form i)

pub run-out : (told now wav left : Option (List ℕ)) (m : Movie) (p : Pcm) (place : ℕ) (xs : List Part) (moov : List ℕ) (a b : SinkState) → WasRead told now wav left m p place → xs ≡ parts_in m p → moov ≡ two_tracks_bytes m p
    → PutsSome (IsWritten now left p.channels xs moov) a b → BothTold told wav (λ file bytes. Puts a b (added file bytes).out)
run-out told now wav left m p place xs moov a b r e k q h i = subst (Puts a b) (is-written told now wav left m p place xs moov q.bytes r e k q.is h i) q.puts

pub run-front : (told now wav left : Option (List ℕ)) (m : Movie) (p : Pcm) (place : ℕ) (xs : List Part) (moov : List ℕ) (a b : SinkState) → WasRead told now wav left m p place → xs ≡ parts_in m p → moov ≡ two_tracks_bytes m p
    → PutsSomeFront (IsWritten now left p.channels xs moov) a b → BothTold told wav (λ file bytes. PutsFront a b (added file bytes).out)
run-front told now wav left m p place xs moov a b r e k q h i = subst (PutsFront a b) (is-written told now wav left m p place xs moov q.bytes r e k q.is h i) q.front

pub run-text : (told now wav left : Option (List ℕ)) (m : Movie) (p : Pcm) (place : ℕ) → WasRead told now wav left m p place → BothTold told wav (λ file bytes. added_line m p ≡ (added file bytes).text)
run-text told now wav left m p place r h i = added-text (bytes_of told) (bytes_of wav) m p (rest_of place left) (r.movie h) (r.form i)
