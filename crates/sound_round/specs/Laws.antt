-- Laws of movies with sound: the pictures and the added sound are read back. Our own.
use Rattle.std.specs.Prelude.{◌≡◌, ℕ, List, ◌++◌, map, Ok}
use Rattle.pw_outside.specs.Reading.{AreBytes}
use Rattle.qt_atoms.specs.Atoms.{bytes_in}
use Rattle.qt_tables.specs.declared.runs.Sample.{Sample}
use Rattle.qt_tables.specs.Samples.{samples}
use Rattle.qt_movie.specs.Movie.{Movie, movie_in}
use Rattle.pcm_track.specs.declared.form.Format.{Format}
use Rattle.pcm_track.specs.declared.form.Pcm.{Pcm}
use Rattle.pcm_track.specs.declared.end.SoundEnd.TheVariants as ends
use Rattle.pcm_track.specs.Wav.{Wav, wav_in}
use Rattle.pcm_track.specs.Writing.{wav_head, sound_line}
use Rattle.pcm_track.specs.Ends.{Outcome}
use Rattle.pcm_track.specs.Adding.{added}
use Rattle.pcm_track.specs.Sounding.{sounded}

-- ---- the pictures

-- the bytes of a sample of a file
abbrev pub sample_bytes : (file : List ℕ) → Sample → List ℕ
sample_bytes file s = bytes_in s.size file s.at

-- A movie has the pictures of another: the same kind, size and time scale, and for each sample the same bytes and
-- the same duration.
pub record HasPicturesOf (file : List ℕ) (m : Movie) (out : List ℕ) (n : Movie) : Type 0 where
  pub kind : n.kind ≡ m.kind
  pub width : n.width ≡ m.width
  pub height : n.height ≡ m.height
  pub timescale : n.tables.timescale ≡ m.tables.timescale
  pub bytes : map (sample_bytes out) (samples n.tables) ≡ map (sample_bytes file) (samples m.tables)
  pub durations : map (λ (s : Sample). s.duration) (samples n.tables) ≡ map (λ (s : Sample). s.duration) (samples m.tables)

-- A movie to which sound was added is readable, and has these pictures.
abbrev pub AddedPicturesAreRead : Type 0
AddedPicturesAreRead = (file wav : List ℕ) (m : Movie) → AreBytes file → movie_in file ≡ Ok m → (added file wav).end ≡ ends.Done
    → (n : Movie) × (movie_in (added file wav).out ≡ Ok n) × HasPicturesOf file m (added file wav).out n

-- ---- the sound

-- the form of a WAV without its number of frames
abbrev pub format_of : Pcm → Format
format_of p = record { channels = p.channels; rate = p.rate }

-- the WAV that is extracted from a movie: a header, the sound, and a line
abbrev pub taken_out : Wav → Outcome
taken_out w = record {
  end = ends.Done;
  out = wav_head (format_of w.form) w.form.frames ++ w.sound;
  text = sound_line (format_of w.form) w.form.frames;
}

-- If the sound of a WAV was added to the pictures of a movie, the WAV is readable, and its sound is extracted from
-- the written movie.
abbrev pub AddedSoundIsTakenOut : Type 0
AddedSoundIsTakenOut = (file wav : List ℕ) → (added file wav).end ≡ ends.Done → (w : Wav) × (wav_in wav ≡ Ok w) × (sounded (added file wav).out ≡ taken_out w)

-- ---- both

-- `out` is read back as the pictures of the movie and the sound of the WAV.
pub record IsReadAgain (file wav out : List ℕ) : Type 0 where
  pub movie : Movie
  pub is_movie : movie_in file ≡ Ok movie
  pub written : Movie
  pub is_written : movie_in out ≡ Ok written
  pub pictures : HasPicturesOf file movie out written
  pub sound : Wav
  pub is_sound : wav_in wav ≡ Ok sound
  pub comes_out : sounded out ≡ taken_out sound

-- If sound was added to the pictures of a movie, both are read back from the written movie.
abbrev pub AddedIsReadAgain : Type 0
AddedIsReadAgain = (file wav : List ℕ) → AreBytes file → (added file wav).end ≡ ends.Done → IsReadAgain file wav (added file wav).out
