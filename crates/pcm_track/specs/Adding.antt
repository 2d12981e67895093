-- Adding sound to the pictures of a movie: its outcome, and what is written. Atoms by the QuickTime File Format;
-- which sound lies beside which picture, and the order of the atoms, are our own.
use Rattle.std.specs.Prelude.{◌≡◌, ◌<◌, ◌^◌, ℕ, ◌+◌, ◌-◌, ◌*◌, ◌/◌, ◌==◌, nat_lt, if◌then◌else◌, min, max, List, [], ◌∷◌, ◌++◌, length, drop, map, codes, sum_by, Option, IfSome, Result, Ok, Err}
use Rattle.std.specs.Fmt.{decimal}
use Rattle.std.specs.List.{flat_map}
use Rattle.pw_outside.specs.Reading.{Fault, Rest, Read}
use Rattle.qt_atoms.specs.Written.{atom}
use Rattle.qt_tables.specs.declared.fault.MovieKind.{MovieKind}
use Rattle.qt_tables.specs.declared.fault.MovieKind.TheVariants.{SampleOutside, SampleLarge}
use Rattle.qt_tables.specs.declared.runs.Sample.{Sample}
use Rattle.qt_tables.specs.Samples.{samples}
use Rattle.qt_movie.specs.declared.trak.Media.TheVariants as media
use Rattle.qt_movie.specs.Movie.{Movie, movie_in}
use Rattle.qt_movie.specs.MovieBytes.{ftyp_bytes}
use Rattle.qt_movie.specs.Trak.{TrakValues, moov_of_traks}
use Rattle.pcm_track.specs.declared.fault.SoundKind.{SoundKind}
use Rattle.pcm_track.specs.declared.form.Pcm.{Pcm}
use Rattle.pcm_track.specs.declared.parts.Part.{Part}
use Rattle.pcm_track.specs.declared.parts.Part.TheVariants as parts
use Rattle.pcm_track.specs.declared.end.SoundEnd.{SoundEnd}
use Rattle.pcm_track.specs.declared.end.SoundEnd.TheVariants as ends
use Rattle.pcm_track.specs.Wav.{frame_size, sound_size, form_at, passed_over}
use Rattle.pcm_track.specs.Writing.{first_bytes}
use Rattle.pcm_track.specs.Ends.{Outcome}

-- ---- which sound lies beside which sample

-- the number of frames of sound before `time` of the movie, at most all frames
abbrev pub border : (timescale : ℕ) → Pcm → (time : ℕ) → ℕ
border timescale p time = min (time * p.rate / timescale) p.frames

-- The number of frames up to the end of the sound beside a sample that ends at `time`: where the next sample
-- begins; for the last sample, all frames.
abbrev pub sound_end : (timescale : ℕ) → Pcm → (time : ℕ) → (others : List Sample) → ℕ
sound_end timescale p time [] = p.frames
sound_end timescale p time (s ∷ ss) = border timescale p time

-- `frames` frames of sound before other parts, if there are any
abbrev pub with_sound : (frames : ℕ) → List Part → List Part
with_sound frames others = if frames == 0 then others else parts.Sound frames ∷ others

-- the samples, the first beginning at `time`, each followed by its sound
abbrev pub parts_from : (timescale : ℕ) → Pcm → (time : ℕ) → List Sample → List Part
parts_from timescale p time [] = []
parts_from timescale p time (s ∷ ss) =
    parts.Picture s ∷ with_sound (sound_end timescale p (time + s.duration) ss - border timescale p time) (parts_from timescale p (time + s.duration) ss)

-- the contents of the data atoms: the samples with their sound; without a sample, all sound
abbrev pub parts_of : (timescale : ℕ) → Pcm → List Sample → List Part
parts_of timescale p [] = with_sound p.frames []
parts_of timescale p (s ∷ ss) = parts_from timescale p 0 (s ∷ ss)

-- ---- the data atoms

-- the number of bytes of a part
abbrev pub part_size : (channels : ℕ) → Part → ℕ
part_size channels (parts.Picture s) = s.size
part_size channels (parts.Sound n) = sound_size channels n

-- the number of bytes of sound in a part
abbrev pub sound_in_part : (channels : ℕ) → Part → ℕ
sound_in_part channels (parts.Picture s) = 0
sound_in_part channels (parts.Sound n) = sound_size channels n

-- the bytes of a part; its sound is a prefix of `sound`. Bytes missing from the file or the sound are taken as 0.
abbrev pub part_bytes : (file : List ℕ) → (channels : ℕ) → Part → (sound : List ℕ) → List ℕ
part_bytes file channels (parts.Picture s) sound = first_bytes s.size (drop s.at file)
part_bytes file channels (parts.Sound n) sound = first_bytes (sound_size channels n) sound

abbrev pub data_atom : List ℕ → List ℕ
data_atom bytes = atom (codes "mdat") bytes

-- one data atom for each part
abbrev pub data_atoms : (file : List ℕ) → (channels : ℕ) → List Part → (sound : List ℕ) → List ℕ
data_atoms file channels [] sound = []
data_atoms file channels (x ∷ others) sound = data_atom (part_bytes file channels x sound) ++ data_atoms file channels others (drop (sound_in_part channels x) sound)

-- the offset of a sample, and of a chunk of sound, in a data atom at `place`: after the 8 bytes of its header
abbrev pub picture_at : (place : ℕ) → Part → List ℕ
picture_at place (parts.Picture s) = (place + 8) ∷ []
picture_at place (parts.Sound n) = []

abbrev pub sound_at : (place : ℕ) → Part → List ℕ
sound_at place (parts.Picture s) = []
sound_at place (parts.Sound n) = (place + 8) ∷ []

-- the offsets of the samples, with the first data atom at `place`
abbrev pub picture_places : (channels place : ℕ) → List Part → List ℕ
picture_places channels place [] = []
picture_places channels place (x ∷ others) = picture_at place x ++ picture_places channels (place + (8 + part_size channels x)) others

-- the offsets of the chunks of sound
abbrev pub sound_places : (channels place : ℕ) → List Part → List ℕ
sound_places channels place [] = []
sound_places channels place (x ∷ others) = sound_at place x ++ sound_places channels (place + (8 + part_size channels x)) others

-- the number of frames of a part, if it is a chunk of sound
abbrev pub frames_in : Part → List ℕ
frames_in (parts.Picture s) = []
frames_in (parts.Sound n) = n ∷ []

-- the number of frames of each chunk of sound
abbrev pub chunk_frames : List Part → List ℕ
chunk_frames xs = flat_map frames_in xs

-- ---- the tables

-- a value before runs of equal values
abbrev pub joined : ℕ → List (ℕ × ℕ) → List (ℕ × ℕ)
joined x [] = (1, x) ∷ []
joined x (r ∷ rs) = if r.1 == x then (r.0 + 1, x) ∷ rs else (1, x) ∷ r ∷ rs

-- the runs of equal values of a list: count and value
abbrev pub runs_of : List ℕ → List (ℕ × ℕ)
runs_of [] = []
runs_of (x ∷ xs) = joined x (runs_of xs)

-- runs of chunks, the first with this number: first chunk, samples per chunk, first description
abbrev pub chunk_runs : (number : ℕ) → List (ℕ × ℕ) → List (ℕ × ℕ × ℕ)
chunk_runs number [] = []
chunk_runs number (r ∷ rs) = (number, r.1, 1) ∷ chunk_runs (number + r.0) rs

-- one run, if its count isn't 0
abbrev pub where_some : {A : Type 0} → ℕ → A → List A
where_some n run = if n == 0 then [] else run ∷ []

-- a duration, saturated to a field of 32 bits
abbrev pub duration_field : ℕ → ℕ
duration_field n = min n 4294967295

-- the duration of the pictures
abbrev pub picture_duration : Movie → ℕ
picture_duration m = sum_by (λ s. s.duration) (samples m.tables)

-- the duration of the sound in units of the movie's time scale
abbrev pub sound_duration : Movie → Pcm → ℕ
sound_duration m p = p.frames * m.tables.timescale / p.rate

-- the offset after the file type
abbrev pub first_place : ℕ
first_place = 20

-- the parts of the movie that is written
abbrev pub parts_in : Movie → Pcm → List Part
parts_in m p = parts_of m.tables.timescale p (samples m.tables)

-- the picture track
abbrev pub picture_values : Movie → Pcm → TrakValues
picture_values m p = record {
  number = 1;
  movie_duration = duration_field (picture_duration m);
  timescale = m.tables.timescale;
  duration = duration_field (picture_duration m);
  media = media.Video m.kind m.width m.height 24;
  stts = runs_of (map (λ s. s.duration) (samples m.tables));
  stsc = where_some (length (samples m.tables)) (1, 1, 1);
  common = 0;
  count = length (samples m.tables);
  sizes = map (λ s. s.size) (samples m.tables);
  offsets = picture_places p.channels first_place (parts_in m p);
}

-- the sound track
abbrev pub sound_values : Movie → Pcm → TrakValues
sound_values m p = record {
  number = 2;
  movie_duration = duration_field (sound_duration m p);
  timescale = p.rate;
  duration = p.frames;
  media = media.Sound p.channels p.rate;
  stts = where_some p.frames (p.frames, 1);
  stsc = chunk_runs 1 (runs_of (chunk_frames (parts_in m p)));
  common = frame_size p.channels;
  count = p.frames;
  sizes = [];
  offsets = sound_places p.channels first_place (parts_in m p);
}

-- the movie atom, with the greater of the two durations
abbrev pub two_tracks_bytes : Movie → Pcm → List ℕ
two_tracks_bytes m p = moov_of_traks m.tables.timescale (duration_field (max (picture_duration m) (sound_duration m p))) (picture_values m p ∷ sound_values m p ∷ [])

-- ---- the movie and the line

-- the movie of these pictures with this sound
abbrev pub movie_with_sound : (file : List ℕ) → Movie → Pcm → (sound : List ℕ) → List ℕ
movie_with_sound file m p sound = ftyp_bytes ++ (data_atoms file p.channels (parts_in m p) sound ++ two_tracks_bytes m p)

-- the line of text: the number of samples and of frames of sound written
unfoldable pub added_line : Movie → Pcm → List ℕ
added_line m p = codes "frames " ++ decimal (length (samples m.tables)) ++ codes " sound " ++ decimal p.frames ++ codes "\n"

-- ---- the outcome

-- the sound after a part that exists whole and fits a data atom, or how the run ends there
abbrev pub behind_sound : Read SoundKind (Unit {0}) → Result Rest SoundEnd
behind_sound (Ok x) = Ok x.1
behind_sound (Err f) = Err (ends.BadSound f.kind f.place)

abbrev pub behind_picture : (file : List ℕ) → Sample → (sound : Rest) → Result Rest SoundEnd
behind_picture file s sound =
    if nat_lt (length file) (s.at + s.size) then Err (ends.BadMovie SampleOutside s.at)
    else (if nat_lt 4294967286 s.size then Err (ends.BadMovie SampleLarge s.at) else Ok sound)

abbrev pub behind_part : (file : List ℕ) → (channels : ℕ) → Part → (sound : Rest) → Result Rest SoundEnd
behind_part file channels (parts.Picture s) sound = behind_picture file s sound
behind_part file channels (parts.Sound n) sound = behind_sound (passed_over (sound_size channels n) sound)

abbrev pub and_then : Result Rest SoundEnd → (Rest → SoundEnd) → SoundEnd
and_then (Ok rest) others = others rest
and_then (Err end) others = end

-- the outcome at the first part that doesn't, if there is one
abbrev pub parts_end : (file : List ℕ) → (channels : ℕ) → List Part → (sound : Rest) → SoundEnd
parts_end file channels [] sound = ends.Done
parts_end file channels (x ∷ others) sound = and_then (behind_part file channels x sound) (λ rest. parts_end file channels others rest)

-- ---- the movie and the WAV

abbrev pub added_with : (file : List ℕ) → Movie → Result (Pcm × Rest) (Fault SoundKind) → Outcome
added_with file m (Err f) = record { end = ends.BadSound f.kind f.place; out = []; text = [] }
added_with file m (Ok (p, rest)) = record {
  end = parts_end file p.channels (parts_in m p) rest;
  out = movie_with_sound file m p rest.bytes;
  text = added_line m p;
}

abbrev pub added_by : (file wav : List ℕ) → Result Movie (Fault MovieKind) → Outcome
added_by file wav (Err f) = record { end = ends.BadMovie f.kind f.place; out = []; text = [] }
added_by file wav (Ok m) = added_with file m (form_at (record { place = 0; bytes = wav }))

-- Adding the sound of a WAV to the pictures of a movie: the movie is read first, then the WAV up to its sound, then
-- each sample followed by its sound.
unfoldable pub added : (file wav : List ℕ) → Outcome
added file wav = added_by file wav (movie_in file)

-- ---- what parts of a run do

-- A run ends here for this cause, unless a port failed or memory ran out.
abbrev pub Stops : SoundEnd → Result Rest SoundEnd → Type 0
Stops ends.NoMemory behind = Unit {0}
Stops ends.ReadFault behind = Unit {0}
Stops ends.WriteFault behind = Unit {0}
Stops end behind = behind ≡ Err end

-- a data atom whose body is the first n of these bytes, if they are visible
abbrev pub IsAtomOf : Option (List ℕ) → ℕ → List ℕ → Type 0
IsAtomOf told n bytes = IfSome told (λ there. bytes ≡ data_atom (first_bytes n there))

-- a sample's offset leaves room for its bytes
abbrev pub IsNear : Sample → Type 0
IsNear s = s.at < 2 ^ 63

abbrev pub IsPartNear : Part → Type 0
IsPartNear (parts.Picture s) = IsNear s
IsPartNear (parts.Sound n) = Unit {0}

-- the number of frames of sound of a part
abbrev pub part_frames : Part → ℕ
part_frames (parts.Picture s) = 0
part_frames (parts.Sound n) = n
