-- Laws of rescuing, over the definitions alone.
use Rattle.std.specs.Prelude.{◌≡◌, ◌⊎◌, ◌++◌, ◌≤◌, ℕ, List, [], length, map, Ok}
use Rattle.std.specs.List.{AllZip}
use Rattle.pw_outside.specs.Writing.{PutsFront}
use Rattle.pr_frame.specs.Stands.{FrameStands}
use Rattle.qt_atoms.specs.Atoms.{bytes_in}
use Rattle.qt_tables.specs.declared.tables.TheConstants.{MAX_SAMPLES}
use Rattle.qt_tables.specs.Samples.{samples}
use Rattle.qt_movie.specs.Movie.{Movie, movie_in}
use Rattle.rescue_run.specs.declared.form.Rate.{Rate}
use Rattle.rescue_run.specs.declared.end.RescueEnd.{RescueEnd}
use Rattle.rescue_run.specs.declared.end.RescueEnd.TheVariants as ends
use Rattle.rescue_run.specs.Chain.{Taken, TakesFirst, IsChain}
use Rattle.rescue_run.specs.Rescuing.{Rescues, IsRate, frames_of, opening_bytes, rescued_bytes, rescue_text, extents_of, World, Ran}

-- the frames and the outcome of rescuing, of which `ts` is a prefix
pub record Goes (file : List ℕ) (ts : List Taken) : Type 0 where
  pub more : List Taken
  pub end : RescueEnd
  pub rescues : Rescues file (ts ++ more) end

-- The law that every file has frames and an outcome, and that the first frames of the file are a prefix of these
-- frames.
abbrev pub RescuingGoesOn : Type 0
RescuingGoesOn = (file : List ℕ) (ts : List Taken) (to : ℕ) → to ≤ length file → TakesFirst file ts to → length ts ≤ MAX_SAMPLES → Goes file ts

-- The law that the frames and the outcome of rescuing are unique.
abbrev pub RescuingIsOne : Type 0
RescuingIsOne = (file : List ℕ) (ts us : List Taken) (end end' : RescueEnd) → Rescues file ts end → Rescues file us end' → (ts ≡ us) × (end ≡ end')

-- What rescuing writes, by its outcome: at Done the movie and the text; otherwise only the frames.
abbrev pub movie_written : Rate → List ℕ → List Taken → RescueEnd → List ℕ
movie_written rate file ts ends.Done = rescued_bytes rate file ts
movie_written rate file ts _ = opening_bytes (frames_of file ts)

abbrev pub text_written : List ℕ → List Taken → RescueEnd → List ℕ
text_written file ts ends.Done = rescue_text (extents_of file ts)
text_written file ts _ = []

-- The written bytes are a prefix of what rescuing writes.
pub record WritesFronts (rate : Rate) (file : List ℕ) (before after : World) : Type 0 where
  pub frames : List Taken
  pub end : RescueEnd
  pub rescues : Rescues file frames end
  pub out : PutsFront before.out after.out (movie_written rate file frames end)
  pub text : PutsFront before.text after.text (text_written file frames end)

-- The law that a run, whatever its result, writes prefixes of what rescuing writes.
abbrev pub RunsWriteFronts : Type 0
RunsWriteFronts = (rate : Rate) (file : List ℕ) (end : RescueEnd) (before after : World) → Ran rate file end before after → WritesFronts rate file before after

-- The result is the outcome of rescuing, or memory ran out.
abbrev pub AnswersRescue : List ℕ → RescueEnd → Type 0
AnswersRescue file end = (ts : List Taken) (known : RescueEnd) → Rescues file ts known → (end ≡ known) ⊎ (end ≡ ends.NoMemory)

-- The written movie is readable: it has as many samples as the file's chain has frames, and each is byte for byte
-- the frame at its offset in the file, and stands for it.
pub record IsMovieOf (file movie : List ℕ) : Type 0 where
  pub frames : List Taken
  pub chain : IsChain file frames
  pub read : Movie
  pub is_read : movie_in movie ≡ Ok read
  pub number : length (samples read.tables) ≡ length frames
  pub samples_are : map (λ s. bytes_in s.size movie s.at) (samples read.tables) ≡ frames_of file frames
  pub stand : AllZip FrameStands (frames_of file frames) (map (λ (t : Taken). t.frame) frames)

-- The law that the movie of a file's frames is read back as them.
abbrev pub RescuedMovieIsRead : Type 0
RescuedMovieIsRead = (rate : Rate) (file : List ℕ) (ts : List Taken) → IsRate rate → Rescues file ts ends.Done → IsMovieOf file (rescued_bytes rate file ts)
