-- What rescuing makes of a file: an outcome, a movie and a text; and what a run does. Our own definitions.
use Rattle.std.specs.Prelude.{◌≡◌, ℕ, ◌+◌, ◌≤◌, ◌⊎◌, Bool, true, false, List, [], ◌∷◌, ◌++◌, length, map, codes, Option}
use Rattle.std.specs.Bool.{OnTrue, OnFalse}
use Rattle.std.specs.List.{flat_map}
use Rattle.std.specs.Fmt.{decimal}
use Rattle.pw_outside.specs.Ports.{Rose}
use Rattle.pw_outside.specs.Writing.{SinkState, sink_state, Puts, PutsFront}
use Rattle.pw_planes.specs.declared.kinds.Depth.TheVariants.{D10}
use Rattle.pic_y4m.specs.declared.head.Head.{Head}
use Rattle.pic_y4m.specs.declared.head.TheConstants.{MAX_RATE_NUM, MAX_RATE_DEN}
use Rattle.pw_text.specs.Numbered.{numbered}
use Rattle.qt_atoms.specs.Atoms.{bytes_in}
use Rattle.qt_tables.specs.declared.tables.TheConstants.{MAX_SAMPLES}
use Rattle.qt_tables.specs.declared.writer.Extent.{Extent}
use Rattle.qt_tables.specs.declared.fault.MovieKind.TheVariants.{NoFrames, TooManySamples}
use Rattle.qt_movie.specs.MovieBytes.{ftyp_bytes, frame_bytes, movie_bytes}
use Rattle.rescue_run.specs.declared.form.FrameForm.{FrameForm}
use Rattle.rescue_run.specs.declared.form.Rate.{Rate}
use Rattle.rescue_run.specs.declared.end.RescueEnd.{RescueEnd}
use Rattle.rescue_run.specs.declared.end.RescueEnd.TheVariants as ends
use Rattle.rescue_run.specs.Chain.{Taken, size_at, form_of, behind, TakesFirst, IsChain}

-- ---- the outcome

-- After these frames comes one of the form of the first, at this offset.
pub record Follows (file : List ℕ) (ts : List Taken) (place : ℕ) : Type 0 where
  pub next : Taken
  pub at : place ≡ next.at
  pub takes : TakesFirst file (ts ++ next ∷ []) (behind file next)

-- The outcome of rescuing, and the frames that it takes: the file's chain, if it has a frame; no frame at all; or
-- the first 1,000,000 of more.
abbrev pub Rescues : List ℕ → List Taken → RescueEnd → Type 0
Rescues file ts ends.Done = IsChain file ts × (1 ≤ length ts) × (length ts ≤ MAX_SAMPLES)
Rescues file ts (ends.BadMovie kind place) =
    ((kind ≡ NoFrames) × (place ≡ 0) × (ts ≡ []) × IsChain file ts) ⊎ ((kind ≡ TooManySamples) × (length ts ≡ MAX_SAMPLES) × Follows file ts place)
Rescues file ts ends.NoMemory = ⊥
Rescues file ts ends.ReadFault = ⊥
Rescues file ts ends.WriteFault = ⊥

-- ---- the movie

-- a frame rate within the limits of movies
pub record IsRate (rate : Rate) : Type 0 where
  pub some_num : 1 ≤ rate.num
  pub num : rate.num ≤ MAX_RATE_NUM
  pub some_den : 1 ≤ rate.den
  pub den : rate.den ≤ MAX_RATE_DEN

-- the header of a movie of frames of this form, at this rate; a movie's header has no bit depth
abbrev pub head_of : Rate → FrameForm → Head
head_of rate form = record {
  width = form.width;
  height = form.height;
  chroma = form.chroma;
  depth = D10;
  alpha = form.alpha;
  interlace = form.interlace;
  num = rate.num;
  den = rate.den;
}

-- the file's bytes of a taken frame
abbrev pub bytes_of_frame : List ℕ → Taken → List ℕ
bytes_of_frame file t = bytes_in (size_at file t.at) file t.at

abbrev pub frames_of : List ℕ → List Taken → List (List ℕ)
frames_of file ts = map (bytes_of_frame file) ts

-- what is written before the movie atom: the file type with the first frame, and each frame in its data atom
abbrev pub opening_bytes : List (List ℕ) → List ℕ
opening_bytes [] = []
opening_bytes (frame ∷ frames) = ftyp_bytes ++ flat_map frame_bytes (frame ∷ frames)

-- the movie of the taken frames, of the form of the first; empty without a frame
abbrev pub rescued_bytes : Rate → List ℕ → List Taken → List ℕ
rescued_bytes rate file [] = []
rescued_bytes rate file (t ∷ ts) = movie_bytes (head_of rate (form_of t.frame.header)) (frames_of file (t ∷ ts))

-- ---- the text

-- the extent of a taken frame in the file
abbrev pub extent_of : List ℕ → Taken → Extent
extent_of file t = record { at = t.at; size = size_at file t.at }

abbrev pub extents_of : List ℕ → List Taken → List Extent
extents_of file ts = map (extent_of file) ts

-- the line of the frame with this number
abbrev pub frame_line : ℕ → Extent → List ℕ
frame_line number e = codes "frame " ++ decimal number ++ codes " at " ++ decimal e.at ++ codes " size " ++ decimal e.size ++ codes "\n"

-- the lines of frames, numbered from this number on
abbrev pub frame_lines : ℕ → List Extent → List ℕ
frame_lines number es = numbered frame_line number es

-- the line with the number of frames
abbrev pub count_line : ℕ → List ℕ
count_line count = codes "frames " ++ decimal count ++ codes "\n"

abbrev pub rescue_text : List Extent → List ℕ
rescue_text es = frame_lines 0 es ++ count_line (length es)

-- ---- the effect of a run

-- what a run changes
pub record World : Type 0 where
  pub out : SinkState
  pub text : SinkState

abbrev pub world : {X : Type 0} → (X → Option (List ℕ)) → (X → ℕ) → X → X → World
world held taken out text = record { out = sink_state (held out) (taken out); text = sink_state (held text) (taken text) }

-- The whole movie and the whole text were written.
pub record Finished (rate : Rate) (file : List ℕ) (before after : World) : Type 0 where
  pub frames : List Taken
  pub rescues : Rescues file frames ends.Done
  pub out : Puts before.out after.out (rescued_bytes rate file frames)
  pub text : Puts before.text after.text (rescue_text (extents_of file frames))

-- All frames up to the fault were written, and nothing else.
pub record Refused (file : List ℕ) (end : RescueEnd) (before after : World) : Type 0 where
  pub frames : List Taken
  pub rescues : Rescues file frames end
  pub out : Puts before.out after.out (opening_bytes (frames_of file frames))
  pub text : Puts before.text after.text []

-- Before the movie atom: a prefix of the frames that were found was written, and no text.
pub record Stopped (file : List ℕ) (before after : World) : Type 0 where
  pub frames : List Taken
  pub to : ℕ
  pub within : to ≤ length file
  pub takes : TakesFirst file frames to
  pub few : length frames ≤ MAX_SAMPLES
  pub out : PutsFront before.out after.out (opening_bytes (frames_of file frames))
  pub text : Puts before.text after.text []

-- A prefix of the whole movie was written, and no text; or the whole movie, and a prefix of the text.
abbrev pub EndsWithin : (movie text : List ℕ) → (before after : World) → Type 0
EndsWithin movie text before after =
    (PutsFront before.out after.out movie × Puts before.text after.text []) ⊎ (Puts before.out after.out movie × PutsFront before.text after.text text)

-- All frames were written, and a prefix of the end.
pub record Cut (rate : Rate) (file : List ℕ) (before after : World) : Type 0 where
  pub frames : List Taken
  pub rescues : Rescues file frames ends.Done
  pub written : EndsWithin (rescued_bytes rate file frames) (rescue_text (extents_of file frames)) before after

-- The effect of a run, by its result.
abbrev pub Ran : Rate → List ℕ → RescueEnd → World → World → Type 0
Ran rate file ends.Done before after = Finished rate file before after
Ran rate file (ends.BadMovie kind place) before after = Refused file (ends.BadMovie kind place) before after
Ran rate file ends.ReadFault before after = Stopped file before after
Ran rate file ends.WriteFault before after = Stopped file before after ⊎ Cut rate file before after
Ran rate file ends.NoMemory before after = Stopped file before after ⊎ Cut rate file before after

-- ---- by the result

abbrev pub is_done : RescueEnd → Bool
is_done ends.Done = true
is_done _ = false

abbrev pub is_read_fault : RescueEnd → Bool
is_read_fault ends.ReadFault = true
is_read_fault _ = false

abbrev pub is_write_fault : RescueEnd → Bool
is_write_fault ends.WriteFault = true
is_write_fault _ = false
