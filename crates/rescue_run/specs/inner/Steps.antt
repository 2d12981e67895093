-- What each step of a run does. Our own definitions.
use Rattle.std.specs.Prelude.{◌≡◌, ℕ, ◌%◌, ◌≤◌, ◌<◌, Bool, true, false, List, [], ◌∷◌, ◌++◌, map, length, Option, None, Some, Result, Ok, Err}
use Rattle.pw_outside.specs.Ports.{last}
use Rattle.pw_outside.specs.Writing.{SinkState, Puts, PutsFront}
use Rattle.pw_planes.specs.declared.plane.TheConstants.{MAX_WIDTH, MAX_HEIGHT}
use Rattle.pr_geom.specs.Slices.{pictures_of}
use Rattle.pic_y4m.specs.declared.writer.WriteEnd.{WriteEnd}
use Rattle.qt_tables.specs.declared.tables.TheConstants.{MAX_SAMPLES}
use Rattle.qt_tables.specs.declared.writer.Extent.{Extent}
use Rattle.qt_tables.specs.declared.fault.MovieKind.TheVariants.{TooManySamples, SampleOutside}
use Rattle.qt_movie.specs.MovieBytes.{ftyp_bytes, frame_bytes}
use Rattle.pr_frame.specs.declared.coded.CodedFrame.{CodedFrame}
use Rattle.pr_frame.specs.Stands.{FrameStands}
use Rattle.rescue_run.specs.declared.form.FrameForm.{FrameForm}
use Rattle.rescue_run.specs.declared.form.Rate.{Rate}
use Rattle.rescue_run.specs.declared.end.RescueEnd.{RescueEnd}
use Rattle.rescue_run.specs.declared.end.RescueEnd.TheVariants as ends
use Rattle.rescue_run.specs.declared.gathering.Gathering.{Gathering}
use Rattle.rescue_run.specs.Chain.{HoldsFrame, IsLike, form_of, form_behind, Taken, TakesFirst}
use Rattle.rescue_run.specs.Rescuing.{head_of, frames_of, opening_bytes, extents_of, Refused, Stopped, World, EndsWithin}

-- ---- the result of a step

-- whether a port that is read from failed
abbrev pub is_read_end : {X : Type 0} → Result X RescueEnd → Bool
is_read_end (Err ends.ReadFault) = true
is_read_end _ = false

-- whether a sink failed
abbrev pub is_write_end : {X : Type 0} → Result X RescueEnd → Bool
is_write_end (Err ends.WriteFault) = true
is_write_end _ = false

-- memory ran out in reading, or a call of the file failed
abbrev pub IsReadersEnd : RescueEnd → Type 0
IsReadersEnd ends.NoMemory = Unit {0}
IsReadersEnd ends.ReadFault = Unit {0}
IsReadersEnd _ = ⊥

-- a port failed, or memory ran out
abbrev pub IsPortsEnd : RescueEnd → Type 0
IsPortsEnd ends.NoMemory = Unit {0}
IsPortsEnd ends.ReadFault = Unit {0}
IsPortsEnd ends.WriteFault = Unit {0}
IsPortsEnd ends.Done = ⊥
IsPortsEnd (ends.BadMovie kind place) = ⊥

-- a sink failed, or memory ran out
abbrev pub IsWritersEnd : RescueEnd → Type 0
IsWritersEnd ends.NoMemory = Unit {0}
IsWritersEnd ends.WriteFault = Unit {0}
IsWritersEnd _ = ⊥

-- a port failed, or memory ran out, or the file became shorter, which a file with visible bytes never does
abbrev pub IsCopyEnd : RescueEnd → Type 0
IsCopyEnd ends.NoMemory = Unit {0}
IsCopyEnd ends.ReadFault = Unit {0}
IsCopyEnd ends.WriteFault = Unit {0}
IsCopyEnd (ends.BadMovie kind place) = kind ≡ SampleOutside
IsCopyEnd ends.Done = ⊥

-- ---- validating an offset

-- a form of frames within the limits of movies
pub record IsForm (f : FrameForm) : Type 0 where
  pub some_columns : 0 < f.width
  pub some_rows : 0 < f.height
  pub columns : f.width ≤ MAX_WIDTH
  pub rows : f.height ≤ MAX_HEIGHT
  pub whole : f.height % pictures_of f.interlace ≡ 0

-- the bytes stand for a frame of this form
pub record StandsAs (sample : List ℕ) (form : FrameForm) : Type 0 where
  pub frame : CodedFrame
  pub stands : FrameStands sample frame
  pub form_is : form ≡ form_of frame.header

-- the offset holds a frame of this form, which is that of the first
pub record HoldsLike (file : List ℕ) (place : ℕ) (first : Option FrameForm) (form : FrameForm) : Type 0 where
  pub frame : CodedFrame
  pub holds : HoldsFrame file place frame
  pub like : IsLike first frame
  pub form_is : form ≡ form_of frame.header

-- the offset holds no frame of the form of the first
abbrev pub HoldsNone : List ℕ → ℕ → Option FrameForm → Type 0
HoldsNone file place first = (frame : CodedFrame) → HoldsFrame file place frame → IsLike first frame → ⊥

abbrev pub IsJudged : List ℕ → ℕ → Option FrameForm → Option FrameForm → Type 0
IsJudged file place first None = HoldsNone file place first
IsJudged file place first (Some form) = HoldsLike file place first form

-- the form of the first frame, if there is one
abbrev pub IsFirstForm : Option FrameForm → FrameForm → Type 0
IsFirstForm None form = Unit {0}
IsFirstForm (Some first) form = first ≡ form

-- ---- the gathered frames

-- the form of the frames, and their extents
abbrev pub form_in : Option Gathering → Option FrameForm
form_in None = None
form_in (Some g) = Some g.form

abbrev pub extents_in : Option Gathering → List Extent
extents_in None = []
extents_in (Some g) = g.extents.items

abbrev pub first_or : Option FrameForm → FrameForm → Option FrameForm
first_or None form = Some form
first_or (Some first) form = Some first

abbrev pub sizes_of : List Extent → List ℕ
sizes_of es = map (λ (e : Extent). e.size) es

-- the writer writes a movie of the gathered frames
pub record IsKept (rate : Rate) (g : Gathering) : Type 0 where
  pub form : IsForm g.form
  pub head : g.writer.head ≡ head_of rate g.form
  pub sizes : g.writer.sizes ≡ sizes_of g.extents.items

abbrev pub AreKept : Rate → Option Gathering → Type 0
AreKept rate None = Unit {0}
AreKept rate (Some g) = IsKept rate g × (1 ≤ length g.extents.items)

-- the bytes written for a frame, the first or a later one
abbrev pub step_bytes : List Extent → List ℕ → List ℕ
step_bytes [] frame = ftyp_bytes ++ frame_bytes frame
step_bytes (e ∷ es) frame = frame_bytes frame

-- The effect of taking a frame: it was written after those gathered before, or there are too many, or a prefix of
-- it was written.
abbrev pub TakingIs : (frame : List ℕ) → ℕ → List Extent → Result (Unit {0}) RescueEnd → SinkState → SinkState → Type 0
TakingIs frame place es (Ok _) a b = Puts a b (step_bytes es frame) × (length es < MAX_SAMPLES)
TakingIs frame place es (Err (ends.BadMovie kind at)) a b = (kind ≡ TooManySamples) × (at ≡ place) × (length es ≡ MAX_SAMPLES) × Puts a b []
TakingIs frame place es (Err ends.NoMemory) a b = PutsFront a b (step_bytes es frame) × (length es < MAX_SAMPLES)
TakingIs frame place es (Err ends.ReadFault) a b = PutsFront a b (step_bytes es frame) × (length es < MAX_SAMPLES)
TakingIs frame place es (Err ends.WriteFault) a b = PutsFront a b (step_bytes es frame) × (length es < MAX_SAMPLES)
TakingIs frame place es (Err ends.Done) a b = ⊥

-- ---- all frames

-- the form of the first frame, once these are taken
abbrev pub form_after : Option FrameForm → List Taken → Option FrameForm
form_after first [] = first
form_after first (t ∷ ts) = form_after (form_behind first t.frame) ts

-- The frames up to offset `to` were gathered and written.
pub record GatheredUpTo (file : List ℕ) (to : ℕ) (g : Option Gathering) (a b : SinkState) : Type 0 where
  pub frames : List Taken
  pub takes : TakesFirst file frames to
  pub form : form_in g ≡ form_after None frames
  pub extents : extents_in g ≡ extents_of file frames
  pub few : length frames ≤ MAX_SAMPLES
  pub out : Puts a b (opening_bytes (frames_of file frames))

-- the state of both sinks, with an unchanged text
abbrev pub with_text : SinkState → SinkState → World
with_text text out = record { out = out; text = text }

-- The outcome of an iteration, or of the whole gathering: it continues, or met a fault, or stopped.
abbrev pub Halts : List ℕ → RescueEnd → SinkState → SinkState → Type 0
Halts file (ends.BadMovie kind place) a b = (text : SinkState) → text.taken ≤ last → Refused file (ends.BadMovie kind place) (with_text text a) (with_text text b)
Halts file ends.NoMemory a b = (text : SinkState) → text.taken ≤ last → Stopped file (with_text text a) (with_text text b)
Halts file ends.ReadFault a b = (text : SinkState) → text.taken ≤ last → Stopped file (with_text text a) (with_text text b)
Halts file ends.WriteFault a b = (text : SinkState) → text.taken ≤ last → Stopped file (with_text text a) (with_text text b)
Halts file ends.Done a b = ⊥

-- The effect of an iteration: the frames up to where the search continues were gathered, or the run halts.
abbrev pub GoesFrom : List ℕ → Result ℕ RescueEnd → Option Gathering → SinkState → SinkState → Type 0
GoesFrom file (Ok next) g a b = GatheredUpTo file next g a b
GoesFrom file (Err end) g a b = Halts file end a b

-- The effect of gathering: all frames were gathered, or the run halts.
abbrev pub GathersAll : List ℕ → Result (Option Gathering) RescueEnd → SinkState → SinkState → Type 0
GathersAll file (Ok g) a b = GatheredUpTo file (length file) g a b
GathersAll file (Err end) a b = Halts file end a b

-- ---- the end of a run

-- All was written, or else a prefix of it.
abbrev pub TextIs : {X : Type 0} → Result X WriteEnd → List ℕ → SinkState → SinkState → Type 0
TextIs (Ok _) bytes a b = Puts a b bytes
TextIs (Err _) bytes a b = PutsFront a b bytes

-- The effect of the end of a run, which writes `tail` after the frames and this text.
abbrev pub FinishIs : RescueEnd → (movie text : List ℕ) → World → World → Type 0
FinishIs ends.Done movie text before after = Puts before.out after.out movie × Puts before.text after.text text
FinishIs ends.NoMemory movie text before after = EndsWithin movie text before after
FinishIs ends.WriteFault movie text before after = EndsWithin movie text before after
FinishIs ends.ReadFault movie text before after = ⊥
FinishIs (ends.BadMovie kind place) movie text before after = ⊥
