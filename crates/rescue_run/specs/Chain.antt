-- The chain of a file's frames, whatever lies around them. A frame is one of SMPTE RDD 36; the chain is our own.
use Rattle.std.specs.Prelude.{◌≡◌, ℕ, ◌+◌, ◌≤◌, ◌<◌, List, [], ◌∷◌, length, codes, Option, None, Some}
use Rattle.std.specs.Int.{w32}
use Rattle.qt_atoms.specs.Atoms.{bytes_in, number_in}
use Rattle.pr_head.specs.declared.frame.FrameHeader.{FrameHeader}
use Rattle.pr_frame.specs.declared.coded.CodedFrame.{CodedFrame}
use Rattle.pr_frame.specs.Stands.{FrameStands}
use Rattle.rescue_run.specs.declared.form.FrameForm.{FrameForm}

-- ---- one offset

-- the size of the frame at an offset: its first field
abbrev pub size_at : List ℕ → ℕ → ℕ
size_at file place = number_in w32 file place

-- the frame mark: the letters `icpf` after the size
abbrev pub HasMark : List ℕ → ℕ → Type 0
HasMark file place = bytes_in 4 file (place + 4) ≡ codes "icpf"

-- The offset holds this frame: the mark is there, the size is one that a frame has and that fits a movie's data
-- atom, the file has that many bytes from there on, and they stand for the frame.
pub record HoldsFrame (file : List ℕ) (place : ℕ) (frame : CodedFrame) : Type 0 where
  pub mark : HasMark file place
  pub least : 28 ≤ size_at file place
  pub most : size_at file place ≤ 4294967286
  pub inside : place + size_at file place ≤ length file
  pub stands : FrameStands (bytes_in (size_at file place) file place) frame

-- ---- the frames of one form

-- the properties that all frames of a movie share: size, chroma, interlace and alpha
abbrev pub form_of : FrameHeader → FrameForm
form_of h = record { width = h.width; height = h.height; chroma = h.chroma; interlace = h.interlace; alpha = h.alpha }

-- The frame has the form of the first one; before the first, any frame has it.
abbrev pub IsLike : Option FrameForm → CodedFrame → Type 0
IsLike None frame = Unit {0}
IsLike (Some form) frame = form ≡ form_of frame.header

-- the form of the first frame, once this one is taken
abbrev pub form_behind : Option FrameForm → CodedFrame → Option FrameForm
form_behind None frame = Some (form_of frame.header)
form_behind (Some form) frame = Some form

-- no offset from `from` up to `to` holds a frame of the form of the first
abbrev pub NoneHeld : List ℕ → Option FrameForm → (from to : ℕ) → Type 0
NoneHeld file first from to = (place : ℕ) (frame : CodedFrame) → from ≤ place → place < to → HoldsFrame file place frame → IsLike first frame → ⊥

-- ---- the chain

-- a frame that is taken, at its offset
pub record Taken : Type 0 where
  pub at : ℕ
  pub frame : CodedFrame

-- the offset after a frame that is taken
abbrev pub behind : List ℕ → Taken → ℕ
behind file t = t.at + size_at file t.at

-- From offset `from` up to `to` exactly these frames are taken. Each lies at the first offset that holds a frame of
-- the form of the first one; the chain continues after it. Every offset between holds no frame, or one of another
-- form.
abbrev pub Takes : List ℕ → Option FrameForm → (from : ℕ) → List Taken → (to : ℕ) → Type 0
Takes file first from [] to = (from ≤ to) × NoneHeld file first from to
Takes file first from (t ∷ ts) to = (from ≤ t.at) × NoneHeld file first from t.at × HoldsFrame file t.at t.frame × IsLike first t.frame
    × Takes file (form_behind first t.frame) (behind file t) ts to

-- These are the first frames of the file, and the search has reached offset `to`.
abbrev pub TakesFirst : List ℕ → List Taken → (to : ℕ) → Type 0
TakesFirst file ts to = Takes file None 0 ts to

-- the chain of a file: all its frames, up to its end
abbrev pub IsChain : List ℕ → List Taken → Type 0
IsChain file ts = TakesFirst file ts (length file)
