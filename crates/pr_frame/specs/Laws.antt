-- Laws of frames, over the definitions alone.
use Rattle.std.specs.Prelude.{◌≡◌, ◌⊎◌, ◌<◌, ◌≤◌, List, ℕ, length, Some, None}
use Rattle.pw_outside.specs.Reading.{Fault}
use Rattle.pr_head.specs.declared.fault.FrameKind.{FrameKind}
use Rattle.std.specs.List.{All}
use Rattle.pr_head.specs.declared.frame.FrameHeader.{FrameHeader}
use Rattle.pr_frame.specs.declared.coded.CodedSlice.{CodedSlice}
use Rattle.pr_frame.specs.declared.coded.CodedFrame.{CodedFrame}
use Rattle.pr_frame.specs.Forms.{places_in}
use Rattle.pr_frame.specs.Coded.{AreCodedSlices, IsWritableSlice, CanBeWritten, HasArrays, HasShape}
use Rattle.pr_frame.specs.Written.{slice_length, coded_bytes, frame_length_of}
use Rattle.pr_frame.specs.Stands.{FrameStands}
use Rattle.pr_frame.specs.Reading.{frame_fault}

-- a sample stands for one coded frame at most
abbrev pub OneFrame : Type 0
OneFrame = (sample : List ℕ) (f g : CodedFrame) → FrameStands sample f → FrameStands sample g → f ≡ g

-- a sample stands for a coded frame, or has a fault
abbrev pub FrameOrFault : Type 0
FrameOrFault = (sample : List ℕ) → ((f : CodedFrame) × FrameStands sample f) ⊎ ((fault : Fault FrameKind) × (frame_fault sample ≡ Some fault))

-- and never both
abbrev pub FrameHasNoFault : Type 0
FrameHasNoFault = (sample : List ℕ) (f : CodedFrame) → FrameStands sample f → frame_fault sample ≡ None

-- the written bytes stand for the frame that was written
abbrev pub WrittenStands : Type 0
WrittenStands = (f : CodedFrame) → HasShape f → CanBeWritten f → FrameStands (coded_bytes f) f

-- the number of bytes that are written
abbrev pub WrittenHasLength : Type 0
WrittenHasLength = (f : CodedFrame) → HasArrays f.header → length (coded_bytes f) ≡ frame_length_of f

-- a slice that can be written has fewer than 65,535 bytes
abbrev pub SlicesAreShort : Type 0
SlicesAreShort = (h : FrameHeader) (log2 : ℕ) (slices : List CodedSlice) → log2 ≤ 3 → AreCodedSlices h (places_in h log2) slices → All IsWritableSlice slices
    → All (λ slice. slice_length h.interlace h.alpha slice < 65535) slices

-- Reading what was written gives the coded frame back: the bytes stand for it and for no other, and have no fault.
pub record IsReadAs (sample : List ℕ) (f : CodedFrame) : Type 0 where
  pub stands : FrameStands sample f
  pub only : (g : CodedFrame) → FrameStands sample g → g ≡ f
  pub no_fault : frame_fault sample ≡ None

abbrev pub WrittenIsReadAgain : Type 0
WrittenIsReadAgain = (f : CodedFrame) → HasShape f → CanBeWritten f → IsReadAs (coded_bytes f) f
