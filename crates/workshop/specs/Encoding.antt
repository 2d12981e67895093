-- Status and output of `encode`. Our own definitions.
use Rattle.std.specs.Prelude.{◌≡◌, ◌⊎◌, true, None, Result, Ok, Err}
use Rattle.pw_outside.specs.Reading.{Fault}
use Rattle.pic_y4m.specs.declared.head.Head.{Head}
use Rattle.pic_y4m.specs.declared.fault.PictureKind.{PictureKind}
use Rattle.pic_y4m.specs.Frames.{Pictures}
use Rattle.run_encode.specs.declared.job.Job.{Job}
use Rattle.run_encode.specs.declared.job.EncodeWords.{EncodeWords}
use Rattle.run_encode.specs.declared.end.EncodeEnd.{EncodeEnd}
use Rattle.run_encode.specs.declared.end.EncodeEnd.TheVariants as ends
use Rattle.run_encode.specs.Outputs.{Outputs}
use Rattle.run_encode.specs.Groups.{IsJobOf, has_layout}
use Rattle.run_encode.specs.Encoding.{StopsFirst, RanOn}
use Rattle.run_encode.specs.Headline.{HasHeadline}
use Rattle.run_encode.specs.Completing.{EachFits}
use Rattle.workshop.specs.declared.status.Status.{Status}
use Rattle.workshop.specs.declared.status.Status.TheVariants as s

-- the status of a run's outcome
abbrev pub status_of : EncodeEnd → Status
status_of ends.Done = s.Done
status_of ends.NoMemory = s.NoMemory
status_of ends.ReadFault = s.ReadFault
status_of ends.WriteFault = s.WriteFault
status_of (ends.BadPictures kind place) = s.BadPictures kind place
status_of (ends.TooSmall frame least) = s.TooSmall frame least
status_of (ends.LayersFull frame) = s.LayersFull frame

-- The status and the output are those of a run over these pictures, or over the error of their head.
abbrev pub AnswersEncode : EncodeWords → Result (Head × Pictures) (Fault PictureKind) → Status → Outputs → Outputs → Type 0
AnswersEncode w input status before after = (end : EncodeEnd) × (status ≡ status_of end) × (StopsFirst end before after ⊎ RanOn w input end before after)

-- What was appended has the headline.
abbrev pub HoldsHeadline : EncodeWords → Result (Head × Pictures) (Fault PictureKind) → Status → Outputs → Outputs → Type 0
HoldsHeadline w input status before after = (end : EncodeEnd) × (status ≡ status_of end) × HasHeadline w input end before after

-- Pictures without an error, with a layout, whose groups each have a fitting choice and Pareto frontiers without
-- too many pairs, are encoded, unless memory runs out.
abbrev pub CompletesEncode : EncodeWords → Result (Head × Pictures) (Fault PictureKind) → Status → Type 0
CompletesEncode w (Err f) status = Unit {0}
CompletesEncode w (Ok (head, ps)) status = has_layout w head ≡ true → ps.fault ≡ None → ((j : Job) → IsJobOf w head j → EachFits j ps)
    → (status ≡ s.Done) ⊎ (status ≡ s.NoMemory)
