-- Status and output of `list`. Our own definitions.
use Rattle.std.specs.Prelude.{◌≡◌, ◌⊎◌, Result, Ok, Err}
use Rattle.std.specs.Bool.{OnTrue}
use Rattle.pw_outside.specs.Reading.{Fault}
use Rattle.pw_outside.specs.Writing.{SinkState}
use Rattle.qt_tables.specs.declared.fault.MovieKind.{MovieKind}
use Rattle.qt_movie.specs.Movie.{Movie}
use Rattle.run_look.specs.declared.end.LookEnd.{LookEnd}
use Rattle.run_look.specs.declared.end.LookEnd.TheVariants as ends
use Rattle.run_look.specs.Listing.{PrintsList, PrintsListFront}
use Rattle.workshop.specs.Status.{is_done, AnswersUnlessOutside}
use Rattle.workshop.specs.declared.status.Status.{Status}
use Rattle.workshop.specs.declared.status.Status.TheVariants as s

-- the status of a run's outcome
abbrev pub status_of : LookEnd → Status
status_of ends.Done = s.Done
status_of ends.NoMemory = s.NoMemory
status_of ends.ReadFault = s.ReadFault
status_of ends.WriteFault = s.WriteFault
status_of (ends.BadPictures kind place) = s.BadPictures kind place
status_of (ends.BadMovie kind place) = s.BadMovie kind place
status_of (ends.BadFrame sample kind place) = s.BadFrame sample kind place
status_of (ends.BadProof kind place) = s.BadProof kind place
status_of (ends.Refused frame clause) = s.Refused frame clause

-- the status for a file: its first error, if it isn't a movie with a track of ProRes
abbrev pub AnswersList : Result Movie (Fault MovieKind) → Status → Type 0
AnswersList (Err f) status = AnswersUnlessOutside status (s.BadMovie f.kind f.place)
AnswersList (Ok m) status = AnswersUnlessOutside status s.Done

-- The status for a file, and the text that was appended: all of it after Done, a prefix after every refusal.
pub record RunsList (input : Result Movie (Fault MovieKind)) (status : Status) (before after : SinkState) : Type 0 where
  pub answer : AnswersList input status
  pub text : OnTrue (is_done status) (PrintsList input before after)
  pub part : PrintsListFront input before after

-- A movie is listed, unless memory runs out.
abbrev pub CompletesList : Status → Result Movie (Fault MovieKind) → Type 0
CompletesList status (Err f) = Unit {0}
CompletesList status (Ok m) = (status ≡ s.Done) ⊎ (status ≡ s.NoMemory)
