-- Listing a movie: its text and its outcome. Our own definitions.
use Rattle.std.specs.Prelude.{ℕ, ◌+◌, Bool, true, false, List, [], ◌∷◌, ◌++◌, length, Result, Ok, Err, codes}
use Rattle.std.specs.Fmt.{decimal}
use Rattle.pw_outside.specs.Reading.{Fault}
use Rattle.pw_outside.specs.Writing.{SinkState, Puts, PutsFront}
use Rattle.pw_text.specs.Numbered.{numbered}
use Rattle.qt_tables.specs.declared.fault.MovieKind.{MovieKind}
use Rattle.qt_tables.specs.declared.runs.Sample.{Sample}
use Rattle.qt_tables.specs.Samples.{samples}
use Rattle.qt_movie.specs.Movie.{Movie}
use Rattle.run_look.specs.declared.end.LookEnd.{LookEnd}
use Rattle.run_look.specs.declared.end.LookEnd.TheVariants as ends
use Rattle.run_look.specs.declared.listing.Stop.{Stop}
use Rattle.run_look.specs.declared.listing.Stop.TheVariants as stops

-- ---- the text

-- a track: its number among the movie's tracks, its time scale, and the kind of its first description
abbrev pub track_words : Movie → List ℕ
track_words m = codes "track " ++ decimal m.number ++ codes " timescale " ++ decimal m.tables.timescale ++ codes " kind " ++ m.kind

-- width and height of its first description
abbrev pub size_words : Movie → List ℕ
size_words m = codes " width " ++ decimal m.width ++ codes " height " ++ decimal m.height

-- the line of the track
abbrev pub track_line : Movie → List ℕ
track_line m = track_words m ++ size_words m ++ codes " samples " ++ decimal (length m.tables.sizes) ++ codes "\n"

-- the line of the sample with this number
abbrev pub sample_line : ℕ → Sample → List ℕ
sample_line number s = codes "sample " ++ decimal number ++ codes " at " ++ decimal s.at ++ codes " size " ++ decimal s.size
    ++ codes " duration " ++ decimal s.duration ++ codes "\n"

-- the lines of samples, numbered from this number on
abbrev pub sample_lines : ℕ → List Sample → List ℕ
sample_lines number ss = numbered sample_line number ss

-- a line for the track, and one for each of its samples
abbrev pub list_text : Movie → List ℕ
list_text m = track_line m ++ sample_lines 0 (samples m.tables)

-- ---- the outcome, by the result of reading the movie

-- whether writing stopped because the sink failed
abbrev pub is_stopped_by_sink : {X : Type 0} → Result X Stop → Bool
is_stopped_by_sink (Err stops.Failed) = true
is_stopped_by_sink _ = false

-- the result if no port fails and memory lasts
abbrev pub list_end : Result Movie (Fault MovieKind) → LookEnd
list_end (Err f) = ends.BadMovie f.kind f.place
list_end (Ok m) = ends.Done

-- The movie's text was appended.
abbrev pub PrintsList : Result Movie (Fault MovieKind) → SinkState → SinkState → Type 0
PrintsList (Err f) before after = ⊥
PrintsList (Ok m) before after = Puts before after (list_text m)

-- A prefix of the movie's text was appended; of a file that is no such movie nothing.
abbrev pub PrintsListFront : Result Movie (Fault MovieKind) → SinkState → SinkState → Type 0
PrintsListFront (Err f) before after = Puts before after []
PrintsListFront (Ok m) before after = PutsFront before after (list_text m)
