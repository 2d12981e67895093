-- What the steps of a run do with the remaining pictures. Our own definitions.
use Rattle.std.specs.Prelude.{◌≡◌, ℕ, ◌+◌, ◌*◌, ◌<◌, ◌≤◌, ◌⊎◌, List, [], ◌++◌, length, map, take, Option, None, Some, Result, Ok, Err, IsTrue}
use Rattle.std.specs.List.{flat_map, All}
use Rattle.pw_outside.specs.Reading.{rest_of}
use Rattle.pw_planes.specs.declared.picture.Picture.{Picture}
use Rattle.pic_y4m.specs.Frames.{Pictures}
use Rattle.pic_raw.specs.declared.any.AnyReader.{AnyReader}
use Rattle.pic_raw.specs.Any.{left_of, place_of}
use Rattle.qt_movie.specs.MovieBytes.{WriterState, frame_bytes, moov_bytes, extents}
use Rattle.rate_table.specs.Table.{HasNoFit, least_bytes}
use Rattle.rate_layers.specs.Best.{PassesByPicks}
use Rattle.rate_cert.specs.Files.{Writing, record_bytes, end_bytes}
use Rattle.run_encode.specs.declared.job.Job.{Job}
use Rattle.run_encode.specs.declared.end.EncodeEnd.{EncodeEnd}
use Rattle.run_encode.specs.declared.end.EncodeEnd.TheVariants as ends
use Rattle.run_encode.specs.declared.turn.Turn.{Turn}
use Rattle.run_encode.specs.declared.turn.Turn.TheVariants as turns
use Rattle.run_encode.specs.Groups.{settings_of, table_in, group_count}
use Rattle.run_encode.specs.Outputs.{Outputs, Lists, nothing, PutsAll, PutsFronts}
use Rattle.run_encode.specs.Encoding.{Group, IsCoded, IsNarrow, body_lists, records_bytes, all_frames, frames_of, record_in, group_lines, frames_line, none_record, AreFirst, group_behind, cut_lists, Encodes, Ran}

-- the remaining pictures of a reader over a source
abbrev pub left_by : AnyReader → Option (List ℕ) → Pictures
left_by r left = left_of r (rest_of (place_of r) left)

-- pictures, followed by the remaining ones
abbrev pub in_front : List Picture → Pictures → Pictures
in_front ps left = record { pictures = ps ++ left.pictures; fault = left.fault }

abbrev pub no_pictures : Pictures
no_pictures = record { pictures = []; fault = None }

-- the writers' state: the sizes of the movie's frames, and the number of records in the proof
pub record Counts : Type 0 where
  pub sizes : List ℕ
  pub records : ℕ

abbrev pub counts_of : WriterState → Writing → Counts
counts_of movie proof = record { sizes = movie.sizes; records = proof.progress.count }

-- a proof of this run after whole groups: a further record may follow
pub record IsOpen (j : Job) (proof : Writing) : Type 0 where
  pub settings : proof.settings ≡ settings_of j
  pub format : proof.format ≡ j.format
  pub more : IsTrue proof.progress.more

-- ---- one group

-- what is written of a group whose first frame is frame `number`
abbrev pub group_lists : Job → (number : ℕ) → Group → Lists
group_lists j number g = record {
  movie = flat_map frame_bytes (frames_of j g);
  proof = record_bytes j.format (record_in j g);
  text = group_lines j number g;
}

-- A group was read, coded by its best choice and written. `left` are the pictures that remained before, `rest`
-- those that remain now.
pub record Wrote (j : Job) (number number' : ℕ) (left rest : Pictures) (old new : Counts) (before after : Outputs) : Type 0 where
  pub group : Group
  pub is_coded : IsCoded j group
  pub narrow : IsNarrow j group
  pub number_is : number' ≡ number + length group.pictures
  pub next : left ≡ in_front group.pictures rest
  pub puts : PutsAll before after (group_lists j number group)
  pub sizes : new.sizes ≡ old.sizes ++ map length (frames_of j group)
  pub records : new.records ≡ old.records + 1

pub record WroteWhole (j : Job) (number number' : ℕ) (left rest : Pictures) (old new : Counts) (before after : Outputs) : Type 0 where
  pub wrote : Wrote j number number' left rest old new before after
  pub whole : length wrote.group.pictures ≡ j.group

-- the last group, of fewer pictures
pub record WroteLast (j : Job) (number number' : ℕ) (left : Pictures) (old new : Counts) (before after : Outputs) : Type 0 where
  pub wrote : Wrote j number number' left no_pictures old new before after
  pub some : 1 ≤ length wrote.group.pictures
  pub short : length wrote.group.pictures < j.group

-- the remaining pictures begin with a group
pub record HasGroup (j : Job) (left : Pictures) : Type 0 where
  pub some : 1 ≤ length left.pictures
  pub whole : length left.pictures < j.group → left.fault ≡ None

-- the lists of a group for which no choice fits
abbrev pub none_lists : Job → List Picture → Lists
none_lists j ps = record { movie = []; proof = record_bytes j.format (none_record j ps); text = [] }

-- A sink failed: the three have prefixes of a group's lists, or of those that say that no choice fits.
abbrev pub FailsIn : Job → (number : ℕ) → Pictures → Outputs → Outputs → Type 0
FailsIn j number left before after =
    HasGroup j left
    × (((g : Group) × (g.pictures ≡ take j.group left.pictures) × IsCoded j g × PutsFronts before after (group_lists j number g))
    ⊎ (HasNoFit (table_in j (take j.group left.pictures)) × PutsFronts before after (none_lists j (take j.group left.pictures))))

-- What the run's outcome says of the remaining pictures, and what was written in this iteration. If no choice fits,
-- the proof's end is still to be written.
abbrev pub EndsIn : Job → (number : ℕ) → Pictures → (old new : Counts) → EncodeEnd → Outputs → Outputs → Type 0
EndsIn j number left old new ends.NoMemory before after = PutsAll before after nothing
EndsIn j number left old new ends.ReadFault before after = PutsAll before after nothing
EndsIn j number left old new (ends.BadPictures kind place) before after =
    (length left.pictures < j.group) × (left.fault ≡ Some (record { kind = kind; place = place })) × PutsAll before after nothing
EndsIn j number left old new (ends.LayersFull frame) before after =
    HasGroup j left × PassesByPicks (table_in j (take j.group left.pictures)) × (frame ≡ number) × PutsAll before after nothing
EndsIn j number left old new (ends.TooSmall frame least) before after =
    HasGroup j left × HasNoFit (table_in j (take j.group left.pictures)) × (frame ≡ number) × (least ≡ least_bytes (table_in j (take j.group left.pictures)))
    × PutsAll before after (none_lists j (take j.group left.pictures)) × (new.records ≡ old.records + 1)
EndsIn j number left old new ends.WriteFault before after = FailsIn j number left before after
EndsIn j number left old new ends.Done before after = ⊥

-- One iteration of the loop: a whole group was written; or the last group, of fewer pictures; or nothing, at the
-- end; or the run ended.
abbrev pub TurnIs : Job → (number number' : ℕ) → (left rest : Pictures) → (old new : Counts) → Turn → Outputs → Outputs → Type 0
TurnIs j number number' left rest old new turns.Whole before after = WroteWhole j number number' left rest old new before after
TurnIs j number number' left rest old new turns.Last before after = WroteLast j number number' left old new before after
TurnIs j number number' left rest old new turns.End before after = (left ≡ no_pictures) × (new ≡ old) × PutsAll before after nothing
TurnIs j number number' left rest old new (turns.Ended end) before after = EndsIn j number left old new end before after

-- ---- the groups so far

-- These groups, each a whole one, were read and written, and nothing else.
pub record WholeGroups (j : Job) (all rest : Pictures) (number : ℕ) (now : Counts) (before after : Outputs) : Type 0 where
  pub coded : List Group
  pub each : All (IsCoded j) coded
  pub narrow : All (IsNarrow j) coded
  pub whole : All (λ g. length g.pictures ≡ j.group) coded
  pub split : all ≡ in_front (flat_map (λ g. g.pictures) coded) rest
  pub number_is : number ≡ length (flat_map (λ g. g.pictures) coded)
  pub puts : PutsAll before after (body_lists j coded)
  pub sizes : now.sizes ≡ map length (all_frames j coded)
  pub records : now.records ≡ length coded

-- ---- all groups

-- what is written of groups, and of the group after them, for which no choice fits
abbrev pub small_body : Job → Pictures → List Group → Lists
small_body j all coded = record (body_lists j coded) { proof = records_bytes j coded ++ record_bytes j.format (none_record j (group_behind j all coded)) }

-- All groups of the pictures were written.
pub record AllGroups (j : Job) (all : Pictures) (now : Counts) (before after : Outputs) : Type 0 where
  pub coded : List Group
  pub first : AreFirst j all coded
  pub narrow : All (IsNarrow j) coded
  pub count : length coded ≡ group_count j.group all
  pub end : all.fault ≡ None
  pub puts : PutsAll before after (body_lists j coded)
  pub sizes : now.sizes ≡ map length (all_frames j coded)
  pub records : now.records ≡ length coded

-- The run's outcome after the groups `coded`.
abbrev pub Behind : Job → Pictures → List Group → Counts → EncodeEnd → Outputs → Outputs → Type 0
Behind j all coded now ends.NoMemory before after = PutsAll before after (body_lists j coded) × All (IsNarrow j) coded
Behind j all coded now ends.ReadFault before after = PutsAll before after (body_lists j coded) × All (IsNarrow j) coded
Behind j all coded now (ends.BadPictures kind place) before after =
    (length coded ≡ group_count j.group all) × (all.fault ≡ Some (record { kind = kind; place = place })) × PutsAll before after (body_lists j coded) × All (IsNarrow j) coded
Behind j all coded now (ends.LayersFull frame) before after =
    (length coded < group_count j.group all) × PassesByPicks (table_in j (group_behind j all coded)) × (frame ≡ j.group * length coded)
    × PutsAll before after (body_lists j coded) × All (IsNarrow j) coded
Behind j all coded now (ends.TooSmall frame least) before after =
    (length coded < group_count j.group all) × HasNoFit (table_in j (group_behind j all coded)) × (frame ≡ j.group * length coded)
    × (least ≡ least_bytes (table_in j (group_behind j all coded))) × PutsAll before after (small_body j all coded) × All (IsNarrow j) coded
    × (now.records ≡ length coded + 1)
Behind j all coded now ends.WriteFault before after =
    PutsFronts before after (body_lists j coded)
    ⊎ ((length coded < group_count j.group all) × HasNoFit (table_in j (group_behind j all coded)) × PutsFronts before after (small_body j all coded))
Behind j all coded now ends.Done before after = ⊥

-- The run ended after some groups.
pub record EndedBehind (j : Job) (all : Pictures) (now : Counts) (end : EncodeEnd) (before after : Outputs) : Type 0 where
  pub coded : List Group
  pub first : AreFirst j all coded
  pub ended : Behind j all coded now end before after

-- what is written after all groups: the movie atom, the proof's end and the last line
abbrev pub end_lists : Job → Counts → Lists
end_lists j now = record { movie = moov_bytes j.head (extents now.sizes); proof = end_bytes now.records; text = frames_line (length now.sizes) }

abbrev pub Finishes : Job → Counts → EncodeEnd → Outputs → Outputs → Type 0
Finishes j now ends.Done before after = PutsAll before after (end_lists j now)
Finishes j now ends.WriteFault before after = PutsFronts before after (end_lists j now)
Finishes j now ends.NoMemory before after = PutsAll before after nothing
Finishes j now _ before after = ⊥

-- what is written of the proof's end alone
abbrev pub close_lists : (records : ℕ) → Lists
close_lists records = record { movie = []; proof = end_bytes records; text = [] }

-- The proof's end was written, where no choice fits.
abbrev pub Closes : (records frame least : ℕ) → EncodeEnd → Outputs → Outputs → Type 0
Closes records frame least (ends.TooSmall f l) before after = (f ≡ frame) × (l ≡ least) × PutsAll before after (close_lists records)
Closes records frame least ends.WriteFault before after = PutsFronts before after (close_lists records)
Closes records frame least _ before after = ⊥

abbrev pub GroupsEnd : Job → Pictures → Counts → Result (Unit {0}) EncodeEnd → Outputs → Outputs → Type 0
GroupsEnd j all now (Ok _) before after = AllGroups j all now before after
GroupsEnd j all now (Err end) before after = EndedBehind j all now end before after

-- ---- the whole run

-- lists that a run writes: those of some of the first groups, or the whole result of encoding
abbrev pub AreWritten : Job → Pictures → Lists → Type 0
AreWritten j ps lists = ((coded : List Group) × AreFirst j ps coded × (lists ≡ cut_lists j coded)) ⊎ ((end : EncodeEnd) × Encodes j ps end lists)

-- What a run did. After a write fault the sinks have prefixes of the lists up to there.
abbrev pub RanSo : Job → Pictures → EncodeEnd → Outputs → Outputs → Type 0
RanSo j ps ends.WriteFault before after = (lists : Lists) × AreWritten j ps lists × PutsFronts before after lists
RanSo j ps end before after = Ran j ps end before after
