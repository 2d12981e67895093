-- The result of encoding pictures: an outcome and three lists of bytes. Our own definitions.
use Rattle.std.specs.Prelude.{◌≡◌, ℕ, ◌+◌, ◌*◌, ◌<◌, ◌≤◌, ◌⊎◌, Bool, true, false, List, [], ◌∷◌, ◌++◌, length, map, None, Some, Result, Ok, Err, codes}
use Rattle.std.specs.Bool.{OnTrue, OnFalse}
use Rattle.std.specs.Fmt.{decimal}
use Rattle.std.specs.List.{flat_map, range_with_len, All}
use Rattle.pw_outside.specs.Reading.{Fault}
use Rattle.pw_planes.specs.declared.picture.Picture.{Picture}
use Rattle.pic_y4m.specs.declared.head.Head.{Head}
use Rattle.pic_y4m.specs.declared.fault.PictureFault.{PictureFault}
use Rattle.pic_y4m.specs.declared.fault.PictureFault.TheVariants as faults
use Rattle.pic_y4m.specs.declared.fault.PictureKind.{PictureKind}
use Rattle.pic_y4m.specs.declared.fault.PictureKind.TheVariants as kinds
use Rattle.pic_y4m.specs.Frames.{Pictures}
use Rattle.pr_frame.specs.Written.{coded_bytes}
use Rattle.qt_movie.specs.MovieBytes.{ftyp_bytes, frame_bytes, movie_bytes}
use Rattle.rate_table.specs.declared.entry.Entry.{Entry}
use Rattle.rate_table.specs.declared.entry.Pair.{Pair}
use Rattle.rate_table.specs.Table.{IsBest, HasNoFit, indices, size_of, error_of, least_bytes}
use Rattle.rate_table.specs.Records.{Printed, record_of}
use Rattle.rate_build.specs.Groups.{group_at, shares}
use Rattle.rate_build.specs.Tables.{fixed_bytes}
use Rattle.rate_cert.specs.Records.{Record, fits, none}
use Rattle.rate_cert.specs.Files.{record_bytes, proof_bytes}
use Rattle.rate_cert.specs.Head.{head_bytes}
use Rattle.rate_layers.specs.Best.{TellsLayers, PassesByPicks, PassesByBest}
use Rattle.run_encode.specs.declared.job.Job.{Job}
use Rattle.run_encode.specs.declared.job.EncodeWords.{EncodeWords}
use Rattle.run_encode.specs.declared.end.EncodeEnd.{EncodeEnd}
use Rattle.run_encode.specs.declared.end.EncodeEnd.TheVariants as ends
use Rattle.run_encode.specs.Groups.{IsJobOf, has_layout, settings_of, group_count, coefficients_in, table_in, frame_slices, coded_group}
use Rattle.run_encode.specs.Outputs.{Outputs, Lists, nothing, PutsAll, PutsFronts}

-- ---- one group

-- a group of pictures, the choice of its table, the multiplier and the Pareto frontiers
pub record Group : Type 0 where
  pub pictures : List Picture
  pub choice : List Entry
  pub multiplier : ℕ
  pub layers : List (List Pair)

abbrev pub printed_of : Group → Printed
printed_of g = record_of g.choice g.multiplier g.layers

-- The choice is the best one of the group's table. The multiplier is the least whose minimisers fit, and the Pareto
-- frontiers are those bounded by it and the best choice's error.
pub record IsCoded (j : Job) (g : Group) : Type 0 where
  pub best : IsBest (table_in j g.pictures) g.choice
  pub layers : TellsLayers (table_in j g.pictures) (printed_of g)

-- The Pareto frontiers bounded by the best choice's own error have at most 2^25 pairs.
abbrev pub IsNarrow : Job → Group → Type 0
IsNarrow j g = PassesByBest (table_in j g.pictures) → ⊥

-- the bytes of a group's frames
abbrev pub frames_of : Job → Group → List (List ℕ)
frames_of j g = map coded_bytes (coded_group j (map (coefficients_in j) g.pictures) (indices g.choice))

abbrev pub record_in : Job → Group → Record
record_in j g = record { table = table_in j g.pictures; said = fits (printed_of g) }

-- the record of a group for which no choice fits
abbrev pub none_record : Job → List Picture → Record
none_record j ps = record { table = table_in j ps; said = none (least_bytes (table_in j ps)) }

-- ---- the text

-- the line of a frame: its number, its size in bytes and its error
unfoldable pub frame_line : (number size error : ℕ) → List ℕ
frame_line number size error = codes "frame " ++ decimal number ++ codes " size " ++ decimal size ++ codes " error " ++ decimal error ++ codes "\n"

-- a line for each part of a choice; a frame's size is the fixed bytes of one frame and the sizes of its part
abbrev pub part_lines : Job → (number : ℕ) → List (List Entry) → List ℕ
part_lines j number [] = []
part_lines j number (part ∷ parts) = frame_line number (fixed_bytes j.layout + size_of part) (error_of part) ++ part_lines j (number + 1) parts

-- the lines of a group whose first frame is frame `number`
abbrev pub group_lines : Job → (number : ℕ) → Group → List ℕ
group_lines j number g = part_lines j number (map (λ p. p.1) (shares (frame_slices j) g.pictures g.choice))

-- the lines of groups whose first frame is frame `number`
abbrev pub lines_of : Job → (number : ℕ) → List Group → List ℕ
lines_of j number [] = []
lines_of j number (g ∷ gs) = group_lines j number g ++ lines_of j (number + length g.pictures) gs

-- the last line: the number of frames
unfoldable pub frames_line : ℕ → List ℕ
frames_line number = codes "frames " ++ decimal number ++ codes "\n"

-- ---- what is written

-- the frames of groups, in order
abbrev pub all_frames : Job → List Group → List (List ℕ)
all_frames j coded = flat_map (frames_of j) coded

-- the records of groups, in the run's proof format
abbrev pub records_bytes : Job → List Group → List ℕ
records_bytes j coded = flat_map (λ g. record_bytes j.format (record_in j g)) coded

-- what is written of groups
abbrev pub body_lists : Job → List Group → Lists
body_lists j coded = record {
  movie = flat_map frame_bytes (all_frames j coded);
  proof = records_bytes j coded;
  text = lines_of j 0 coded;
}

-- what has been written once the last of `coded` is
abbrev pub cut_lists : Job → List Group → Lists
cut_lists j coded = record {
  movie = ftyp_bytes ++ flat_map frame_bytes (all_frames j coded);
  proof = head_bytes j.format (settings_of j) ++ records_bytes j coded;
  text = lines_of j 0 coded;
}

-- all that is written, if `coded` are all groups
abbrev pub whole_lists : Job → List Group → Lists
whole_lists j coded = record {
  movie = movie_bytes j.head (all_frames j coded);
  proof = proof_bytes j.format (settings_of j) (map (record_in j) coded);
  text = lines_of j 0 coded ++ frames_line (length (all_frames j coded));
}

-- all that is written, if no choice fits for the group after `coded`
abbrev pub small_lists : Job → List Group → List Picture → Lists
small_lists j coded ps = record (cut_lists j coded) {
  proof = proof_bytes j.format (settings_of j) (map (record_in j) coded ++ none_record j ps ∷ []);
}

-- ---- the whole

-- `coded` are the first groups of the pictures, each coded by its best choice
pub record AreFirst (j : Job) (ps : Pictures) (coded : List Group) : Type 0 where
  pub few : length coded ≤ group_count j.group ps
  pub pictures : map (λ g. g.pictures) coded ≡ map (group_at j.group ps.pictures) (range_with_len 0 (length coded))
  pub each : All (IsCoded j) coded

-- the group of pictures after `coded`
abbrev pub group_behind : Job → Pictures → List Group → List Picture
group_behind j ps coded = group_at j.group ps.pictures (length coded)

-- How encoding ends after `coded`: after the last group at the end of the pictures or at their first error; and
-- before a group for which no choice fits.
abbrev pub Ends : Job → Pictures → List Group → EncodeEnd → Lists → Type 0
Ends j ps coded ends.Done lists = (length coded ≡ group_count j.group ps) × (ps.fault ≡ None) × (lists ≡ whole_lists j coded)
Ends j ps coded (ends.BadPictures kind place) lists =
    (length coded ≡ group_count j.group ps) × (ps.fault ≡ Some (record { kind = kind; place = place })) × (lists ≡ cut_lists j coded)
Ends j ps coded (ends.TooSmall frame least) lists =
    (length coded < group_count j.group ps) × HasNoFit (table_in j (group_behind j ps coded)) × (frame ≡ j.group * length coded)
    × (least ≡ least_bytes (table_in j (group_behind j ps coded))) × (lists ≡ small_lists j coded (group_behind j ps coded))
Ends j ps coded ends.NoMemory lists = ⊥
Ends j ps coded ends.ReadFault lists = ⊥
Ends j ps coded ends.WriteFault lists = ⊥
Ends j ps coded (ends.LayersFull frame) lists = ⊥

-- Encoding these pictures has this outcome and writes these lists.
pub record Encodes (j : Job) (ps : Pictures) (end : EncodeEnd) (lists : Lists) : Type 0 where
  pub coded : List Group
  pub first : AreFirst j ps coded
  pub ends : Ends j ps coded end lists

-- ---- what a run did

-- some of the first groups were written whole, and no other byte
abbrev pub Stopped : Job → Pictures → Outputs → Outputs → Type 0
Stopped j ps before after = (coded : List Group) × AreFirst j ps coded × PutsAll before after (cut_lists j coded) × All (IsNarrow j) coded

-- The Pareto frontiers of the group that begins at `frame` have too many pairs; all groups before it were written.
pub record FullAt (j : Job) (ps : Pictures) (frame : ℕ) (before after : Outputs) : Type 0 where
  pub coded : List Group
  pub first : AreFirst j ps coded
  pub there : length coded < group_count j.group ps
  pub frame_is : frame ≡ j.group * length coded
  pub passes : PassesByPicks (table_in j (group_behind j ps coded))
  pub puts : PutsAll before after (cut_lists j coded)
  pub narrow : All (IsNarrow j) coded

-- the whole result of encoding was written
abbrev pub Whole : Job → Pictures → EncodeEnd → Outputs → Outputs → Type 0
Whole j ps end before after = (lists : Lists) × (e : Encodes j ps end lists) × PutsAll before after lists × All (IsNarrow j) e.coded

-- The run's outcome, and what the sinks took. A write fault leaves prefixes of the result of encoding; out of
-- memory and a read fault leave whole groups.
abbrev pub Ran : Job → Pictures → EncodeEnd → Outputs → Outputs → Type 0
Ran j ps ends.NoMemory before after = Stopped j ps before after
Ran j ps ends.ReadFault before after = Stopped j ps before after
Ran j ps ends.WriteFault before after = (end : EncodeEnd) × (lists : Lists) × Encodes j ps end lists × PutsFronts before after lists
Ran j ps (ends.LayersFull frame) before after = FullAt j ps frame before after
Ran j ps ends.Done before after = Whole j ps ends.Done before after
Ran j ps (ends.BadPictures kind place) before after = Whole j ps (ends.BadPictures kind place) before after
Ran j ps (ends.TooSmall frame least) before after = Whole j ps (ends.TooSmall frame least) before after

-- The head couldn't be read: the port failed or memory ran out.
abbrev pub StopsFirst : EncodeEnd → Outputs → Outputs → Type 0
StopsFirst end before after = ((end ≡ ends.ReadFault) ⊎ (end ≡ ends.NoMemory)) × PutsAll before after nothing

-- What a run does with an input: `Ok` has the head and the pictures of its bytes, `Err` the error of its head.
abbrev pub RanOn : EncodeWords → Result (Head × Pictures) (Fault PictureKind) → EncodeEnd → Outputs → Outputs → Type 0
RanOn w (Err f) end before after = (end ≡ ends.BadPictures f.kind f.place) × PutsAll before after nothing
RanOn w (Ok (head, ps)) end before after =
    OnFalse (has_layout w head) ((end ≡ ends.BadPictures kinds.TooManySlices 0) × PutsAll before after nothing)
    × OnTrue (has_layout w head) ((j : Job) × IsJobOf w head j × Ran j ps end before after)

abbrev pub is_done : EncodeEnd → Bool
is_done ends.Done = true
is_done _ = false

abbrev pub is_read_fault : EncodeEnd → Bool
is_read_fault ends.ReadFault = true
is_read_fault _ = false

abbrev pub is_write_fault : EncodeEnd → Bool
is_write_fault ends.WriteFault = true
is_write_fault _ = false

-- the outcomes after which all is flushed
abbrev pub is_settled : EncodeEnd → Bool
is_settled ends.Done = true
is_settled (ends.TooSmall _ _) = true
is_settled _ = false

-- the outcome for an error of the pictures
abbrev pub end_of_fault : PictureFault → EncodeEnd
end_of_fault (faults.Bad kind place) = ends.BadPictures kind place
end_of_fault faults.Failed = ends.ReadFault
end_of_fault faults.NoMemory = ends.NoMemory
