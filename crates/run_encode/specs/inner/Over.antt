-- What is done with the coefficients of a group: coded by the best choice, and written. Our own definitions.
use Rattle.std.specs.Prelude.{◌≡◌, ℕ, ◌+◌, ◌<◌, ◌≤◌, ◌^◌, ◌⊎◌, List, [], ◌++◌, length, map, Option, Some, IsSome, Result, Ok, Err}
use Rattle.std.specs.Io.KnownBytes.{IsAtEnd}
use Rattle.std.specs.List.{flat_map, All}
use Rattle.pw_planes.specs.declared.picture.Picture.{Picture}
use Rattle.pic_y4m.specs.declared.head.TheConstants.{MAX_FRAMES}
use Rattle.pic_y4m.specs.Frames.{Pictures}
use Rattle.pic_raw.specs.declared.any.AnyReader.{AnyReader}
use Rattle.pic_raw.specs.Any.{head_of, frames_of}
use Rattle.pr_frame.specs.Written.{coded_bytes}
use Rattle.qt_movie.specs.MovieBytes.{frame_bytes}
use Rattle.rate_table.specs.declared.entry.Entry.{Entry}
use Rattle.rate_table.specs.declared.entry.Pair.{Pair}
use Rattle.rate_table.specs.Table.{Table, IsChoice, Fits, IsBest, HasNoFit, indices, size_of, least_bytes}
use Rattle.rate_table.specs.Records.{Printed, record_of}
use Rattle.rate_layers.specs.Best.{TellsLayers, PassesByPicks, PassesByBest}
use Rattle.rate_build.specs.Coefficients.{FrameCoefficients}
use Rattle.rate_build.specs.Groups.{shares}
use Rattle.rate_build.specs.Tables.{fixed_bytes}
use Rattle.rate_cert.specs.Records.{fits, none}
use Rattle.rate_cert.specs.Files.{record_bytes}
use Rattle.run_encode.specs.declared.job.Job.{Job}
use Rattle.run_encode.specs.declared.end.EncodeEnd.{EncodeEnd}
use Rattle.run_encode.specs.declared.end.EncodeEnd.TheVariants as ends
use Rattle.run_encode.specs.Groups.{IsFrameOf, coefficients_in, frame_slices, table_of_group, coded_group}
use Rattle.run_encode.specs.Outputs.{Outputs, Lists, nothing, PutsAll, PutsFronts}
use Rattle.run_encode.specs.Encoding.{part_lines}
use Rattle.run_encode.specs.inner.Steps.{Counts, left_by, in_front, no_pictures}

-- ---- reading

-- A group of pictures was read; fewer than a whole group only at the end of the input.
pub record ReadsGroup (j : Job) (old new : AnyReader) (left left' : Option (List ℕ)) (cs : List FrameCoefficients) : Type 0 where
  pub pictures : List Picture
  pub coefficients : cs ≡ map (coefficients_in j) pictures
  pub each : All (IsFrameOf j) cs
  pub number : frames_of new ≡ frames_of old + length pictures
  pub limit : frames_of new ≤ MAX_FRAMES
  pub head : head_of new ≡ head_of old
  pub few : length pictures ≤ j.group
  pub told : IsSome left → IsSome left'
  pub next : IsSome left → length pictures ≡ j.group → left_by old left ≡ in_front pictures (left_by new left')
  pub end : IsSome left → length pictures < j.group → left_by old left ≡ in_front pictures no_pictures
  pub read : length pictures < j.group → IsAtEnd left'

-- Why a group wasn't read: there are fewer pictures than a whole group, and then this error; or a port failed, or
-- memory ran out.
abbrev pub StopsGroup : Job → Pictures → EncodeEnd → Type 0
StopsGroup j left (ends.BadPictures kind place) = (length left.pictures < j.group) × (left.fault ≡ Some (record { kind = kind; place = place }))
StopsGroup j left ends.NoMemory = Unit {0}
StopsGroup j left ends.ReadFault = Unit {0}
StopsGroup j left _ = ⊥

-- ---- coding and writing

-- what is written of the frames of these coefficients
abbrev pub frames_lists : Job → (number : ℕ) → List FrameCoefficients → List Entry → ℕ → List (List Pair) → Lists
frames_lists j number cs choice multiplier layers = record {
  movie = flat_map frame_bytes (map coded_bytes (coded_group j cs (indices choice)));
  proof = record_bytes j.format (record { table = table_of_group j cs; said = fits (record_of choice multiplier layers) });
  text = part_lines j number (map (λ p. p.1) (shares (frame_slices j) cs choice));
}

-- the best choice of the frames' table, with its multiplier and Pareto frontiers
pub record IsChosen (j : Job) (cs : List FrameCoefficients) (choice : List Entry) (multiplier : ℕ) (layers : List (List Pair)) : Type 0 where
  pub best : IsBest (table_of_group j cs) choice
  pub layers_are : TellsLayers (table_of_group j cs) (record_of choice multiplier layers)

-- The frames were coded by the best choice and written.
pub record WroteFrames (j : Job) (number : ℕ) (cs : List FrameCoefficients) (old new : Counts) (before after : Outputs) : Type 0 where
  pub choice : List Entry
  pub multiplier : ℕ
  pub layers : List (List Pair)
  pub chosen : IsChosen j cs choice multiplier layers
  pub narrow : PassesByBest (table_of_group j cs) → ⊥
  pub puts : PutsAll before after (frames_lists j number cs choice multiplier layers)
  pub sizes : new.sizes ≡ old.sizes ++ map length (map coded_bytes (coded_group j cs (indices choice)))
  pub records : new.records ≡ old.records + 1

abbrev pub none_of_frames : Job → List FrameCoefficients → Lists
none_of_frames j cs = record {
  movie = [];
  proof = record_bytes j.format (record { table = table_of_group j cs; said = none (least_bytes (table_of_group j cs)) });
  text = [];
}

-- Why the frames weren't written whole.
abbrev pub StopsFrames : Job → (number : ℕ) → List FrameCoefficients → (old new : Counts) → EncodeEnd → Outputs → Outputs → Type 0
StopsFrames j number cs old new ends.NoMemory before after = PutsAll before after nothing
StopsFrames j number cs old new (ends.LayersFull frame) before after = PassesByPicks (table_of_group j cs) × (frame ≡ number) × PutsAll before after nothing
StopsFrames j number cs old new (ends.TooSmall frame least) before after =
    HasNoFit (table_of_group j cs) × (frame ≡ number) × (least ≡ least_bytes (table_of_group j cs)) × PutsAll before after (none_of_frames j cs)
    × (new.records ≡ old.records + 1)
StopsFrames j number cs old new ends.WriteFault before after =
    ((choice : List Entry) × (multiplier : ℕ) × (layers : List (List Pair)) × IsChosen j cs choice multiplier layers
    × PutsFronts before after (frames_lists j number cs choice multiplier layers))
    ⊎ (HasNoFit (table_of_group j cs) × PutsFronts before after (none_of_frames j cs))
StopsFrames j number cs old new _ before after = ⊥

abbrev pub FramesEnd : Job → (number : ℕ) → List FrameCoefficients → (old new : Counts) → Result (Unit {0}) EncodeEnd → Outputs → Outputs → Type 0
FramesEnd j number cs old new (Ok _) before after = WroteFrames j number cs old new before after
FramesEnd j number cs old new (Err end) before after = StopsFrames j number cs old new end before after

-- ---- the parts of it

-- a fitting choice of the table has these indices
pub record HasFitting (t : Table) (choice : List ℕ) : Type 0 where
  pub entries : List Entry
  pub is_choice : IsChoice t.slices entries
  pub has_indices : indices entries ≡ choice
  pub fitting : Fits t entries

-- indices of a choice of a frame's slices, whose size fits the size field of a sample
pub record IsFrameChoice (j : Job) (slices : List (List Entry)) (choice : List ℕ) : Type 0 where
  pub entries : List Entry
  pub is_choice : IsChoice slices entries
  pub has_indices : indices entries ≡ choice
  pub small : fixed_bytes j.layout + size_of entries < 2 ^ 31

-- what is written of frames by a printed choice
abbrev pub fit_lists : Job → List FrameCoefficients → Printed → List ℕ → Lists
fit_lists j cs r lines = record {
  movie = flat_map frame_bytes (map coded_bytes (coded_group j cs r.choice));
  proof = record_bytes j.format (record { table = table_of_group j cs; said = fits r });
  text = lines;
}
