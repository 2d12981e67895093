-- The headline: what holds of the files that were written, in terms of what their readers see.
use Rattle.std.specs.Prelude.{◌≡◌, ℕ, ◌+◌, ◌*◌, ◌≤◌, List, [], ◌∷◌, ◌++◌, length, map, Result, Ok, Err}
use Rattle.std.specs.Bool.{OnTrue}
use Rattle.std.specs.List.{flat_map, All, AllZip, sum_by}
use Rattle.pw_outside.specs.Reading.{Fault}
use Rattle.pw_outside.specs.Writing.{Puts}
use Rattle.pw_planes.specs.declared.picture.Picture.{Picture}
use Rattle.pic_y4m.specs.declared.head.Head.{Head}
use Rattle.pic_y4m.specs.declared.fault.PictureKind.{PictureKind}
use Rattle.pic_y4m.specs.Frames.{Pictures}
use Rattle.pr_frame.specs.Stands.{FrameStands}
use Rattle.qt_atoms.specs.Atoms.{bytes_in}
use Rattle.qt_tables.specs.Samples.{samples}
use Rattle.qt_movie.specs.Movie.{Movie, movie_in}
use Rattle.qt_movie.specs.MovieBytes.{ftyp_bytes, frame_bytes}
use Rattle.rate_table.specs.Table.{HasNoFit, least_bytes}
use Rattle.rate_table.specs.Records.{Printed, TellsLeast}
use Rattle.rate_build.specs.Groups.{group_at}
use Rattle.rate_cert.specs.Records.{Record, fits, none, IsGood}
use Rattle.rate_cert.specs.Files.{record_bytes, proved}
use Rattle.rate_cert.specs.Head.{head_bytes}
use Rattle.run_encode.specs.declared.job.Job.{Job}
use Rattle.run_encode.specs.declared.job.EncodeWords.{EncodeWords}
use Rattle.run_encode.specs.declared.end.EncodeEnd.{EncodeEnd}
use Rattle.run_encode.specs.declared.end.EncodeEnd.TheVariants as ends
use Rattle.run_encode.specs.Groups.{IsJobOf, has_layout, settings_of, group_count, coefficients_in, table_in, coded_group}
use Rattle.run_encode.specs.Outputs.{Outputs}

-- ---- one group: its pictures, the samples that were written of them, and its record in the proof

-- the record of a fitting choice
abbrev pub record_of_printed : Job → List Picture → Printed → Record
record_of_printed j pictures printed = record { table = table_in j pictures; said = fits printed }

pub record GroupHolds (j : Job) (pictures : List Picture) (written : List (List ℕ)) (printed : Printed) : Type 0 where
  -- the samples together have at most the budget's bytes, all headers and tables included
  pub size : sum_by length written ≤ length pictures * j.budget
  -- decoding gives exactly the pictures' coefficients quantised by the chosen slice indices
  pub stands : AllZip FrameStands written (coded_group j (map (coefficients_in j) pictures) printed.choice)
  -- the choice fits, and of all choices of one permitted index per slice that fit, none has less squared error
  pub least : TellsLeast (table_in j pictures) printed
  -- the record passes the check
  pub good : IsGood (settings_of j) (record_of_printed j pictures printed)

-- for each record: group k of the pictures, group k of the samples and record k hold
abbrev pub GroupsHold : Job → (k : ℕ) → List Picture → List (List ℕ) → List Printed → Type 0
GroupsHold j k pictures written [] = Unit {0}
GroupsHold j k pictures written (r ∷ rs) = GroupHolds j (group_at j.group pictures k) (group_at j.group written k) r × GroupsHold j (k + 1) pictures written rs

-- the records of fitting choices, from group k on
abbrev pub records_from : Job → (k : ℕ) → List Picture → List Printed → List Record
records_from j k pictures [] = []
records_from j k pictures (r ∷ rs) = record_of_printed j (group_at j.group pictures k) r ∷ records_from j (k + 1) pictures rs

abbrev pub records_in : Job → List Picture → List Printed → List Record
records_in j pictures printed = records_from j 0 pictures printed

-- ---- the two files

-- The samples of a movie are these bytes.
abbrev pub HasSamples : List ℕ → List (List ℕ) → Type 0
HasSamples file written = (m : Movie) × (movie_in file ≡ Ok m) × (map (λ s. bytes_in s.size file s.at) (samples m.tables) ≡ written)

-- The file is the file type atom and whole frames, and nothing else.
abbrev pub HasFrames : List ℕ → List (List ℕ) → Type 0
HasFrames file written = file ≡ ftyp_bytes ++ flat_map frame_bytes written

-- The file is a proof of these records.
abbrev pub Proves : Job → List ℕ → List Record → Type 0
Proves j file records = proved file ≡ Ok (record { format = j.format; settings = settings_of j; records = records })

-- the record of the group after the printed ones, if no choice fits for it
abbrev pub last_record : Job → Pictures → List Printed → ℕ → Record
last_record j ps printed least = record { table = table_in j (group_at j.group ps.pictures (length printed)); said = none least }

-- The two files, by the run's outcome. After Done: a movie of one sample for each picture, and a proof of one
-- record for each group. Otherwise: the movie's first frames and the proof's first records. After TooSmall the
-- proof is whole, and its last record says that no choice fits.
abbrev pub FilesEnd : Job → Pictures → EncodeEnd → (movie proof : List ℕ) → List (List ℕ) → List Printed → Type 0
FilesEnd j ps ends.Done movie proof written printed =
    HasSamples movie written × (length written ≡ length ps.pictures) × (length printed ≡ group_count j.group ps)
    × Proves j proof (records_in j ps.pictures printed)
FilesEnd j ps (ends.TooSmall frame least) movie proof written printed =
    HasFrames movie written × (frame ≡ length written) × (length written ≡ j.group * length printed)
    × HasNoFit (table_in j (group_at j.group ps.pictures (length printed))) × (least ≡ least_bytes (table_in j (group_at j.group ps.pictures (length printed))))
    × IsGood (settings_of j) (last_record j ps printed least)
    × Proves j proof (records_in j ps.pictures printed ++ last_record j ps printed least ∷ [])
FilesEnd j ps end movie proof written printed =
    HasFrames movie written × (length written ≡ j.group * length printed)
    × (proof ≡ head_bytes j.format (settings_of j) ++ flat_map (record_bytes j.format) (records_in j ps.pictures printed))

-- ---- the headline

-- What holds of the movie and the proof that a run wrote of these pictures.
pub record Headline (j : Job) (ps : Pictures) (end : EncodeEnd) (movie proof : List ℕ) : Type 0 where
  -- the samples that were written, and the printed choice of each group
  pub written : List (List ℕ)
  pub printed : List Printed
  pub files : FilesEnd j ps end movie proof written printed
  pub groups : GroupsHold j 0 ps.pictures written printed
  -- if each frame is a group, each sample has at most the budget's bytes
  pub alone : j.group ≡ 1 → All (λ frame. length frame ≤ j.budget) written

-- The headline of what a run appended, if no port failed and memory didn't run out.
abbrev pub HeadlineOf : Job → Pictures → EncodeEnd → Outputs → Outputs → Type 0
HeadlineOf j ps ends.NoMemory before after = Unit {0}
HeadlineOf j ps ends.ReadFault before after = Unit {0}
HeadlineOf j ps ends.WriteFault before after = Unit {0}
HeadlineOf j ps end before after =
    (movie : List ℕ) × (proof : List ℕ) × Puts before.movie after.movie movie × Puts before.proof after.proof proof × Headline j ps end movie proof

-- The headline for an input that has a head and a layout.
abbrev pub HasHeadline : EncodeWords → Result (Head × Pictures) (Fault PictureKind) → EncodeEnd → Outputs → Outputs → Type 0
HasHeadline w input ends.NoMemory before after = Unit {0}
HasHeadline w input ends.ReadFault before after = Unit {0}
HasHeadline w (Err f) end before after = Unit {0}
HasHeadline w (Ok (head, ps)) end before after = OnTrue (has_layout w head) ((j : Job) × IsJobOf w head j × HeadlineOf j ps end before after)
