-- Laws of whole rounds: the result of encoding, checked and decoded. Our own.
use Rattle.std.specs.Prelude.{◌≡◌, ℕ, ◌+◌, ◌*◌, true, List, length, map, Ok}
use Rattle.std.specs.List.{All, flat_map}
use Rattle.pw_planes.specs.declared.kinds.Depth.{Depth}
use Rattle.pic_y4m.specs.declared.head.Head.{Head}
use Rattle.pic_y4m.specs.Frames.{Pictures}
use Rattle.pic_raw.specs.Any.{pictures_of}
use Rattle.pr_frame.specs.declared.coded.CodedFrame.{CodedFrame}
use Rattle.pr_frame.specs.declared.showing.Shown.{Shown}
use Rattle.pr_frame.specs.Shown.{shown_of}
use Rattle.qt_tables.specs.Samples.{samples}
use Rattle.qt_movie.specs.Movie.{Movie, movie_in}
use Rattle.rate_table.specs.Table.{indices}
use Rattle.run_encode.specs.declared.job.Job.{Job}
use Rattle.run_encode.specs.declared.job.EncodeWords.{EncodeWords}
use Rattle.run_encode.specs.declared.end.EncodeEnd.TheVariants as encodes
use Rattle.run_encode.specs.Groups.{AreWords, IsJobOf, has_layout, group_count, coefficients_in, coded_group}
use Rattle.run_encode.specs.Outputs.{Lists}
use Rattle.run_encode.specs.Encoding.{Group, IsNarrow, Encodes}
use Rattle.run_look.specs.declared.end.LookEnd.TheVariants as looks
use Rattle.run_look.specs.Checking.{ChecksAlone}
use Rattle.run_look.specs.Agreeing.{Checks}
use Rattle.run_decode.specs.declared.job.Form.{Form}
use Rattle.run_decode.specs.declared.end.DecodeEnd.TheVariants as decodes
use Rattle.run_decode.specs.Decoding.{Decodes, job_in, head_of}

-- The bytes are these pictures with this head and have a layout; `w` are the options and `j` the run's parameters.
pub record IsInput (w : EncodeWords) (bytes : List ℕ) (head : Head) (ps : Pictures) (j : Job) : Type 0 where
  pub words : AreWords w
  pub meant : pictures_of w.raw bytes ≡ Ok (head, ps)
  pub laid : has_layout w head ≡ true
  pub job : IsJobOf w head j

-- ---- checking

-- If encoding is done, and no group's Pareto frontiers have too many pairs, checking its proof is done: by itself,
-- and with its movie and the pictures. It has one record for each group.
abbrev pub EncodedIsChecked : Type 0
EncodedIsChecked = (w : EncodeWords) (bytes : List ℕ) (head : Head) (ps : Pictures) (j : Job) (lists : Lists) → IsInput w bytes head ps j
    → (e : Encodes j ps encodes.Done lists) → All (IsNarrow j) e.coded
    → Checks lists.proof lists.movie bytes looks.Done (group_count j.group ps) × ChecksAlone lists.proof looks.Done (group_count j.group ps)

-- If encoding stops because no choice fits for a group, checking its proof by itself is done. It has one record for
-- each of the `n` groups before that one, and one that says so.
abbrev pub SmallIsChecked : Type 0
SmallIsChecked = (w : EncodeWords) (bytes : List ℕ) (head : Head) (ps : Pictures) (j : Job) (lists : Lists) (frame least : ℕ) → IsInput w bytes head ps j
    → (e : Encodes j ps (encodes.TooSmall frame least) lists) → All (IsNarrow j) e.coded
    → (n : ℕ) × (frame ≡ j.group * n) × ChecksAlone lists.proof looks.Done (n + 1)

-- If checking a proof with a movie and pictures is done, so is checking it by itself, with the same number of
-- records.
abbrev pub CheckedIsCheckedAlone : Type 0
CheckedIsCheckedAlone = (bytes file shown : List ℕ) (n : ℕ) → Checks bytes file shown looks.Done n → ChecksAlone bytes looks.Done n

-- The number of records is unique.
abbrev pub CheckedIsCountedOnce : Type 0
CheckedIsCountedOnce = (bytes file shown : List ℕ) (m n : ℕ) → Checks bytes file shown looks.Done m → Checks bytes file shown looks.Done n → m ≡ n

-- ---- decoding

-- the coded frames of groups, in order
abbrev pub frames_in : Job → List Group → List CodedFrame
frames_in j coded = flat_map (λ g. coded_group j (map (coefficients_in j) g.pictures) (indices g.choice)) coded

-- the decoded pictures of frames, in order
abbrev pub all_shown : Depth → List CodedFrame → List Shown
all_shown d frames = map (shown_of d) frames

-- The file is a movie, and decoding it shows all of these frames, in either form and at every depth. The decoded
-- pictures have the format and the rate of `head`.
pub record ShowsAll (file : List ℕ) (head : Head) (frames : List CodedFrame) : Type 0 where
  pub movie : Movie
  pub is_movie : movie_in file ≡ Ok movie
  pub decodes : (form : Form) (d : Depth) → Decodes (job_in form d movie) file (samples movie.tables) (all_shown d frames) decodes.Done
  pub heads : (form : Form) (d : Depth) → All (λ (p : Shown). head_of (job_in form d movie) p.header ≡ record head { depth = d }) (all_shown d frames)

-- If encoding is done, so is decoding its movie: it shows the coded frames, one for each picture, with the
-- pictures' format and rate.
abbrev pub EncodedIsDecoded : Type 0
EncodedIsDecoded = (w : EncodeWords) (bytes : List ℕ) (head : Head) (ps : Pictures) (j : Job) (lists : Lists) → IsInput w bytes head ps j
    → (e : Encodes j ps encodes.Done lists) → ShowsAll lists.movie head (frames_in j e.coded) × (length (frames_in j e.coded) ≡ length ps.pictures)
