-- When a movie and pictures agree with the records of a proof, and the outcome of checking a proof with both. Our
-- own definitions, over frames as SMPTE RDD 36 codes them. Faults and clauses come in the order of checking.
use Rattle.std.specs.Prelude.{◌≡◌, ℕ, suc, ◌+◌, ◌*◌, ◌/◌, ◌<◌, ◌≤◌, ◌⊎◌, ◌==◌, Bool, true, false, if◌then◌else◌, List, map, take, drop, length, slice_get, get_or, Option, None, Some, Result, Ok, Err}
use Rattle.std.specs.Bool.{OnTrue, OnFalse}
use Rattle.std.specs.List.{All, flat_map}
use Rattle.pw_outside.specs.Reading.{Fault, Rest, rest_of, bad}
use Rattle.pw_outside.specs.Ports.{Rose}
use Rattle.pw_planes.specs.declared.picture.Picture.{Picture}
use Rattle.pic_y4m.specs.declared.fault.PictureKind.{PictureKind}
use Rattle.pic_y4m.specs.declared.head.Head.{Head}
use Rattle.pic_y4m.specs.Frames.{Pictures}
use Rattle.pic_raw.specs.declared.any.AnyReader.{AnyReader}
use Rattle.pic_raw.specs.Any.{pictures_of, left_of, place_of}
use Rattle.pr_geom.specs.declared.layout.Layout.{Layout}
use Rattle.pr_geom.specs.Layout.{IsLayoutOf}
use Rattle.pr_quant.specs.declared.weights.Weights.{Weights}
use Rattle.pr_head.specs.declared.frame.FrameHeader.{FrameHeader}
use Rattle.pr_head.specs.Own.{own_header_of}
use Rattle.pr_frame.specs.declared.coded.CodedSlice.{CodedSlice}
use Rattle.pr_frame.specs.declared.coded.CodedPicture.{CodedPicture}
use Rattle.pr_frame.specs.declared.coded.CodedFrame.{CodedFrame}
use Rattle.pr_frame.specs.Stands.{FrameStands}
use Rattle.pr_frame.specs.Reading.{frame_fault}
use Rattle.qt_tables.specs.declared.fault.MovieKind.{MovieKind}
use Rattle.qt_tables.specs.declared.runs.Sample.{Sample}
use Rattle.qt_tables.specs.Samples.{samples}
use Rattle.qt_movie.specs.Movie.{Movie, movie_in, span_in}
use Rattle.rate_table.specs.declared.entry.Entry.{Entry}
use Rattle.rate_table.specs.Table.{IsChoice, size_of, indices}
use Rattle.rate_build.specs.Coefficients.{FrameCoefficients, frame_coefficients}
use Rattle.rate_build.specs.Coding.{coded_frame}
use Rattle.rate_build.specs.Tables.{entries_of, fixed_bytes}
use Rattle.rate_cert.specs.declared.settings.Settings.{Settings}
use Rattle.rate_cert.specs.Settings.{frame_slices}
use Rattle.rate_cert.specs.Records.{Record, Said, fits, none}
use Rattle.rate_cert.specs.Head.{head_at}
use Rattle.rate_cert.specs.Files.{no_records, most_records}
use Rattle.run_look.specs.declared.end.LookEnd.{LookEnd}
use Rattle.run_look.specs.declared.end.LookEnd.TheVariants as ends
use Rattle.run_look.specs.Ends.{AnswersEnd}
use Rattle.run_look.specs.Checking.{frames_in, Step, ended, went, RecordsAre, HeadIs}

-- ---- what a proof is checked with

-- a movie's bytes and samples, and pictures with the fault that ends them, if there is one
pub record Given : Type 0 where
  pub file : List ℕ
  pub samples : List Sample
  pub pictures : Pictures

abbrev pub given : List ℕ → List Sample → Pictures → Given
given file ss ps = record { file = file; samples = ss; pictures = ps }

-- the sample with this number, if there is one
abbrev pub sample_in : Given → ℕ → Option Sample
sample_in g number = slice_get g.samples number

abbrev pub sample_bytes : List ℕ → Sample → List ℕ
sample_bytes file s = take s.size (drop s.at file)

abbrev pub picture_or : Option Picture → Option (Fault PictureKind) → Result (Option Picture) (Fault PictureKind)
picture_or (Some p) fault = Ok (Some p)
picture_or None None = Ok None
picture_or None (Some f) = Err f

-- the picture with this number; without one, the fault that ends the pictures, if there is one
abbrev pub picture_in : Given → ℕ → Result (Option Picture) (Fault PictureKind)
picture_in g number = picture_or (slice_get g.pictures.pictures number) g.pictures.fault

-- ---- a record's frames

-- part k of a list that is cut into parts of n items
abbrev pub part_of : {A : Type 0} → ℕ → List A → ℕ → List A
part_of n things k = take n (drop (n * k) things)

-- the slices of frame k of a record
abbrev pub slices_in : Settings → Record → ℕ → List (List Entry)
slices_in s r k = part_of (frame_slices s) r.table.slices k

-- The indices of frame k are this part of the choice; if no choice fits, no frame has indices.
abbrev pub HasPart : Settings → Said → ℕ → List ℕ → Type 0
HasPart s (fits p) k part = part ≡ part_of (frame_slices s) p.choice k
HasPart s (none least) k part = ⊥

abbrev pub weights_of : Settings → Weights
weights_of s = record { luma = s.luma; chroma = s.chroma_weights }

-- the header of frames with these settings
abbrev pub header_of : Settings → FrameHeader
header_of s = own_header_of s.width s.height s.chroma s.interlace s.alpha (weights_of s)

-- ---- the sample of a frame

abbrev pub indices_of : CodedPicture → List ℕ
indices_of x = map (λ (slice : CodedSlice). slice.index) x.slices

-- the quantisation indices of the slices of a frame, those of its first picture first
abbrev pub indices_in : CodedFrame → List ℕ
indices_in f = flat_map indices_of f.pictures

-- A part of a choice has entries, and their sizes with the frame's share of the fixed bytes sum to `size`.
abbrev pub HasSize : List (List Entry) → List ℕ → (share size : ℕ) → Type 0
HasSize slices part share size = (entries : List Entry) × IsChoice slices entries × (indices entries ≡ part) × (size ≡ share + size_of entries)

-- The coded frame of a sample of `size` bytes is frame k of the settings and the record: by its whole header; the
-- slicing of each picture; its size, which is the frame's share of the fixed bytes and the sizes of its part of the
-- choice; and its indices.
pub record IsAsSaid (s : Settings) (r : Record) (k : ℕ) (size : ℕ) (f : CodedFrame) : Type 0 where
  pub header : f.header ≡ header_of s
  pub slicing : All (λ (x : CodedPicture). x.log2 ≡ s.log2) f.pictures
  pub part : List ℕ
  pub said : HasPart s r.said k part
  pub sized : HasSize (slices_in s r k) part (r.table.fixed / frames_in s r) size
  pub indices_are : indices_in f ≡ part

-- The sample lies in the file and stands for this frame.
pub record IsSampleOf (file : List ℕ) (x : Sample) (f : CodedFrame) : Type 0 where
  pub inside : x.at + x.size ≤ length file
  pub stands : FrameStands (sample_bytes file x) f

-- Frame k of a record with `first` frames before it has a sample, and the sample's frame is that of the record.
pub record SampleAgrees (g : Given) (s : Settings) (r : Record) (first k : ℕ) : Type 0 where
  pub sample : Sample
  pub there : sample_in g (first + k) ≡ Some sample
  pub frame : CodedFrame
  pub of : IsSampleOf g.file sample frame
  pub said : IsAsSaid s r k sample.size frame

-- The outcomes at the sample of frame k: it lies outside the file, or its frame has a fault; or there is none, or
-- it isn't that of the record.
abbrev pub SampleEnds : Given → Settings → Record → (first k : ℕ) → LookEnd → Type 0
SampleEnds g s r first k (ends.BadMovie kind place) = (x : Sample) × (sample_in g (first + k) ≡ Some x) × (span_in g.file x ≡ bad kind place)
SampleEnds g s r first k (ends.BadFrame number kind place) =
    (number ≡ first + k) × (x : Sample) × (sample_in g (first + k) ≡ Some x) × (x.at + x.size ≤ length g.file)
    × (frame_fault (sample_bytes g.file x) ≡ Some (record { kind = kind; place = place }))
SampleEnds g s r first k (ends.Refused number clause) =
    (number ≡ first + k) × (clause ≡ 9) × ((sample_in g (first + k) ≡ None)
    ⊎ ((x : Sample) × (sample_in g (first + k) ≡ Some x) × (f : CodedFrame) × IsSampleOf g.file x f × (IsAsSaid s r k x.size f → ⊥)))
SampleEnds g s r first k _ = ⊥

-- ---- the picture of a frame

abbrev pub coefficients_in : Layout → Settings → Picture → FrameCoefficients
coefficients_in l s p = record { layout = l; alpha = s.alpha; slices = frame_coefficients p l }

-- The picture is frame k of the record and of a coded frame: the fixed bytes are those of its form, the frame's
-- slices of the table are the costs of its coefficients at each index, and the coded frame is its coefficients
-- quantised by the frame's part of the choice, with its alpha.
pub record IsPictureOf (l : Layout) (s : Settings) (r : Record) (k : ℕ) (f : CodedFrame) (p : Picture) : Type 0 where
  pub fixed : r.table.fixed ≡ frames_in s r * fixed_bytes l
  pub slices : slices_in s r k ≡ map (entries_of s.interlace s.alpha (weights_of s) s.lo s.hi) (frame_coefficients p l)
  pub part : List ℕ
  pub said : HasPart s r.said k part
  pub coded : f ≡ coded_frame (coefficients_in l s p) (header_of s) part

-- Frame k of a record with `first` frames before it has a picture, and it is that of its sample.
pub record PictureAgrees (g : Given) (l : Layout) (s : Settings) (r : Record) (first k : ℕ) : Type 0 where
  pub picture : Picture
  pub there : picture_in g (first + k) ≡ Ok (Some picture)
  pub sample : Sample
  pub sample_there : sample_in g (first + k) ≡ Some sample
  pub frame : CodedFrame
  pub of : IsSampleOf g.file sample frame
  pub pictured : IsPictureOf l s r k frame picture

-- The outcomes at the picture of frame k: a fault ends the pictures there; or there is none, or it isn't that of
-- its sample.
abbrev pub PictureEnds : Given → Layout → Settings → Record → (first k : ℕ) → LookEnd → Type 0
PictureEnds g l s r first k (ends.BadPictures kind place) = picture_in g (first + k) ≡ bad kind place
PictureEnds g l s r first k (ends.Refused number clause) =
    (number ≡ first + k) × (clause ≡ 10) × ((picture_in g (first + k) ≡ Ok None)
    ⊎ ((p : Picture) × (picture_in g (first + k) ≡ Ok (Some p)) × (PictureAgrees g l s r first k → ⊥)))
PictureEnds g l s r first k _ = ⊥

-- ---- a record with its samples and its pictures

-- the samples of the first n frames of a record agree with it
abbrev pub SamplesAgree : Given → Settings → Record → (first n : ℕ) → Type 0
SamplesAgree g s r first n = (k : ℕ) → k < n → SampleAgrees g s r first k

-- the pictures of the first n frames of a record agree with it
abbrev pub PicturesAgree : Given → Layout → Settings → Record → (first n : ℕ) → Type 0
PicturesAgree g l s r first n = (k : ℕ) → k < n → PictureAgrees g l s r first k

-- The samples of a record's frames are checked in order, then their pictures. The first that doesn't agree ends
-- checking.
abbrev pub AreBeside : Given → Layout → Settings → Record → ℕ → Unit {0} → Step (Unit {0}) → Type 0
AreBeside g l s r first x (went y) = SamplesAgree g s r first (frames_in s r) × PicturesAgree g l s r first (frames_in s r)
AreBeside g l s r first x (ended end) = (k : ℕ) × (k < frames_in s r)
    × ((SamplesAgree g s r first k × SampleEnds g s r first k end)
    ⊎ (SamplesAgree g s r first (frames_in s r) × PicturesAgree g l s r first k × PictureEnds g l s r first k end))

-- ---- after the records

abbrev pub by_picture : ℕ → Result (Option Picture) (Fault PictureKind) → LookEnd
by_picture frames (Err f) = ends.BadPictures f.kind f.place
by_picture frames (Ok (Some p)) = ends.Refused frames 10
by_picture frames (Ok None) = ends.Done

abbrev pub by_sample : Given → ℕ → Option Sample → LookEnd
by_sample g frames (Some x) = ends.Refused frames 9
by_sample g frames None = by_picture frames (picture_in g frames)

-- after the proof's end there is no further sample, and then no further picture
abbrev pub nothing_further : Given → ℕ → Unit {0} → LookEnd
nothing_further g frames x = by_sample g frames (sample_in g frames)

-- ---- before the records

-- the header of the pictures with these settings
abbrev pub pictures_head : Settings → Head
pictures_head s = record { width = s.width; height = s.height; chroma = s.chroma; depth = s.depth; alpha = s.alpha; interlace = s.interlace; num = s.num; den = s.den }

-- Raw planar pictures have no header of their own: the settings determine their form.
abbrev pub form_of : Settings → Option Head
form_of s = if s.form == 1 then Some (pictures_head s) else None

-- The header of the pictures is read, and has all eight fields of the settings.
abbrev pub AreHeaded : Settings → LookEnd → (Pictures → Type 0) → Result (Head × Pictures) (Fault PictureKind) → Type 0
AreHeaded s end Behind (Err f) = end ≡ ends.BadPictures f.kind f.place
AreHeaded s end Behind (Ok (h, ps)) = ((h ≡ pictures_head s → ⊥) × (end ≡ ends.Refused 0 10)) ⊎ ((h ≡ pictures_head s) × Behind ps)

-- Products of a movie have no pictures: a proof of them is refused before these are read.
abbrev pub HasPictures : Settings → LookEnd → Type 0 → Bool → Type 0
HasPictures s end Behind true = end ≡ ends.Refused 0 10
HasPictures s end Behind false = Behind

abbrev pub IsMovie : LookEnd → (Movie → Type 0) → Result Movie (Fault MovieKind) → Type 0
IsMovie end Behind (Err f) = end ≡ ends.BadMovie f.kind f.place
IsMovie end Behind (Ok m) = Behind m

-- ---- the whole

-- the records checked with what is given, from the first one on, by the layout of the settings
abbrev pub RecordsWith : Given → ℕ → Settings → Rest → LookEnd → ℕ → Type 0
RecordsWith g format s rest end records = (l : Layout) × IsLayoutOf l s.width s.height s.log2 s.interlace s.chroma
    × RecordsAre (AreBeside g l) (nothing_further g) (suc most_records) format s no_records 0 rest tt end records

-- after the header of a proof, the tables of the movie and then the header of the pictures
abbrev pub ChecksOn : (file shown : List ℕ) → ℕ → Settings → Rest → LookEnd → ℕ → Type 0
ChecksOn file shown format s rest end records =
    IsMovie end (λ m. HasPictures s end (AreHeaded s end
    (λ ps. RecordsWith (given file (samples m.tables) ps) format s rest end records)
    (pictures_of (form_of s) shown)) (s.form == 2)) (movie_in file)

-- The outcome of checking the bytes of a proof with those of a movie and of pictures, if no port fails and memory
-- lasts; if it is done, with the number of records.
abbrev pub Checks : (bytes file shown : List ℕ) → LookEnd → ℕ → Type 0
Checks bytes file shown end records = HeadIs end (λ head rest. ChecksOn file shown head.0 head.1 rest end records) (head_at (record { place = 0; bytes = bytes }))

-- If checking a proof with a movie and pictures is done, it ends in no other way.
abbrev pub DoneOnce : Type 0
DoneOnce = (bytes file shown : List ℕ) (end : LookEnd) (m n : ℕ) → Checks bytes file shown end m → Checks bytes file shown ends.Done n → end ≡ ends.Done

-- ---- the effect of a run

-- The counts of faults of three ports that are read never fall. One of them rose if reading failed, and all are
-- unchanged otherwise.
pub record CountsReads (before now before' now' before'' now'' : ℕ) (failed : Bool) : Type 0 where
  pub later : before ≤ now
  pub later' : before' ≤ now'
  pub later'' : before'' ≤ now''
  pub rose : OnTrue failed (Rose before now ⊎ (Rose before' now' ⊎ Rose before'' now''))
  pub kept : OnFalse failed ((now ≡ before) × (now' ≡ before') × (now'' ≡ before''))

-- ---- the parts of a run

-- The result of reading the sample with this number: its frame, or its fault.
abbrev pub ReadsSample : List ℕ → Sample → ℕ → Result CodedFrame LookEnd → Type 0
ReadsSample file x n (Ok f) = IsSampleOf file x f
ReadsSample file x n (Err (ends.BadMovie kind place)) = span_in file x ≡ bad kind place
ReadsSample file x n (Err (ends.BadFrame number kind place)) =
    (number ≡ n) × (x.at + x.size ≤ length file) × (frame_fault (sample_bytes file x) ≡ Some (record { kind = kind; place = place }))
ReadsSample file x n (Err ends.NoMemory) = Unit {0}
ReadsSample file x n (Err ends.ReadFault) = Unit {0}
ReadsSample file x n (Err _) = ⊥

-- the frame of the sample with this number
abbrev pub HasFrame : Given → ℕ → CodedFrame → Type 0
HasFrame g number f = (x : Sample) × (sample_in g number ≡ Some x) × IsSampleOf g.file x f

-- the result of checking the sample of frame k
abbrev pub TakesSample : Given → Settings → Record → (first k : ℕ) → Result CodedFrame LookEnd → Type 0
TakesSample g s r first k (Ok f) = SampleAgrees g s r first k × HasFrame g (first + k) f
TakesSample g s r first k (Err end) = AnswersEnd end (SampleEnds g s r first k)

-- these are the frames of the samples from number `first` on
abbrev pub AreFrames : Given → ℕ → List CodedFrame → Type 0
AreFrames g first fs = (k : ℕ) (d : CodedFrame) → k < length fs → HasFrame g (first + k) (get_or fs k d)

-- the outcome at one of the samples of a record
abbrev pub SamplesEnd : Given → Settings → Record → ℕ → LookEnd → Type 0
SamplesEnd g s r first end = (k : ℕ) × (k < frames_in s r) × SamplesAgree g s r first k × SampleEnds g s r first k end

-- all samples of a record agree, and stand for these frames
abbrev pub TakesSamples : Given → Settings → Record → ℕ → List CodedFrame → Type 0
TakesSamples g s r first fs = SamplesAgree g s r first (frames_in s r) × AreFrames g first fs × (length fs ≡ frames_in s r)

-- the pictures that a reader has left in a source
abbrev pub left_by : AnyReader → Option (List ℕ) → Pictures
left_by r left = left_of r (rest_of (place_of r) left)

-- the pictures from number n on are left
abbrev pub AreLeft : Given → ℕ → Pictures → Type 0
AreLeft g n left = left ≡ record { pictures = drop n g.pictures.pictures; fault = g.pictures.fault }

-- the result of reading picture n, and what is then left
abbrev pub GivesPicture : Given → ℕ → Result (Option Picture) LookEnd → Pictures → Type 0
GivesPicture g n (Ok (Some p)) left = (picture_in g n ≡ Ok (Some p)) × AreLeft g (n + 1) left
GivesPicture g n (Ok None) left = picture_in g n ≡ Ok None
GivesPicture g n (Err (ends.BadPictures kind place)) left = picture_in g n ≡ bad kind place
GivesPicture g n (Err ends.NoMemory) left = Unit {0}
GivesPicture g n (Err ends.ReadFault) left = Unit {0}
GivesPicture g n (Err _) left = ⊥

-- the result of checking the picture of frame k, and what is then left
abbrev pub TakesPicture : Given → Layout → Settings → Record → (first k : ℕ) → Result (Unit {0}) LookEnd → Pictures → Type 0
TakesPicture g l s r first k (Ok _) left = PictureAgrees g l s r first k × AreLeft g (first + k + 1) left
TakesPicture g l s r first k (Err end) left = AnswersEnd end (PictureEnds g l s r first k)

-- the outcome at one of the pictures of a record
abbrev pub PicturesEnd : Given → Layout → Settings → Record → ℕ → LookEnd → Type 0
PicturesEnd g l s r first end = (k : ℕ) × (k < frames_in s r) × PicturesAgree g l s r first k × PictureEnds g l s r first k end

-- the result of checking the pictures of a record, and what is then left
abbrev pub TakesPictures : Given → Layout → Settings → Record → ℕ → Result (Unit {0}) LookEnd → Pictures → Type 0
TakesPictures g l s r first (Ok _) left = PicturesAgree g l s r first (frames_in s r) × AreLeft g (first + frames_in s r) left
TakesPictures g l s r first (Err end) left = AnswersEnd end (PicturesEnd g l s r first)

-- the result of checking a record's samples and pictures, and what is then left
abbrev pub TakesGroup : Given → Layout → Settings → Record → ℕ → Result (Unit {0}) LookEnd → Pictures → Type 0
TakesGroup g l s r first (Ok _) left = AreBeside g l s r first tt (went tt) × AreLeft g (first + frames_in s r) left
TakesGroup g l s r first (Err end) left = AnswersEnd end (λ e. AreBeside g l s r first tt (ended e))

-- the result of checking after the records
abbrev pub TakesEnd : Given → ℕ → Result (Unit {0}) LookEnd → Type 0
TakesEnd g frames (Ok _) = nothing_further g frames tt ≡ ends.Done
TakesEnd g frames (Err end) = AnswersEnd end (λ e. e ≡ nothing_further g frames tt)
