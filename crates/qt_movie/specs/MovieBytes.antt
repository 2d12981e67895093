-- The bytes of a written movie, one spelling for each head and each list of frame sizes. Atoms and fields by the
-- QuickTime File Format; the choice of atoms and their order are our own.
use Rattle.std.specs.Prelude.{ℕ, ◌+◌, ◌*◌, ◌==◌, Bool, true, false, List, [], ◌∷◌, ◌++◌, length, map, codes, if◌then◌else◌}
use Rattle.std.specs.List.{flat_map}
use Rattle.pw_planes.specs.declared.kinds.Chroma.{Chroma}
use Rattle.pw_planes.specs.declared.kinds.Chroma.TheVariants as chromas
use Rattle.pw_planes.specs.declared.kinds.AlphaKind.{AlphaKind}
use Rattle.pw_planes.specs.declared.kinds.AlphaKind.TheVariants as alphas
use Rattle.pic_y4m.specs.declared.head.Head.{Head}
use Rattle.qt_atoms.specs.Written.{atom}
use Rattle.qt_tables.specs.declared.writer.Extent.{Extent}
use Rattle.qt_tables.specs.Writing.{sizes_of, places_of}
use Rattle.qt_movie.specs.declared.trak.Media.TheVariants as media
use Rattle.qt_movie.specs.Bodies.{be32}
use Rattle.qt_movie.specs.Trak.{TrakValues, moov_of_traks}

-- ---- before the movie atom

-- the file type: QuickTime
abbrev pub ftyp_bytes : List ℕ
ftyp_bytes = atom (codes "ftyp") (codes "qt  " ++ be32 0 ++ codes "qt  ")

-- the head of the data atom of a frame of `size` bytes
abbrev pub frame_head_bytes : ℕ → List ℕ
frame_head_bytes size = be32 (size + 8) ++ codes "mdat"

-- ---- the track

-- ProRes 422 HQ for 4:2:2 without alpha, ProRes 4444 otherwise
abbrev pub is_422 : Head → Bool
is_422 head = with_kind head.chroma head.alpha
  where
    with_kind : Chroma → AlphaKind → Bool
    with_kind chromas.C422 alphas.Absent = true
    with_kind chromas.C422 alphas.Eight = false
    with_kind chromas.C422 alphas.Sixteen = false
    with_kind chromas.C444 alpha = false

abbrev pub kind_of : Head → List ℕ
kind_of head = if is_422 head then codes "apch" else codes "ap4h"

-- bits per pixel
abbrev pub pixel_bits : AlphaKind → ℕ
pixel_bits alphas.Absent = 24
pixel_bits alphas.Eight = 32
pixel_bits alphas.Sixteen = 32

-- the duration of `count` frames
abbrev pub duration_of : Head → List Extent → ℕ
duration_of head es = length es * head.den

-- one run for `count` samples, if there are any
abbrev pub one_run : {Run : Type 0} → (count : ℕ) → Run → List Run
one_run count run = if count == 0 then [] else run ∷ []

-- the track of frames at these offsets, each with the same duration and in a chunk of its own
abbrev pub frames_trak : Head → List Extent → TrakValues
frames_trak head es = record {
  number = 1;
  movie_duration = duration_of head es;
  timescale = head.num;
  duration = duration_of head es;
  media = media.Video (kind_of head) head.width head.height (pixel_bits head.alpha);
  stts = one_run (length es) (length es, head.den);
  stsc = one_run (length es) (1, 1, 1);
  common = 0;
  count = length es;
  sizes = sizes_of es;
  offsets = places_of es;
}

-- the movie atom over frames at these offsets
unfoldable pub moov_bytes : Head → List Extent → List ℕ
moov_bytes head es = moov_of_traks head.num (duration_of head es) (frames_trak head es ∷ [])

-- ---- the whole movie

-- The offsets of frames of these sizes, with the first data atom at this offset: each frame follows the 8 bytes of
-- its data atom's head.
abbrev pub extents_from : ℕ → List ℕ → List Extent
extents_from place [] = []
extents_from place (size ∷ sizes) = record { at = place + 8; size = size } ∷ extents_from (place + (8 + size)) sizes

-- the same after the file type
abbrev pub extents : List ℕ → List Extent
extents sizes = extents_from 20 sizes

-- the state of a movie writer: the form of the frames, their sizes, and for how many more frames it has memory
pub record WriterState : Type 0 where
  pub head : Head
  pub sizes : List ℕ
  pub spare : ℕ

-- a frame after the head of its data atom
abbrev pub frame_bytes : List ℕ → List ℕ
frame_bytes frame = frame_head_bytes (length frame) ++ frame

-- the movie of these frames
abbrev pub movie_bytes : Head → (frames : List (List ℕ)) → List ℕ
movie_bytes head frames = ftyp_bytes ++ flat_map frame_bytes frames ++ moov_bytes head (extents (map length frames))
