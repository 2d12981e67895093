-- A written track, from its values and tables: pictures or plain PCM sound. Atoms and fields by the QuickTime File
-- Format; the choice of atoms and their order are our own.
use Rattle.std.specs.Prelude.{◌≡◌, ◌≤◌, ℕ, ◌+◌, ◌*◌, ◌^◌, ◌==◌, nat_lt, Bool, List, [], ◌∷◌, ◌++◌, length, map, codes, if◌then◌else◌}
use Rattle.std.specs.List.{flat_map, list_all}
use Rattle.std.specs.Int.{w64, to_be_bytes}
use Rattle.qt_atoms.specs.Written.{Node, atom}
use Rattle.qt_tables.specs.Writing.{numbers_bytes}
use Rattle.qt_movie.specs.declared.trak.Media.{Media}
use Rattle.qt_movie.specs.declared.trak.Media.TheVariants as media
use Rattle.qt_movie.specs.Bodies.{be16, be32, zeros, node, nodes_bytes, unit_matrix, mvhd_body, mdhd_body, hdlr_body, vmhd_body, dinf_nodes}
use Rattle.qt_tables.specs.declared.tables.TheConstants.{MAX_SAMPLES}

-- the values and tables of a track
pub record TrakValues : Type 0 where
  pub number : ℕ
  -- in units of the movie
  pub movie_duration : ℕ
  pub timescale : ℕ
  -- in units of the media
  pub duration : ℕ
  pub media : Media
  -- runs of samples: their number, and the duration of each
  pub stts : List (ℕ × ℕ)
  -- runs of chunks: the first chunk, the samples per chunk, and their description
  pub stsc : List (ℕ × ℕ × ℕ)
  -- one size for all samples, or 0
  pub common : ℕ
  pub count : ℕ
  pub sizes : List ℕ
  -- the offsets of the chunks
  pub offsets : List ℕ

-- A track that can be written: each table has at most `MAX_SAMPLES` rows; each sample has a size if there is no
-- common size, and none otherwise.
pub record IsTrak (t : TrakValues) : Type 0 where
  pub few_times : length t.stts ≤ MAX_SAMPLES
  pub few_runs : length t.stsc ≤ MAX_SAMPLES
  pub few_sizes : length t.sizes ≤ MAX_SAMPLES
  pub few_chunks : length t.offsets ≤ MAX_SAMPLES
  pub sized : length t.sizes ≡ (if t.common == 0 then t.count else 0)

-- ---- the media

abbrev pub subtype_of : Media → List ℕ
subtype_of (media.Video kind width height depth) = codes "vide"
subtype_of (media.Sound channels rate) = codes "soun"

-- volume 1 for sound
abbrev pub volume_of : Media → ℕ
volume_of (media.Video kind width height depth) = 0
volume_of (media.Sound channels rate) = 256

abbrev pub width_of : Media → ℕ
width_of (media.Video kind width height depth) = width
width_of (media.Sound channels rate) = 0

abbrev pub height_of : Media → ℕ
height_of (media.Video kind width height depth) = height
height_of (media.Sound channels rate) = 0

-- version and flags, balance and reserved
unfoldable pub smhd_body : List ℕ
smhd_body = zeros 8

-- the media information header
abbrev pub media_node : Media → Node
media_node (media.Video kind width height depth) = node (codes "vmhd") vmhd_body
media_node (media.Sound channels rate) = node (codes "smhd") smhd_body

-- A description of pictures after its kind: 6 reserved bytes, data reference 1, version and revision 0, vendor,
-- qualities 0, width and height, 72 dots per inch twice, data size 0, one frame per sample, an empty name, depth,
-- no colour table
unfoldable pub pictures_bytes : (width height depth : ℕ) → List ℕ
pictures_bytes width height depth = zeros 6 ++ be16 1 ++ be16 0 ++ be16 0 ++ codes "pwk0" ++ be32 0 ++ be32 0 ++ be16 width ++ be16 height
    ++ be32 4718592 ++ be32 4718592 ++ be32 0 ++ be16 1 ++ zeros 32 ++ be16 depth ++ be16 65535

-- A description of sound after its kind: 6 reserved bytes, data reference 1, version and revision 0, vendor 0,
-- channels, 16 bits per sample, compression and packet size 0, the rate with 16 fraction bits
unfoldable pub sound_bytes : (channels rate : ℕ) → List ℕ
sound_bytes channels rate = zeros 6 ++ be16 1 ++ be16 0 ++ be16 0 ++ be32 0 ++ be16 channels ++ be16 16 ++ be16 0 ++ be16 0 ++ be32 (rate * 65536)

-- a description: 86 bytes for pictures, or 36 for sound
abbrev pub description_bytes : Media → List ℕ
description_bytes (media.Video kind width height depth) = be32 86 ++ kind ++ pictures_bytes width height depth
description_bytes (media.Sound channels rate) = be32 36 ++ codes "sowt" ++ sound_bytes channels rate

-- version and flags, one description
abbrev pub stsd_body : Media → List ℕ
stsd_body m = be32 0 ++ be32 1 ++ description_bytes m

-- ---- the tables

-- a run of samples: their number, and the duration of each
abbrev pub time_bytes : ℕ × ℕ → List ℕ
time_bytes r = numbers_bytes (r.0 ∷ r.1 ∷ [])

-- a run of chunks: the first chunk, the samples per chunk, and their description
abbrev pub run_bytes : ℕ × ℕ × ℕ → List ℕ
run_bytes r = numbers_bytes (r.0 ∷ r.1 ∷ r.2 ∷ [])

-- `stts`: version and flags, the number of runs, and the runs
abbrev pub stts_body : List (ℕ × ℕ) → List ℕ
stts_body runs = numbers_bytes (0 ∷ length runs ∷ []) ++ flat_map time_bytes runs

-- `stsc`: version and flags, the number of runs, and the runs
abbrev pub stsc_body : List (ℕ × ℕ × ℕ) → List ℕ
stsc_body runs = numbers_bytes (0 ∷ length runs ∷ []) ++ flat_map run_bytes runs

-- `stsz`: version and flags, the common size, the number of samples, and their sizes if there is no common size
abbrev pub stsz_body : (common count : ℕ) → List ℕ → List ℕ
stsz_body common count sizes = numbers_bytes (0 ∷ common ∷ count ∷ []) ++ numbers_bytes sizes

-- whether each offset fits 32 bits
abbrev pub are_near : List ℕ → Bool
are_near offsets = list_all (λ at. nat_lt at (2 ^ 32)) offsets

-- `stco`: version and flags, the number of offsets, and the 32-bit offsets
abbrev pub stco_body : List ℕ → List ℕ
stco_body offsets = numbers_bytes (0 ∷ length offsets ∷ []) ++ numbers_bytes offsets

-- `co64`: version and flags, the number of offsets, and the 64-bit offsets
abbrev pub co64_body : List ℕ → List ℕ
co64_body offsets = numbers_bytes (0 ∷ length offsets ∷ []) ++ flat_map (to_be_bytes w64) offsets

-- `stco`, or `co64` if an offset needs more than 32 bits
abbrev pub offsets_node : List ℕ → Node
offsets_node offsets = if are_near offsets then node (codes "stco") (stco_body offsets) else node (codes "co64") (co64_body offsets)

-- ---- the track

-- version and flags (enabled, in movie, preview and poster), two times, the number, reserved, duration, 8 reserved
-- bytes, layer, group, volume and reserved, matrix, width and height with 16 fraction bits
unfoldable pub tkhd_body : TrakValues → List ℕ
tkhd_body t = be32 15 ++ be32 0 ++ be32 0 ++ be32 t.number ++ be32 0 ++ be32 t.movie_duration ++ zeros 8 ++ be16 0 ++ be16 0 ++ be16 (volume_of t.media) ++ be16 0
    ++ unit_matrix ++ be32 (width_of t.media * 65536) ++ be32 (height_of t.media * 65536)

abbrev pub stbl_nodes : TrakValues → List Node
stbl_nodes t =
    node (codes "stsd") (stsd_body t.media)
    ∷ node (codes "stts") (stts_body t.stts)
    ∷ node (codes "stsc") (stsc_body t.stsc)
    ∷ node (codes "stsz") (stsz_body t.common t.count t.sizes)
    ∷ offsets_node t.offsets ∷ []

abbrev pub minf_nodes : TrakValues → List Node
minf_nodes t =
    media_node t.media
    ∷ node (codes "hdlr") (hdlr_body (codes "dhlr") (codes "alis"))
    ∷ node (codes "dinf") (nodes_bytes dinf_nodes)
    ∷ node (codes "stbl") (nodes_bytes (stbl_nodes t)) ∷ []

abbrev pub mdia_nodes : TrakValues → List Node
mdia_nodes t =
    node (codes "mdhd") (mdhd_body t.timescale t.duration)
    ∷ node (codes "hdlr") (hdlr_body (codes "mhlr") (subtype_of t.media))
    ∷ node (codes "minf") (nodes_bytes (minf_nodes t)) ∷ []

abbrev pub trak_nodes : TrakValues → List Node
trak_nodes t =
    node (codes "tkhd") (tkhd_body t)
    ∷ node (codes "mdia") (nodes_bytes (mdia_nodes t)) ∷ []

-- the track
abbrev pub trak_node : TrakValues → Node
trak_node t = node (codes "trak") (nodes_bytes (trak_nodes t))

-- ---- the movie

-- The movie header and the tracks. The next track ID is one more than the number of tracks.
abbrev pub moov_nodes : (timescale duration : ℕ) → List TrakValues → List Node
moov_nodes timescale duration traks = node (codes "mvhd") (mvhd_body timescale duration (length traks + 1)) ∷ map trak_node traks

-- the movie atom with these tracks, its time scale, and its duration in units of that
unfoldable pub moov_of_traks : (timescale duration : ℕ) → List TrakValues → List ℕ
moov_of_traks timescale duration traks = atom (codes "moov") (nodes_bytes (moov_nodes timescale duration traks))
