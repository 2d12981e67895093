-- Laws of written movies.
use Rattle.std.specs.Prelude.{◌≡◌, ℕ, ◌≤◌, ◌<◌, ◌+◌, ◌^◌, ◌==◌, true, List, [], ◌∷◌, ◌++◌, length, map, replicate, Ok, if◌then◌else◌}
use Rattle.std.specs.List.{All, flat_map}
use Rattle.pic_y4m.specs.declared.head.Head.{Head}
use Rattle.pic_y4m.specs.HeadLine.{IsHead}
use Rattle.qt_atoms.specs.Atoms.{bytes_in}
use Rattle.qt_tables.specs.declared.runs.Sample.{Sample}
use Rattle.qt_tables.specs.Samples.{Tables, durations, samples}
use Rattle.qt_tables.specs.Tables.{is_in_order, AreTables}
use Rattle.qt_tables.specs.Writing.{written_tables, written_samples}
use Rattle.qt_movie.specs.declared.trak.Media.{Media}
use Rattle.qt_movie.specs.declared.trak.Media.TheVariants as media
use Rattle.qt_movie.specs.Movie.{is_prores, Movie, movie_in}
use Rattle.qt_movie.specs.Trak.{TrakValues, IsTrak, moov_of_traks}
use Rattle.qt_movie.specs.MovieBytes.{kind_of, extents, ftyp_bytes, frame_bytes, movie_bytes}
use Rattle.qt_tables.specs.declared.tables.TheConstants.{MAX_SAMPLES}

-- If each data atom's head is followed by exactly the announced number of bytes, the bytes at a frame's offset by
-- the movie atom are that frame's.
abbrev pub FramesLieAtTheirPlaces : Type 0
FramesLieAtTheirPlaces = (head : Head) (frames : List (List ℕ)) → map (λ e. bytes_in e.size (movie_bytes head frames) e.at) (extents (map length frames)) ≡ frames

-- the contents of a written movie: one track, whose samples are the frames, each with the same duration
abbrev pub written_movie : Head → (frames : List (List ℕ)) → Movie
written_movie head frames = record {
  number = 1;
  kind = kind_of head;
  width = head.width;
  height = head.height;
  tables = written_tables (extents (map length frames)) head.den head.num;
}

-- A written movie is read back. The number of frames and the size of each are within the writer's limits.
abbrev pub WrittenMovieIsRead : Type 0
WrittenMovieIsRead = (head : Head) (frames : List (List ℕ))
    → IsHead head → length frames ≤ MAX_SAMPLES → All (λ frame. length frame ≤ 4294967286) frames
    → movie_in (movie_bytes head frames) ≡ Ok (written_movie head frames)

-- The samples that are read from a written movie are its frames: the offset and the size of each, its duration and
-- the first description.
abbrev pub WrittenSamplesAreRead : Type 0
WrittenSamplesAreRead = (head : Head) (frames : List (List ℕ)) (m : Movie)
    → IsHead head → length frames ≤ MAX_SAMPLES → All (λ frame. length frame ≤ 4294967286) frames
    → movie_in (movie_bytes head frames) ≡ Ok m → samples m.tables ≡ written_samples (extents (map length frames)) head.den

-- The bytes of the samples that are read from a written movie are its frames.
abbrev pub WrittenFramesAreRead : Type 0
WrittenFramesAreRead = (head : Head) (frames : List (List ℕ)) (m : Movie)
    → IsHead head → length frames ≤ MAX_SAMPLES → All (λ frame. length frame ≤ 4294967286) frames
    → movie_in (movie_bytes head frames) ≡ Ok m → map (λ s. bytes_in s.size (movie_bytes head frames) s.at) (samples m.tables) ≡ frames

-- ---- tracks from their values

-- the file type, data atoms with these bodies, and a movie atom with these tracks
abbrev pub traks_bytes : (bodies : List (List ℕ)) → (timescale duration : ℕ) → List TrakValues → List ℕ
traks_bytes bodies timescale duration traks = ftyp_bytes ++ flat_map frame_bytes bodies ++ moov_of_traks timescale duration traks

-- the tables from which a track was written
abbrev pub tables_of : TrakValues → Tables
tables_of t = record {
  timescale = t.timescale;
  sizes = if t.common == 0 then t.sizes else replicate t.count t.common;
  times = map (λ r. record { count = r.0; duration = r.1 }) t.stts;
  runs = map (λ r. record { first = r.0; samples = r.1; description = r.2 }) t.stsc;
  offsets = t.offsets;
}

-- a kind of pictures has four bytes
abbrev pub HasKind : Media → Type 0
HasKind (media.Video kind width height depth) = length kind ≡ 4
HasKind (media.Sound channels rate) = Unit {0}

-- A track of ProRes pictures that can be read back: each number fits its field, and the tables agree.
pub record IsReadable (t : TrakValues) (kind : List ℕ) (width height depth : ℕ) : Type 0 where
  pub media : t.media ≡ media.Video kind width height depth
  pub prores : is_prores kind ≡ true
  pub wide : width < 2 ^ 16
  pub high : height < 2 ^ 16
  pub written : IsTrak t
  pub timescale : t.timescale < 2 ^ 32
  pub common : t.common < 2 ^ 32
  pub sizes : All (λ size. size < 2 ^ 32) t.sizes
  pub times : All (λ r. (r.0 < 2 ^ 32) × (r.1 < 2 ^ 32)) t.stts
  pub runs : All (λ r. (r.0 < 2 ^ 32) × (r.1 < 2 ^ 32) × (r.2 < 2 ^ 32)) t.stsc
  pub tables : AreTables (tables_of t)
  -- all have the one description
  pub in_order : is_in_order 1 0 (tables_of t).runs ≡ true

-- A movie whose first track has ProRes pictures is read back, whatever tracks follow.
abbrev pub WrittenTraksAreRead : Type 0
WrittenTraksAreRead = (bodies : List (List ℕ)) (timescale duration : ℕ) (t : TrakValues) (others : List TrakValues) (kind : List ℕ) (width height depth : ℕ)
    → All (λ body. length body + 8 < 2 ^ 32) bodies → IsReadable t kind width height depth → All IsTrak others → All (λ o. HasKind o.media) others → length others ≤ 99
    → movie_in (traks_bytes bodies timescale duration (t ∷ others)) ≡ Ok (record { number = 1; kind = kind; width = width; height = height; tables = tables_of t })

-- one run of chunks with one sample each and the first description, if there are any
abbrev pub one_each : {X : Type 0} → List X → List (ℕ × ℕ × ℕ)
one_each [] = []
one_each (x ∷ xs) = (1, 1, 1) ∷ []

-- A track with these samples, each in a chunk of its own and with the first description.
pub record HasSamples (t : TrakValues) (ss : List Sample) : Type 0 where
  pub common : t.common ≡ 0
  pub sizes : t.sizes ≡ map (λ s. s.size) ss
  pub places : t.offsets ≡ map (λ s. s.at) ss
  pub runs : t.stsc ≡ one_each ss
  pub durations : durations (tables_of t).times ≡ map (λ s. s.duration) ss
  pub described : All (λ s. s.description ≡ 1) ss

-- the meaning of the tables of such a track
pub record LoneSamples (t : TrakValues) (ss : List Sample) : Type 0 where
  pub tables : AreTables (tables_of t)
  pub in_order : is_in_order 1 0 (tables_of t).runs ≡ true
  pub samples : samples (tables_of t) ≡ ss

-- The tables of samples in chunks of their own agree, and expand to these samples.
abbrev pub LoneSamplesAreTold : Type 0
LoneSamplesAreTold = (t : TrakValues) (ss : List Sample) → HasSamples t ss
    → 1 ≤ t.timescale → length ss ≤ MAX_SAMPLES → length t.stts ≤ MAX_SAMPLES → All (λ s. s.at < 2 ^ 62) ss
    → LoneSamples t ss
