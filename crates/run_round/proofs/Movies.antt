-- The samples of a written movie: each lies in the file, and stands for its coded frame.
use Rattle.std.proofs.Common.{◌≡◌, refl, ℕ, ◌+◌, ◌≤◌, Ok, List, [], ◌∷◌, ◌++◌, arith, length, map, drop, ap, sym, subst, ◌∙◌, length-take, length-drop}
use Rattle.std.proofs.lemmas.List.{map-append}
use Rattle.std.specs.List.{AllByRecursion, AllZip, All}
use Rattle.pr_frame.specs.declared.coded.CodedFrame.{CodedFrame}
use Rattle.pr_frame.specs.Stands.{FrameStands}
use Rattle.pr_frame.specs.Written.{coded_bytes}
use Rattle.qt_atoms.specs.Atoms.{bytes_in}
use Rattle.qt_tables.specs.declared.runs.Sample.{Sample}
use Rattle.qt_tables.specs.declared.writer.Extent.{Extent}
use Rattle.qt_tables.specs.Writing.{written_samples}
use Rattle.qt_tables.specs.Samples.{samples}
use Rattle.qt_movie.specs.Movie.{Movie, movie_in}
use Rattle.qt_movie.specs.MovieBytes.{extents_from, extents, movie_bytes}
use Rattle.qt_movie.specs.Laws.{WrittenMovieIsRead, WrittenSamplesAreRead, WrittenFramesAreRead, written_movie}
use Rattle.pic_y4m.specs.HeadLine.{IsHead}
use Rattle.run_encode.specs.declared.job.Job.{Job}
use Rattle.run_encode.specs.Groups.{coefficients_in, coded_group}
use Rattle.rate_table.specs.Table.{indices}
use Rattle.run_encode.specs.Encoding.{Group, all_frames, frames_of}
use Rattle.run_encode.proofs.Whole.{GroupIs}
use Rattle.run_look.specs.Agreeing.{IsSampleOf}
use Rattle.run_round.specs.Laws.{frames_in}
use Rattle.pw_outside.proofs.Lists.{zip-append}

-- a sample of a file is the bytes of a coded frame
pub record IsWrittenSample (file : List ℕ) (s : Sample) (f : CodedFrame) : Type 0 where
  pub of : IsSampleOf file s f
  pub size : s.size ≡ length (coded_bytes f)

inside : (file frame : List ℕ) (s : Sample) → bytes_in s.size file s.at ≡ frame → s.size ≡ length frame → 28 ≤ length frame → s.at + s.size ≤ length file
inside file frame s bytes size some =
    let taken = length-take s.size (drop s.at file) in
    let left = length-drop s.at file in
    omega (arith, ap length bytes, size, some, taken, left)

pub all-written : (file : List ℕ) (ss : List Sample) (fs : List CodedFrame) → map (λ s. bytes_in s.size file s.at) ss ≡ map coded_bytes fs
    → map (λ (s : Sample). s.size) ss ≡ map length (map coded_bytes fs) → AllZip FrameStands (map coded_bytes fs) fs → AllZip (IsWrittenSample file) ss fs
all-written file [] [] bytes sizes stand = tt
all-written file [] (f ∷ fs) bytes sizes stand = absurd cc
all-written file (s ∷ ss) [] bytes sizes stand = absurd cc
all-written file (s ∷ ss) (f ∷ fs) bytes sizes stand =
    let here : bytes_in s.size file s.at ≡ coded_bytes f = cc in
    let others : map (λ s. bytes_in s.size file s.at) ss ≡ map coded_bytes fs = cc in
    let size : s.size ≡ length (coded_bytes f) = cc in
    let others-sizes : map (λ (s : Sample). s.size) ss ≡ map length (map coded_bytes fs) = cc in
    let stands : FrameStands (bytes_in s.size file s.at) f = subst (λ b. FrameStands b f) (sym here) stand.0 in (
      record { of = record { inside = inside file (coded_bytes f) s here size stand.0.header.fields; stands = stands }; size = size },
      all-written file ss fs others others-sizes stand.1,
    )

-- the sizes of the samples of frames
extent-sizes : (place : ℕ) (sizes : List ℕ) → map (λ (e : Extent). e.size) (extents_from place sizes) ≡ sizes
extent-sizes place [] = refl
extent-sizes place (size ∷ sizes) = ap (λ l. size ∷ l) (extent-sizes (place + (8 + size)) sizes)

sample-sizes : (es : List Extent) (duration : ℕ) → map (λ (s : Sample). s.size) (written_samples es duration) ≡ map (λ (e : Extent). e.size) es
sample-sizes [] duration = refl
sample-sizes (e ∷ es) duration = ap (λ l. e.size ∷ l) (sample-sizes es duration)

-- ---- the frames of groups

module _ (j : Job) where
  pub frames-are : (gs : List Group) → all_frames j gs ≡ map coded_bytes (frames_in j gs)
  frames-are [] = refl
  frames-are (g ∷ gs) =
      ap (λ l. frames_of j g ++ l) (frames-are gs) ∙ sym (map-append coded_bytes (coded_group j (map (coefficients_in j) g.pictures) (indices g.choice)) (frames_in j gs))

  all-stand : (gs : List Group) → AllByRecursion (GroupIs j) gs → AllZip FrameStands (all_frames j gs) (frames_in j gs)
  all-stand [] h = tt
  all-stand (g ∷ gs) h = zip-append FrameStands (frames_of j g) (all_frames j gs) (coded_group j (map (coefficients_in j) g.pictures) (indices g.choice)) (frames_in j gs) h.0.stands (all-stand gs h.1)

  module _ (movie-read : WrittenMovieIsRead) (samples-read : WrittenSamplesAreRead) (frames-read : WrittenFramesAreRead) (gs : List Group) (head : IsHead j.head)
      (hold : AllByRecursion (GroupIs j) gs) (few : length (all_frames j gs) ≤ 1000000) (small : All (λ frame. length frame ≤ 4294967286) (all_frames j gs)) where
    abbrev frames : List (List ℕ)
    frames = all_frames j gs

    abbrev pub movie : Movie
    movie = written_movie j.head frames

    pub is-movie : movie_in (movie_bytes j.head frames) ≡ Ok movie
    is-movie = movie-read j.head frames head few small

    pub samples-are : samples movie.tables ≡ written_samples (extents (map length frames)) j.head.den
    samples-are = samples-read j.head frames movie head few small is-movie

    -- each sample of the movie is the bytes of its coded frame
    pub written-samples : AllZip (IsWrittenSample (movie_bytes j.head frames)) (samples movie.tables) (frames_in j gs)
    written-samples =
        all-written (movie_bytes j.head frames) (samples movie.tables) (frames_in j gs)
        (frames-read j.head frames movie head few small is-movie ∙ frames-are gs)
        (ap (map (λ (s : Sample). s.size)) samples-are ∙ sample-sizes (extents (map length frames)) j.head.den ∙ extent-sizes 20 (map length frames) ∙ ap (map length) (frames-are gs))
        (subst (λ l. AllZip FrameStands l (frames_in j gs)) (frames-are gs) (all-stand gs hold))
