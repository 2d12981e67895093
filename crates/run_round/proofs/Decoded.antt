-- The result of encoding is decoded: each sample shows its coded frame.
use Rattle.std.proofs.Common.{◌≡◌, refl, ℕ, zero, suc, ◌≤◌, List, [], ◌∷◌, ◌++◌, length, map, drop, arith, sym, ap, subst, ◌∙◌}
use Rattle.std.proofs.lemmas.Slice.Zip.{AllZip-long}
use Rattle.std.specs.Prelude.{◌==◌, if◌then◌else◌}
use Rattle.std.specs.List.{All, AllByRecursion, AllZip}
use Rattle.std.proofs.lemmas.List.{length-map}
use Rattle.std.proofs.lemmas.List.Elements.{All-map, All-from_recursion}
use Rattle.pw_planes.specs.declared.kinds.Depth.{Depth}
use Rattle.pr_head.specs.declared.frame.FrameHeader.{FrameHeader}
use Rattle.pr_frame.specs.declared.coded.CodedFrame.{CodedFrame}
use Rattle.pr_frame.specs.declared.showing.Shown.{Shown}
use Rattle.pr_frame.specs.Shown.{shown_of}
use Rattle.pr_frame.specs.Written.{coded_bytes}
use Rattle.pic_y4m.specs.Frames.{Pictures}
use Rattle.pic_raw.specs.Any.{PicturesHaveForm}
use Rattle.pr_quant.specs.Matrices.{NamedWeightsAreInRange}
use Rattle.qt_tables.specs.declared.runs.Sample.{Sample}
use Rattle.qt_tables.specs.declared.writer.Extent.{Extent}
use Rattle.qt_tables.specs.Samples.{samples}
use Rattle.qt_tables.specs.Writing.{written_samples}
use Rattle.qt_tables.proofs.Reread.{is-not-none}
use Rattle.qt_movie.specs.Movie.{Movie}
use Rattle.qt_movie.specs.MovieBytes.{extents, movie_bytes}
use Rattle.qt_movie.specs.Laws.{WrittenMovieIsRead, WrittenSamplesAreRead, WrittenFramesAreRead, written_movie}
use Rattle.rate_table.specs.Table.{indices}
use Rattle.rate_build.specs.Coefficients.{FrameCoefficients}
use Rattle.rate_build.specs.Groups.{coded_frames}
use Rattle.run_encode.specs.declared.job.Job.{Job}
use Rattle.run_encode.specs.Groups.{IsJob, ArePictures, header_in, frame_slices, coefficients_in}
use Rattle.run_encode.specs.Outputs.{Lists}
use Rattle.run_encode.specs.Encoding.{Group, AreFirst, all_frames}
use Rattle.run_encode.proofs.Below.{LawsOfGroups}
use Rattle.run_encode.proofs.Whole as whole
use Rattle.run_decode.specs.declared.job.Form.{Form}
use Rattle.run_decode.specs.declared.job.Job.{Job as DecodeJob}
use Rattle.run_decode.specs.declared.end.DecodeEnd.TheVariants as decodes
use Rattle.run_decode.specs.Decoding.{AreShown, IsLike, Decodes, job_in, head_of, first_duration}
use Rattle.run_round.specs.Laws.{frames_in, all_shown, ShowsAll, EncodedIsDecoded}
use Rattle.run_round.proofs.Jobs.{is-job, are-pictures}
use Rattle.run_round.proofs.Movies.{IsWrittenSample, frames-are, is-movie, samples-are, written-samples}
use Rattle.run_round.proofs.Groups.{few-frames, small-frames, frames-number}

-- ---- the headers of frames

abbrev HasHeader : FrameHeader → CodedFrame → Type 0
HasHeader h f = f.header ≡ h

group-headers : (h : FrameHeader) (n : ℕ) (cs : List FrameCoefficients) (choice : List ℕ) (others : List CodedFrame) → AllByRecursion (HasHeader h) others
    → AllByRecursion (HasHeader h) (coded_frames h n cs choice ++ others)
group-headers h n [] choice others more = more
group-headers h n (c ∷ cs) choice others more = (refl, group-headers h n cs (drop n choice) others more)

headers : (j : Job) (gs : List Group) → AllByRecursion (HasHeader (header_in j)) (frames_in j gs)
headers j [] = tt
headers j (g ∷ gs) = group-headers (header_in j) (frame_slices j) (map (coefficients_in j) g.pictures) (indices g.choice) (frames_in j gs) (headers j gs)

-- ---- the decoded pictures

are-shown : (d : Depth) (file : List ℕ) (ss : List Sample) (fs : List CodedFrame) → AllZip (IsWrittenSample file) ss fs → AreShown d file (all_shown d fs) ss
are-shown d file [] [] h = tt
are-shown d file [] (f ∷ fs) h = absurd h
are-shown d file (s ∷ ss) [] h = absurd h
are-shown d file (s ∷ ss) (f ∷ fs) h =
    (record { inside = h.0.of.inside; shown = record { frame = f; stands = h.0.of.stands; is = refl } }, are-shown d file ss fs h.1)

-- frames with the same header are alike
likes : (job : DecodeJob) (d : Depth) (h h' : FrameHeader) (fs : List CodedFrame) → h' ≡ h → AllByRecursion (HasHeader h) fs
    → AllByRecursion (λ (p : Shown). head_of job h' ≡ head_of job p.header) (all_shown d fs)
likes job d h h' [] e all = tt
likes job d h h' (f ∷ fs) e all = (ap (head_of job) (e ∙ sym all.0), likes job d h h' fs e all.1)

are-alike : (job : DecodeJob) (d : Depth) (h : FrameHeader) (fs : List CodedFrame) → AllByRecursion (HasHeader h) fs → AllByRecursion (IsLike job (all_shown d fs)) (all_shown d fs)
are-alike job d h [] all = tt
are-alike job d h (f ∷ fs) all = likes job d h f.header (f ∷ fs) all.0 all

-- ---- the rate

-- the rate that is reported for samples of equal duration, if there are any
abbrev told : ℕ → ℕ → ℕ
told duration timescale = if duration == 0 then 0 else timescale

told-is : (duration timescale : ℕ) → 1 ≤ duration → told duration timescale ≡ timescale
told-is zero timescale h = absurd (omega (arith, h))
told-is (suc n) timescale h = ap (λ b. if b then 0 else timescale) (is-not-none n)

duration-is : (es : List Extent) (duration : ℕ) → 1 ≤ length es → first_duration (written_samples es duration) ≡ duration
duration-is [] duration h = absurd (omega (arith, h))
duration-is (e ∷ es) duration h = refl

-- ---- the movie of all groups

module _ (j : Job) (is : IsJob j) (ps : Pictures) (are : ArePictures j.head ps) (b : LawsOfGroups)
    (movie-read : WrittenMovieIsRead) (samples-read : WrittenSamplesAreRead) (frames-read : WrittenFramesAreRead) (coded : List Group) (first : AreFirst j ps coded) where
  abbrev file : List ℕ
  file = movie_bytes j.head (all_frames j coded)

  abbrev movie : Movie
  movie = written_movie j.head (all_frames j coded)

  abbrev fs : List CodedFrame
  fs = frames_in j coded

  written-are : AllZip (IsWrittenSample file) (samples movie.tables) fs
  written-are = written-samples j movie-read samples-read frames-read coded is.head (whole.each-holds j is ps are b coded first)
      (few-frames j is ps are b coded first) (small-frames j is ps are b coded first)

  samples-written : samples movie.tables ≡ written_samples (extents (map length (all_frames j coded))) j.head.den
  samples-written = samples-are j movie-read samples-read frames-read coded is.head (whole.each-holds j is ps are b coded first)
      (few-frames j is ps are b coded first) (small-frames j is ps are b coded first)

  decodes-all : (form : Form) (d : Depth) → Decodes (job_in form d movie) file (samples movie.tables) (all_shown d fs) decodes.Done
  decodes-all form d = record {
    first = record { shown = are-shown d file (samples movie.tables) fs written-are; alike = are-alike (job_in form d movie) d (header_in j) fs (headers j coded) };
    ends = length-map fs (shown_of d) ∙ AllZip-long (IsWrittenSample file) (samples movie.tables) fs written-are;
  }

  -- if there is a sample, its head is the pictures'
  den-is : 1 ≤ length fs → first_duration (samples movie.tables) ≡ j.head.den
  den-is some =
      let es = extents (map length (all_frames j coded)) in
      let n = sym (AllZip-long (IsWrittenSample file) (samples movie.tables) fs written-are) in
      let m = ap length samples-written ∙ length-map es (λ (e : Extent). record { at = e.at; size = e.size; duration = j.head.den; description = 1 }) in
      ap first_duration samples-written ∙ duration-is es j.head.den (omega (arith, n, m, some))

  head-is : (form : Form) (d : Depth) → 1 ≤ length fs → head_of (job_in form d movie) (header_in j) ≡ record j.head { depth = d }
  head-is form d some =
      let den = den-is some in
      let num : told (first_duration (samples movie.tables)) j.head.num ≡ j.head.num = ap (λ n. told n j.head.num) den ∙ told-is j.head.den j.head.num is.head.some_den in
      λ i. record j.head { depth = d; num = num i; den = den i }

  heads-are : (form : Form) (d : Depth) → All (λ (p : Shown). head_of (job_in form d movie) p.header ≡ record j.head { depth = d }) (all_shown d fs)
  heads-are form d = All-map (λ (p : Shown). head_of (job_in form d movie) p.header ≡ record j.head { depth = d }) (shown_of d) fs
      (λ k f lt. ap (head_of (job_in form d movie)) (All-from_recursion (HasHeader (header_in j)) fs (headers j coded) k f lt) ∙ head-is form d (let h = lt in omega (arith, h)))

  pub shows-all : ShowsAll file j.head fs
  shows-all = record {
    movie = movie;
    is_movie = is-movie j movie-read samples-read frames-read coded is.head (whole.each-holds j is ps are b coded first)
        (few-frames j is ps are b coded first) (small-frames j is ps are b coded first);
    decodes = decodes-all;
    heads = heads-are;
  }

-- ---- the law

pub is-decoded : NamedWeightsAreInRange → PicturesHaveForm → LawsOfGroups → WrittenMovieIsRead → WrittenSamplesAreRead → WrittenFramesAreRead → EncodedIsDecoded
is-decoded named have-form b movie-read samples-read frames-read w bytes head ps j lists input e =
    let is = is-job named w bytes head ps j input in
    let are = are-pictures named w bytes head ps j input have-form in
    let ends = e.ends in
    let all = shows-all j is ps are b movie-read samples-read frames-read e.coded e.first in
    let all' : ShowsAll (movie_bytes j.head (all_frames j e.coded)) head (frames_in j e.coded) =
    subst (λ h. ShowsAll (movie_bytes j.head (all_frames j e.coded)) h (frames_in j e.coded)) input.job.head all in
    let count = frames-number j is ps are b e.coded e.first ends.0 ends.1 in (
      subst (λ (l : Lists). ShowsAll l.movie head (frames_in j e.coded)) (sym ends.2) all',
      sym (length-map (frames_in j e.coded) coded_bytes) ∙ sym (ap length (frames-are j e.coded)) ∙ count,
    )
