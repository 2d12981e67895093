-- The pictures of a movie with sound are read.
use Rattle.std.proofs.Common.{◌≡◌, refl, ℕ, ◌*◌, ◌≤◌, ◌<◌, ◌^◌, Bool, true, false, if◌then◌else◌, List, [], ◌∷◌, length, map, Ok, arith, sym, ap, subst, ◌∙◌}
use Rattle.std.specs.Prelude.{◌==◌, max}
use Rattle.std.specs.List.{AllByRecursion}
use Rattle.std.proofs.lemmas.Bool.Decides.{nat_tests}
use Rattle.std.proofs.lemmas.List.{length-map}
use Rattle.std.proofs.lemmas.List.Elements.{All-from_recursion}
use Rattle.pw_outside.specs.Reading.{AreBytes}
use Rattle.qt_tables.specs.declared.runs.Sample.{Sample}
use Rattle.qt_tables.specs.Samples.{samples}
use Rattle.qt_movie.specs.Movie.{Movie, movie_in}
use Rattle.qt_movie.specs.Trak.{TrakValues, IsTrak}
use Rattle.qt_movie.specs.Laws.{tables_of, HasKind, IsReadable, one_each, HasSamples, LoneSamples, LoneSamplesAreTold, WrittenTraksAreRead}
use Rattle.pcm_track.specs.declared.form.Pcm.{Pcm}
use Rattle.pcm_track.specs.declared.parts.Part.{Part}
use Rattle.pcm_track.specs.Wav.{IsPcm}
use Rattle.pcm_track.specs.Adding.{parts_in, first_place, runs_of, where_some, chunk_frames, duration_field, picture_duration, sound_duration, picture_values, sound_values, movie_with_sound}
use Rattle.pcm_track.proofs.Runs.{where-few, runs-few, chunk-runs-many}
use Rattle.pcm_track.proofs.Shares.{parts-of-few, chunks-of-few, sounds-many}
use Rattle.sound_round.specs.Laws.{sample_bytes, HasPicturesOf, AddedPicturesAreRead}
use Rattle.sound_round.proofs.Bodies.{bodies, movie-is, bodies-lie, AreThere, done-there, Fit, parts-fit, bodies-fit, is-added}
use Rattle.sound_round.proofs.Forms.{form-is}
use Rattle.sound_round.proofs.PicturesRead.{IsReadMovie, read-movie}
use Rattle.sound_round.proofs.PicturesRuns.{runs-given, runs-fit, samples-last, samples-few}
use Rattle.sound_round.proofs.PicturesPlaced.{samples_of, samples-given, moved_from, moved-places, moved-same, moved-described, moved-near, sizes-small, moved-bytes}

-- ---- runs of a list that isn't empty

one-where : {X : Type 0} (n : ℕ) (xs : List X) → length xs ≡ n → where_some n (1, 1, 1) ≡ one_each xs
one-where n [] e = rw (← e) refl
one-where n (x ∷ xs) e = let no : (n == 0) ≡ false = grind (arith, nat_tests, e) in rw no refl

each-where : {Run : Type 0} (P : Run → Type 0) (b : Bool) (run : Run) → P run → AllByRecursion P (if b then [] else run ∷ [])
each-where P true run h = tt
each-where P false run h = (h, tt)

abbrev RunFits : ℕ × ℕ × ℕ → Type 0
RunFits r = (r.0 < 2 ^ 32) × (r.1 < 2 ^ 32) × (r.2 < 2 ^ 32)

-- ---- the two tracks

module _ (file : List ℕ) (m : Movie) (p : Pcm) (sound : List ℕ) (read : IsReadMovie file m) (is : IsPcm p) (there : AreThere file p.channels (parts_in m p) sound) where
  abbrev ss : List Sample
  ss = samples m.tables

  abbrev xs : List Part
  xs = parts_in m p

  abbrev t : TrakValues
  t = picture_values m p

  -- the samples as they are written
  abbrev written : List Sample
  written = moved_from p.channels first_place xs

  given : samples_of xs ≡ ss
  given = samples-given m.tables.timescale p ss

  few : length ss ≤ 1000000
  few = omega (arith, samples-few m.tables, read.few)

  fit : Fit p.channels xs
  fit = parts-fit file m p sound read.some is there

  sizes-same : map (λ (s : Sample). s.size) ss ≡ map (λ (s : Sample). s.size) written
  sizes-same = ap (map (λ (s : Sample). s.size)) (sym given) ∙ sym (moved-same (λ (s : Sample). s.size) (λ at s. refl) p.channels first_place xs)

  durations-same : map (λ (s : Sample). s.duration) written ≡ map (λ (s : Sample). s.duration) ss
  durations-same = moved-same (λ (s : Sample). s.duration) (λ at s. refl) p.channels first_place xs ∙ ap (map (λ (s : Sample). s.duration)) given

  as-many : length written ≡ length ss
  as-many = omega (arith, ap length sizes-same, length-map ss (λ (s : Sample). s.size), length-map written (λ (s : Sample). s.size))

  pub pictures-written : IsTrak t
  pictures-written = record {
    few_times = omega (arith, runs-few (map (λ (s : Sample). s.duration) ss), length-map ss (λ (s : Sample). s.duration), few);
    few_runs = omega (arith, where-few {A = ℕ × ℕ × ℕ} (length ss) (1, 1, 1));
    few_sizes = omega (arith, length-map ss (λ (s : Sample). s.size), few);
    few_chunks = omega (arith, ap length (moved-places p.channels first_place xs), length-map written (λ (s : Sample). s.at), as-many, few);
    sized = length-map ss (λ (s : Sample). s.size);
  }

  pub sound-written : IsTrak (sound_values m p)
  sound-written =
      let chunks = chunks-of-few m.tables.timescale p ss few in
      let channels = is.channels.0 in
      record {
        few_times = omega (arith, where-few {A = ℕ × ℕ} p.frames (p.frames, 1));
        few_runs = omega (arith, chunk-runs-many 1 (runs_of (chunk_frames xs)), runs-few (chunk_frames xs), chunks);
        few_sizes = omega arith;
        few_chunks = omega (arith, sounds-many p.channels first_place xs, chunks);
        sized = (let no : (2 * p.channels == 0) ≡ false = grind (arith, nat_tests, channels) in rw no refl);
      }

  has-samples : HasSamples t written
  has-samples = record {
    common = refl;
    sizes = sizes-same;
    places = moved-places p.channels first_place xs;
    runs = one-where (length ss) written as-many;
    durations = runs-given (map (λ (s : Sample). s.duration) ss) ∙ sym durations-same;
    described = All-from_recursion (λ (s : Sample). s.description ≡ 1) written (moved-described p.channels first_place xs);
  }

  module _ (fits : AreBytes file) (told : LoneSamplesAreTold) (traks : WrittenTraksAreRead) where
    lone : LoneSamples t written
    lone =
        let many = parts-of-few m.tables.timescale p ss few in
        let close = moved-near p.channels first_place xs fit (omega (arith, many)) in
        told t written has-samples read.some (omega (arith, as-many, few)) pictures-written.few_times (All-from_recursion (λ (s : Sample). s.at < 2 ^ 62) written close)

    readable : IsReadable t m.kind m.width m.height 24
    readable =
        let lasting = length-map ss (λ (s : Sample). s.duration) in
        let times = runs-fit (map (λ (s : Sample). s.duration) ss) (omega (arith, lasting, few)) (samples-last m.tables (read.short fits)) in
        let sizes = subst (λ l. AllByRecursion (λ size. size < 2 ^ 32) (map (λ (s : Sample). s.size) l)) given (sizes-small p.channels xs fit) in
        record {
          media = refl;
          prores = read.prores;
          wide = read.wide fits;
          high = read.high fits;
          written = pictures-written;
          timescale = read.timescale fits;
          common = omega arith;
          sizes = All-from_recursion (λ size. size < 2 ^ 32) t.sizes sizes;
          times = All-from_recursion (λ (r : ℕ × ℕ). (r.0 < 2 ^ 32) × (r.1 < 2 ^ 32)) t.stts times;
          runs = All-from_recursion RunFits t.stsc (each-where RunFits (length ss == 0) (1, 1, 1) (omega arith, omega arith, omega arith));
          tables = lone.tables;
          in_order = lone.in_order;
        }

    abbrev out : List ℕ
    out = movie_with_sound file m p sound

    -- the movie that is read back
    abbrev n : Movie
    n = record { number = 1; kind = m.kind; width = m.width; height = m.height; tables = tables_of t }

    is-read : movie_in out ≡ Ok n
    is-read =
        let duration = duration_field (max (picture_duration m) (sound_duration m p)) in
        let others = sound_values m p ∷ [] in
        ap movie_in (movie-is file m p sound)
        ∙ traks (bodies file p.channels xs sound) m.tables.timescale duration t others m.kind m.width m.height 24 (bodies-fit file p.channels xs sound fit) readable
        (All-from_recursion IsTrak others (sound-written, tt)) (All-from_recursion (λ (o : TrakValues). HasKind o.media) others (tt, tt)) (omega arith)

    has-pictures : HasPicturesOf file m out n
    has-pictures = record {
      kind = refl;
      width = refl;
      height = refl;
      timescale = refl;
      bytes = ap (map (sample_bytes out)) lone.samples ∙ moved-bytes out file p.channels first_place xs sound (bodies-lie file m p sound) there ∙ ap (map (sample_bytes file)) given;
      durations = ap (map (λ (s : Sample). s.duration)) lone.samples ∙ durations-same;
    }

    pub pictures-read : (n : Movie) × (movie_in out ≡ Ok n) × HasPicturesOf file m out n
    pictures-read = (n, is-read, has-pictures)

-- ---- the law

same-movie : (file : List ℕ) (m n : Movie) → movie_in file ≡ Ok m → movie_in file ≡ Ok n → n ≡ m
same-movie file m n a b = cc

pub added-read : LoneSamplesAreTold → WrittenTraksAreRead → AddedPicturesAreRead
added-read told traks file wav m fits e done =
    let a = is-added file wav done in
    let there = done-there file a.p.channels (parts_in a.m a.p) a.rest (a.done) in
    let read = read-movie file a.m a.movie in
    let is = form-is (record { place = 0; bytes = wav }) a.rest a.p a.form in
    let found = pictures-read file a.m a.p a.rest.bytes read is there fits told traks in
    subst (λ out. (n : Movie) × (movie_in out ≡ Ok n) × HasPicturesOf file m out n) a.out
    (subst (λ q. (n : Movie) × (movie_in (movie_with_sound file a.m a.p a.rest.bytes) ≡ Ok n) × HasPicturesOf file q (movie_with_sound file a.m a.p a.rest.bytes) n) (same-movie file m a.m e a.movie) found)
