-- A written movie is read back.
use Rattle.std.proofs.Common.{◌≡◌, ℕ, ◌+◌, ◌*◌, ◌≤◌, ◌<◌, ◌^◌, Bool, true, false, List, [], ◌∷◌, length, map, replicate, Result, Ok, refl, ap, ◌∙◌, arith}
use Rattle.std.specs.Prelude.{codes, ◌==◌, if◌then◌else◌}
use Rattle.std.specs.List.{All, AllByRecursion}
use Rattle.std.proofs.lemmas.List.{append-nil, length-map}
use Rattle.std.proofs.lemmas.List.Elements.{All-from_recursion, recursion_from_All}
use Rattle.pic_y4m.specs.declared.head.Head.{Head}
use Rattle.pic_y4m.specs.HeadLine.{IsHead}
use Rattle.qt_atoms.specs.Atoms.{bytes_in}
use Rattle.qt_tables.specs.declared.writer.Extent.{Extent}
use Rattle.qt_tables.specs.declared.runs.Sample.{Sample}
use Rattle.qt_tables.specs.Samples.{Tables, durations, samples}
use Rattle.qt_tables.specs.Writing.{sizes_of, places_of, written_tables, written_samples}
use Rattle.qt_tables.proofs.Again.{written_given}
use Rattle.qt_tables.proofs.Reread.{is-not-none}
use Rattle.qt_movie.specs.Movie.{is_prores, Movie, movie_in}
use Rattle.qt_movie.specs.Trak.{TrakValues, IsTrak}
use Rattle.qt_movie.specs.MovieBytes.{is_422, kind_of, pixel_bits, one_run, duration_of, frames_trak, moov_bytes, extents_from, extents, movie_bytes}
use Rattle.qt_movie.specs.Laws.{written_movie, traks_bytes, tables_of, HasKind, IsReadable, one_each, HasSamples}
use Rattle.qt_movie.proofs.Frames.{frames_lie}
use Rattle.qt_movie.proofs.FramesTrak.{length-extents, trak_can}
use Rattle.qt_movie.proofs.LoneSamples.{lone_told}
use Rattle.qt_movie.proofs.WrittenTables.{time_run, RunFits}
use Rattle.qt_movie.proofs.WrittenTraks.{traks_read}
use Rattle.qt_tables.specs.declared.tables.TheConstants.{MAX_SAMPLES}

-- ---- the offsets of the frames

extents-near : (place : ℕ) (sizes : List ℕ) → AllByRecursion (λ size. size ≤ 4294967286) sizes → place + 8 + 4294967296 * length sizes < 2 ^ 62 → AllByRecursion (λ (e : Extent). e.at < 2 ^ 62) (extents_from place sizes)
extents-near place [] h near = tt
extents-near place (size ∷ sizes) h near = (omega (arith, near), extents-near (place + (8 + size)) sizes h.1 (omega (arith, near, h.0)))

extents-sized : (place : ℕ) (sizes : List ℕ) → AllByRecursion (λ size. size ≤ 4294967286) sizes → AllByRecursion (λ (e : Extent). e.size < 2 ^ 32) (extents_from place sizes)
extents-sized place [] h = tt
extents-sized place (size ∷ sizes) h = (omega (arith, h.0), extents-sized (place + (8 + size)) sizes h.1)

sizes-small : (frames : List (List ℕ)) → AllByRecursion (λ frame. length frame ≤ 4294967286) frames → AllByRecursion (λ size. size ≤ 4294967286) (map length frames)
sizes-small [] h = tt
sizes-small (frame ∷ frames) h = (h.0, sizes-small frames h.1)

-- ---- the samples of its track

sizes-same : (es : List Extent) (duration : ℕ) → sizes_of es ≡ map (λ (s : Sample). s.size) (written_samples es duration)
sizes-same [] duration = refl
sizes-same (e ∷ es) duration = ap (λ l. e.size ∷ l) (sizes-same es duration)

places-same : (es : List Extent) (duration : ℕ) → places_of es ≡ map (λ (s : Sample). s.at) (written_samples es duration)
places-same [] duration = refl
places-same (e ∷ es) duration = ap (λ l. e.at ∷ l) (places-same es duration)

runs-same : (es : List Extent) (duration : ℕ) → one_run {Run = ℕ × ℕ × ℕ} (length es) (1, 1, 1) ≡ one_each (written_samples es duration)
runs-same [] duration = refl
runs-same (e ∷ es) duration = ap (λ (b : Bool). if b then [] else (1, 1, 1) ∷ []) (is-not-none (length es))

each-lasts : (es : List Extent) (duration : ℕ) → replicate (length es) duration ≡ map (λ (s : Sample). s.duration) (written_samples es duration)
each-lasts [] duration = refl
each-lasts (e ∷ es) duration = ap (λ l. duration ∷ l) (each-lasts es duration)

all-last : (es : List Extent) (duration : ℕ) → durations (map time_run (one_run (length es) (length es, duration))) ≡ map (λ (s : Sample). s.duration) (written_samples es duration)
all-last [] duration = refl
all-last (e ∷ es) duration =
    let n = length (e ∷ es) in
    ap (λ (b : Bool). durations (map time_run (if b then [] else (n, duration) ∷ []))) (is-not-none (length es)) ∙ append-nil (replicate n duration) ∙ each-lasts (e ∷ es) duration

by-the-first : (es : List Extent) (duration : ℕ) → AllByRecursion (λ (s : Sample). s.description ≡ 1) (written_samples es duration)
by-the-first [] duration = tt
by-the-first (e ∷ es) duration = (refl, by-the-first es duration)

has-samples : (head : Head) (es : List Extent) → HasSamples (frames_trak head es) (written_samples es head.den)
has-samples head es = record {
  common = refl;
  sizes = sizes-same es head.den;
  places = places-same es head.den;
  runs = runs-same es head.den;
  durations = all-last es head.den;
  described = All-from_recursion (λ (s : Sample). s.description ≡ 1) (written_samples es head.den) (by-the-first es head.den);
}

-- ---- its track can be read back

prores : (b : Bool) → is_prores (if b then codes "apch" else codes "ap4h") ≡ true
prores true = refl
prores false = refl

-- a property of the run holds of each run
pub each-run : {Run : Type 0} (P : Run → Type 0) (b : Bool) (run : Run) → P run → AllByRecursion P (if b then [] else run ∷ [])
each-run P true run h = tt
each-run P false run h = (h, tt)

closes : (es : List Extent) (duration : ℕ) → AllByRecursion (λ (e : Extent). e.at < 2 ^ 62) es → AllByRecursion (λ (s : Sample). s.at < 2 ^ 62) (written_samples es duration)
closes [] duration h = tt
closes (e ∷ es) duration h = (h.0, closes es duration h.1)

sizes-fit : (es : List Extent) → AllByRecursion (λ (e : Extent). e.size < 2 ^ 32) es → AllByRecursion (λ size. size < 2 ^ 32) (sizes_of es)
sizes-fit [] h = tt
sizes-fit (e ∷ es) h = (h.0, sizes-fit es h.1)

readable : (head : Head) (es : List Extent) → IsHead head → length es ≤ MAX_SAMPLES → AllByRecursion (λ (e : Extent). e.at < 2 ^ 62) es → AllByRecursion (λ (e : Extent). e.size < 2 ^ 32) es
    → IsReadable (frames_trak head es) (kind_of head) head.width head.height (pixel_bits head.alpha)
readable head es is few close sized =
    let t = frames_trak head es in
    let ss = written_samples es head.den in
    let can = trak_can head es few in
    let long : length ss ≤ MAX_SAMPLES = omega (arith, few, length-map es (λ (e : Extent). (let s : Sample = record { at = e.at; size = e.size; duration = head.den; description = 1 } in s))) in
    let lone = lone_told t ss (has-samples head es) is.some_num long can.few_times (All-from_recursion (λ (s : Sample). s.at < 2 ^ 62) ss (closes es head.den close)) in
    let times = each-run (λ (r : ℕ × ℕ). (r.0 < 2 ^ 32) × (r.1 < 2 ^ 32)) (length es == 0) (length es, head.den) (omega (arith, few), omega (arith, is.den)) in
    let runs = each-run RunFits (length es == 0) (1, 1, 1) (omega arith, omega arith, omega arith) in
    record {
      media = refl;
      prores = prores (is_422 head);
      wide = omega (arith, is.columns);
      high = omega (arith, is.rows);
      written = can;
      timescale = omega (arith, is.num);
      common = omega arith;
      sizes = All-from_recursion (λ size. size < 2 ^ 32) t.sizes (sizes-fit es sized);
      times = All-from_recursion (λ (r : ℕ × ℕ). (r.0 < 2 ^ 32) × (r.1 < 2 ^ 32)) t.stts times;
      runs = All-from_recursion RunFits t.stsc runs;
      tables = lone.tables;
      in_order = lone.in_order;
    }

-- ---- the movie

tables-same : (head : Head) (es : List Extent) → tables_of (frames_trak head es) ≡ written_tables es head.den head.num
tables-same head [] = refl
tables-same head (e ∷ es) = rw (is-not-none (length es)) refl

movie-is : (head : Head) (frames : List (List ℕ)) → movie_bytes head frames ≡ traks_bytes frames head.num (duration_of head (extents (map length frames))) (frames_trak head (extents (map length frames)) ∷ [])
unfolding moov_bytes
movie-is head frames = refl

frames-fit : (frames : List (List ℕ)) → AllByRecursion (λ frame. length frame ≤ 4294967286) frames → AllByRecursion (λ frame. length frame + 8 < 2 ^ 32) frames
frames-fit [] h = tt
frames-fit (frame ∷ frames) h = (omega (arith, h.0), frames-fit frames h.1)

pub movie_read : (head : Head) (frames : List (List ℕ)) → IsHead head → length frames ≤ MAX_SAMPLES → All (λ frame. length frame ≤ 4294967286) frames → movie_in (movie_bytes head frames) ≡ Ok (written_movie head frames)
movie_read head frames is few small =
    let each = recursion_from_All (λ (frame : List ℕ). length frame ≤ 4294967286) frames small in
    let sizes = map length frames in
    let es = extents sizes in
    let t = frames_trak head es in
    let many : length sizes ≡ length frames = length-map frames (λ (frame : List ℕ). length frame) in
    let all : length es ≤ MAX_SAMPLES = omega (arith, length-extents sizes, many, few) in
    let close = extents-near 20 sizes (sizes-small frames each) (omega (arith, many, few)) in
    let r = readable head es is all close (extents-sized 20 sizes (sizes-small frames each)) in
    let fit = All-from_recursion (λ (frame : List ℕ). length frame + 8 < 2 ^ 32) frames (frames-fit frames each) in
    ap movie_in (movie-is head frames)
    ∙ traks_read frames head.num (duration_of head es) t [] (kind_of head) head.width head.height (pixel_bits head.alpha) fit r (All-from_recursion IsTrak [] tt) (All-from_recursion (λ (o : TrakValues). HasKind o.media) [] tt) (omega arith)
    ∙ ap (λ (T : Tables). (let m : Movie = record { number = 1; kind = kind_of head; width = head.width; height = head.height; tables = T } in Ok m)) (tables-same head es)

-- ---- its samples

one-answer : {A E : Type 0} (r : Result A E) (x y : A) → r ≡ Ok x → r ≡ Ok y → x ≡ y
one-answer r x y a b = cc

pub samples_read : (head : Head) (frames : List (List ℕ)) (m : Movie) → IsHead head → length frames ≤ MAX_SAMPLES → All (λ frame. length frame ≤ 4294967286) frames
    → movie_in (movie_bytes head frames) ≡ Ok m → samples m.tables ≡ written_samples (extents (map length frames)) head.den
samples_read head frames m is few small h =
    let same : m ≡ written_movie head frames = one-answer (movie_in (movie_bytes head frames)) m (written_movie head frames) h (movie_read head frames is few small) in
    ap (λ (m : Movie). samples m.tables) same ∙ written_given (extents (map length frames)) head.den head.num

bytes-of : (file : List ℕ) (es : List Extent) (duration : ℕ) → map (λ (s : Sample). bytes_in s.size file s.at) (written_samples es duration) ≡ map (λ (e : Extent). bytes_in e.size file e.at) es
bytes-of file [] duration = refl
bytes-of file (e ∷ es) duration = ap (λ l. bytes_in e.size file e.at ∷ l) (bytes-of file es duration)

pub frames_read : (head : Head) (frames : List (List ℕ)) (m : Movie) → IsHead head → length frames ≤ MAX_SAMPLES → All (λ frame. length frame ≤ 4294967286) frames
    → movie_in (movie_bytes head frames) ≡ Ok m → map (λ (s : Sample). bytes_in s.size (movie_bytes head frames) s.at) (samples m.tables) ≡ frames
frames_read head frames m is few small h =
    let file = movie_bytes head frames in
    ap (map (λ (s : Sample). bytes_in s.size file s.at)) (samples_read head frames m is few small h)
    ∙ bytes-of file (extents (map length frames)) head.den
    ∙ frames_lie head frames
