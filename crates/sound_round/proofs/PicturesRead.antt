-- Facts of a movie that was read from bytes.
use Rattle.std.proofs.Common.{◌≡◌, refl, ℕ, zero, suc, ◌+◌, ◌≤◌, ◌<◌, ◌^◌, Bool, true, false, nat_lt, if◌then◌else◌, List, [], ◌∷◌, length, take, drop, Option, None, Some, Ok, arith, sym, ap, subst, ◌∙◌}
use Rattle.std.specs.Prelude.{not, ◌==◌, ◌&&◌, replicate, slice_get}
use Rattle.std.specs.Int.{w16, w32, from_be_bytes}
use Rattle.std.specs.List.{AllByRecursion, list_all}
use Rattle.std.specs.Option.{option_map}
use Rattle.std.proofs.lemmas.Bool.Decides.{nat_tests}
use Rattle.std.proofs.lemmas.List.{length-replicate}
use Rattle.pw_outside.specs.Reading.{◌>>=◌, AreBytes}
use Rattle.pw_outside.proofs.Steps.{bind-ok, refuse-ok, bytes-drop, bytes-take}
use Rattle.qt_atoms.specs.declared.atom.Atom.{Atom}
use Rattle.qt_atoms.specs.Atoms.{number_in}
use Rattle.qt_atoms.specs.Written.{rows}
use Rattle.qt_tables.specs.declared.fault.MovieKind.{MovieKind}
use Rattle.qt_tables.specs.declared.runs.TimeRun.{TimeRun}
use Rattle.qt_tables.specs.Faults.{Found, some_or}
use Rattle.qt_tables.specs.Samples.{Tables}
use Rattle.qt_tables.specs.Tables.{count_in, timescale_in, sizes_in, time_run_at, times_in, tables_in}
use Rattle.qt_movie.specs.declared.parts.Parts.{Parts}
use Rattle.qt_movie.specs.declared.description.Description.{Description}
use Rattle.qt_movie.specs.Movie.{is_video, is_prores, descriptions_in, VideoTrack, prores_track, track_in, or_none, or_else, first_track, taken_in, Movie, movie_in}

-- ---- results

abbrev ok : {A : Type 0} → A → Found A
ok x = Ok x

abbrev some : {A : Type 0} → A → Option A
some x = Some x

ok-both : {A : Type 0} (x y : A) → ok x ≡ ok y → x ≡ y
ok-both x y e = cc

some-both : {A : Type 0} (x y : A) → some x ≡ some y → x ≡ y
some-both x y e = cc

both-true : (a b : Bool) → (a && b) ≡ true → (a ≡ true) × (b ≡ true)
both-true true b h = (refl, h)
both-true false b h = absurd cc

some-found : {A : Type 0} (found : Option A) (kind : MovieKind) (place : ℕ) (x : A) → some_or found kind place ≡ Ok x → found ≡ Some x
some-found None kind place x e = absurd cc
some-found (Some y) kind place x e = ap Some (ok-both y x e)

not-none : {A B : Type 0} (found : Option A) (f : A → Found (Option B)) (y : B) → or_none found f ≡ Ok (Some y) → (x : A) × (found ≡ Some x) × (f x ≡ Ok (Some y))
not-none None f y e = absurd cc
not-none (Some x) f y e = (x, refl, e)

not-passed : {B : Type 0} (b : Bool) (r : Found (Option B)) (y : B) → (if b then Ok None else r) ≡ Ok (Some y) → r ≡ Ok (Some y)
not-passed true r y e = absurd cc
not-passed false r y e = e

-- ---- numbers

below16 : (bytes : List ℕ) → AreBytes bytes → from_be_bytes w16 bytes < 2 ^ 16
below16 bytes h = omega (arith, h 0, h 1)

below32 : (bytes : List ℕ) → AreBytes bytes → from_be_bytes w32 bytes < 2 ^ 32
below32 bytes h = omega (arith, h 0, h 1, h 2, h 3)

short-below : (file : List ℕ) (place : ℕ) → AreBytes file → number_in w16 file place < 2 ^ 16
short-below file place h = below16 (take 2 (drop place file)) (bytes-take 2 (drop place file) (bytes-drop place file h))

number-below : (file : List ℕ) (place : ℕ) → AreBytes file → number_in w32 file place < 2 ^ 32
number-below file place h = below32 (take 4 (drop place file)) (bytes-take 4 (drop place file) (bytes-drop place file h))

-- ---- the track

first-prores : (ds : List Description) (d : Description) → list_all (λ (d : Description). is_prores d.kind) ds ≡ true → slice_get ds 0 ≡ Some d → is_prores d.kind ≡ true
first-prores [] d h e = absurd cc
first-prores (x ∷ xs) d h e =
    let same : x ≡ d = some-both x d e in
    ap (λ (y : Description). is_prores y.kind) (sym same) ∙ (both-true (is_prores x.kind) (list_all (λ (d : Description). is_prores d.kind) xs) h).0

abbrev with_first : (number : ℕ) → Parts → List Description → Description → VideoTrack
with_first number parts ds first = record { number = number; parts = parts; first = first; descriptions = ds }

track-of : (b : Bool) (o : Option Description) (number : ℕ) (parts : Parts) (ds : List Description) (t : VideoTrack)
    → (if b then option_map (λ first. with_first number parts ds first) o else None) ≡ Some t → (b ≡ true) × (o ≡ Some t.first)
track-of true None number parts ds t e = absurd cc
track-of true (Some d) number parts ds t e = (refl, ap (λ (x : Option VideoTrack). option_map (λ v. v.first) x) e)
track-of false o number parts ds t e = absurd cc

prores-first : (number : ℕ) (parts : Parts) (ds : List Description) (t : VideoTrack) → prores_track number parts ds ≡ Some t → is_prores t.first.kind ≡ true
prores-first number parts ds t e =
    let h = track-of (list_all (λ (d : Description). is_prores d.kind) ds) (slice_get ds 0) number parts ds t e in
    first-prores ds t.first h.0 h.1

parts-prores : (file : List ℕ) (number : ℕ) (found : Option Parts) (t : VideoTrack)
    → or_none found (λ (parts : Parts). if not (is_video file parts.hdlr) then Ok None else descriptions_in file parts.stsd >>= λ ds. Ok (prores_track number parts ds)) ≡ Ok (Some t) → is_prores t.first.kind ≡ true
parts-prores file number None t e = absurd cc
parts-prores file number (Some parts) t e =
    let e1 = not-passed (not (is_video file parts.hdlr)) (descriptions_in file parts.stsd >>= λ ds. Ok (prores_track number parts ds)) t e in
    let e2 = bind-ok (descriptions_in file parts.stsd) (λ ds. Ok (prores_track number parts ds)) e1 in
    prores-first number parts e2.0 t (ok-both (prores_track number parts e2.0) (some t) e2.2)

track-prores : (file : List ℕ) (number : ℕ) (trak : Atom) (t : VideoTrack) → track_in file number trak ≡ Ok (Some t) → is_prores t.first.kind ≡ true
unfolding track_in
track-prores file number trak t e = let e1 = bind-ok _ _ e in parts-prores file number e1.0 t e1.2

-- one of two tracks is taken
one-taken : (first others : Found (Option VideoTrack)) (here : Option VideoTrack) (t : VideoTrack) → first ≡ Ok here → or_else here others ≡ Ok (Some t)
    → ((x : VideoTrack) → first ≡ Ok (Some x) → is_prores x.first.kind ≡ true) → ((x : VideoTrack) → others ≡ Ok (Some x) → is_prores x.first.kind ≡ true) → is_prores t.first.kind ≡ true
one-taken first others None t e h f g = g t h
one-taken first others (Some x) t e h f g = let same : some x ≡ some t = ok-both (some x) (some t) h in ap (λ (y : VideoTrack). is_prores y.first.kind) (sym (some-both x t same)) ∙ f x e

first-track-prores : (file : List ℕ) (traks : List Atom) (number : ℕ) (t : VideoTrack) → first_track file traks number ≡ Ok (Some t) → is_prores t.first.kind ≡ true
unfolding first_track
first-track-prores file [] number t e = absurd cc
first-track-prores file (trak ∷ traks) number t e =
    let e1 = bind-ok _ _ e in
    one-taken (track_in file number trak) (first_track file traks (number + 1)) e1.0 t e1.1 e1.2 (λ x h. track-prores file number trak x h) (λ x h. first-track-prores file traks (number + 1) x h)

taken-prores : (file : List ℕ) (t : VideoTrack) → taken_in file ≡ Ok t → is_prores t.first.kind ≡ true
unfolding taken_in
taken-prores file t e =
    let e1 = bind-ok _ _ e in
    let e2 = bind-ok _ _ e1.2 in
    let e3 = bind-ok _ _ e2.2 in
    let e4 = bind-ok _ _ e3.2 in
    let e5 = bind-ok _ _ e4.2 in
    let same = ok-both e4.0 t e5.2 in
    let found = some-found e3.0 _ _ e4.0 e4.1 in
    first-track-prores file _ 1 t (e3.1 ∙ ap Ok (found ∙ ap Some same))

-- ---- its tables

timescale-is : (file : List ℕ) (mdhd : Atom) (n : ℕ) → timescale_in file mdhd ≡ Ok n → (1 ≤ n) × (AreBytes file → n < 2 ^ 32)
unfolding timescale_in
timescale-is file mdhd n e =
    let e1 = bind-ok _ _ e in
    let e2 = bind-ok _ _ e1.2 in
    let e3 = bind-ok _ _ e2.2 in
    let e4 = bind-ok _ _ e3.2 in
    let same = ok-both _ n e4.2 in
    let test : (n == 0) ≡ false = ap (λ (k : ℕ). k == 0) (sym same) ∙ refuse-ok _ _ _ e4.1 in (
      grind (arith, nat_tests, test),
      λ h. subst (λ (k : ℕ). k < 2 ^ 32) same (number-below file _ h),
    )

count-few : (file : List ℕ) (table : Atom) (before step n : ℕ) → count_in file table before step ≡ Ok n → n ≤ 1000000
unfolding count_in
count-few file table before step n e =
    let e1 = bind-ok _ _ e in
    let e2 = bind-ok _ _ e1.2 in
    let e3 = bind-ok _ _ e2.2 in
    let same = ok-both _ n e3.2 in
    let test : nat_lt 1000000 n ≡ false = ap (λ (k : ℕ). nat_lt 1000000 k) (sym same) ∙ refuse-ok _ _ _ e2.1 in
    grind (arith, nat_tests, test)

length-rows : {X : Type 0} (row : ℕ → X) (place step n : ℕ) → length (rows row place step n) ≡ n
length-rows row place step zero = refl
length-rows row place step (suc n) = ap suc (length-rows row (place + step) step n)

length-either : (b : Bool) (row : ℕ → ℕ) (place step common n : ℕ) → length (if b then rows row place step n else replicate n common) ≡ n
length-either true row place step common n = length-rows row place step n
length-either false row place step common n = length-replicate n common

sizes-few : (file : List ℕ) (stsz : Atom) (sizes : List ℕ) → sizes_in file stsz ≡ Ok sizes → length sizes ≤ 1000000
unfolding sizes_in
sizes-few file stsz sizes e =
    let e1 = bind-ok _ _ e in
    let same = ok-both _ sizes e1.2 in
    let common = number_in w32 file (stsz.body + 4) in
    let few = count-few file stsz 8 _ e1.0 e1.1 in
    omega (arith, few, length-either (common == 0) (number_in w32 file) (stsz.body + 12) 4 common e1.0, ap length same)

-- each duration of runs has 32 bits
abbrev pub AreShort : List TimeRun → Type 0
AreShort times = AllByRecursion (λ (r : TimeRun). r.duration < 2 ^ 32) times

rows-short : (file : List ℕ) (place n : ℕ) → AreBytes file → AreShort (rows (time_run_at file) place 8 n)
rows-short file place zero h = tt
rows-short file place (suc n) h = (number-below file (place + 4) h, rows-short file (place + 8) n h)

times-short : (file : List ℕ) (stts : Atom) (times : List TimeRun) → AreBytes file → times_in file stts ≡ Ok times → AreShort times
unfolding times_in
times-short file stts times h e =
    let e1 = bind-ok _ _ e in
    subst AreShort (ok-both _ times e1.2) (rows-short file (stts.body + 8) e1.0 h)

record AreReadTables (file : List ℕ) (t : Tables) : Type 0 where
  timescale : (1 ≤ t.timescale) × (AreBytes file → t.timescale < 2 ^ 32)
  few : length t.sizes ≤ 1000000
  short : AreBytes file → AreShort t.times

tables-are : (file : List ℕ) (stbl mdia : Atom) (t : Tables) → tables_in file stbl mdia ≡ Ok t → AreReadTables file t
unfolding tables_in
tables-are file stbl mdia t e =
    let e1 = bind-ok _ _ e in
    let e2 = bind-ok _ _ e1.2 in
    let e3 = bind-ok _ _ e2.2 in
    let e4 = bind-ok _ _ e3.2 in
    let e5 = bind-ok _ _ e4.2 in
    let e6 = bind-ok _ _ e5.2 in
    let e7 = bind-ok _ _ e6.2 in
    let e8 = bind-ok _ _ e7.2 in
    let e9 = bind-ok _ _ e8.2 in
    let e10 = bind-ok _ _ e9.2 in
    let e11 = bind-ok _ _ e10.2 in
    let e12 = bind-ok _ _ e11.2 in
    let e13 = bind-ok _ _ e12.2 in
    subst (AreReadTables file) (ok-both _ t e13.2) (record { timescale = timescale-is file e1.0 e2.0 e2.1; few = sizes-few file e3.0 e4.0 e4.1; short = λ h. times-short file e5.0 e6.0 h e6.1 })

-- ---- the movie

-- A movie of ProRes pictures whose numbers fit their fields, if the file consists of bytes.
pub record IsReadMovie (file : List ℕ) (m : Movie) : Type 0 where
  pub prores : is_prores m.kind ≡ true
  pub wide : AreBytes file → m.width < 2 ^ 16
  pub high : AreBytes file → m.height < 2 ^ 16
  pub some : 1 ≤ m.tables.timescale
  pub timescale : AreBytes file → m.tables.timescale < 2 ^ 32
  pub few : length m.tables.sizes ≤ 1000000
  pub short : AreBytes file → AreShort m.tables.times

pub read-movie : (file : List ℕ) (m : Movie) → movie_in file ≡ Ok m → IsReadMovie file m
unfolding movie_in
read-movie file m e =
    let e1 = bind-ok _ _ e in
    let e2 = bind-ok _ _ e1.2 in
    let tables = tables-are file _ _ e2.0 e2.1 in
    subst (IsReadMovie file) (ok-both _ m e2.2) (record {
      prores = taken-prores file e1.0 e1.1;
      wide = short-below file (e1.0.first.at + 32);
      high = short-below file (e1.0.first.at + 34);
      some = tables.timescale.0;
      timescale = tables.timescale.1;
      few = tables.few;
      short = tables.short;
    })
