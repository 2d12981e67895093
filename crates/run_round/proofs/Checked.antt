-- The result of encoding passes the check: its proof by itself, and with its movie and the pictures.
use Rattle.std.proofs.Common.{◌≡◌, refl, ℕ, suc, ◌+◌, ◌<◌, inr, Bool, true, false, cond, Option, None, Some, Ok, List, [], length, map, arith, sym, ap, subst, ◌∙◌}
use Rattle.std.specs.Prelude.{◌==◌, is_some, if◌then◌else◌}
use Rattle.std.specs.List.{All}
use Rattle.std.proofs.lemmas.List.{length-map}
use Rattle.pw_outside.specs.Reading.{Rest}
use Rattle.pic_y4m.specs.declared.head.Head.{Head}
use Rattle.pic_y4m.specs.Frames.{Pictures}
use Rattle.pic_raw.specs.Any.{pictures_of, PicturesHaveForm}
use Rattle.pr_quant.specs.Matrices.{NamedWeightsAreInRange}
use Rattle.qt_tables.specs.Samples.{samples}
use Rattle.qt_movie.specs.Movie.{Movie, movie_in}
use Rattle.qt_movie.specs.MovieBytes.{movie_bytes}
use Rattle.qt_movie.specs.Laws.{WrittenSamplesAreRead, written_movie}
use Rattle.rate_cert.specs.declared.settings.Settings.{Settings}
use Rattle.rate_cert.specs.Records.{Record}
use Rattle.rate_cert.specs.Head.{head_at}
use Rattle.rate_cert.specs.Files.{no_records, most_records, proof_bytes, proved}
use Rattle.run_encode.specs.declared.job.Job.{Job}
use Rattle.run_encode.specs.Groups.{IsJob, ArePictures, settings_of, group_count}
use Rattle.run_encode.specs.Outputs.{Lists}
use Rattle.run_encode.specs.Encoding.{Group, IsNarrow, AreFirst, all_frames, record_in}
use Rattle.run_encode.specs.Headline.{Proves}
use Rattle.run_encode.proofs.Below.{LawsOfGroups, LawsOfFiles}
use Rattle.run_encode.proofs.Whole as whole
use Rattle.run_look.specs.declared.end.LookEnd.{LookEnd}
use Rattle.run_look.specs.declared.end.LookEnd.TheVariants as looks
use Rattle.run_look.specs.Checking.{HeadIs, RecordsAre, RecordsAlone, ChecksAlone, Step, Alone, done_at_end}
use Rattle.run_look.specs.Agreeing.{Given, given, Checks, ChecksOn, IsMovie, HasPictures, AreHeaded, RecordsWith, AreBeside, nothing_further, form_of, pictures_head}
use Rattle.run_round.specs.Laws.{frames_in, EncodedIsChecked}
use Rattle.run_round.proofs.Following.{Follow, proved-is, all-follow}
use Rattle.run_round.proofs.Jobs.{raw-head, is-job, are-pictures}
use Rattle.run_round.proofs.Movies.{is-movie, written-samples}
use Rattle.run_round.proofs.Groups.{all-are-ready, all-pictures, few-frames, small-frames, few-records}
use Rattle.run_round.proofs.Agreeing.{alone-follow, all-beside}

-- ---- the format of the pictures

-- The settings state the format of raw pictures, and none for Y4M.
form-is : (raw : Bool) (form : Option Head) (h : Head) → raw ≡ is_some form → ((x : Head) → form ≡ Some x → x ≡ h)
    → (if cond raw 1 0 == 1 then Some h else None) ≡ form
form-is true None h e of = absurd cc
form-is true (Some x) h e of = ap Some (sym (of x refl))
form-is false None h e of = refl
form-is false (Some x) h e of = absurd cc

-- the encoded pictures are pictures of that format
are-no-products : (raw : Bool) (s : Settings) (end : LookEnd) (P : Type 0) → P → HasPictures s end P (cond raw 1 0 == 2)
are-no-products true s end P p = p
are-no-products false s end P p = p

-- ---- the proof and the movie of all groups

module _ (j : Job) (is : IsJob j) (ps : Pictures) (are : ArePictures j.head ps) (b : LawsOfGroups) (f : LawsOfFiles) (samples-read : WrittenSamplesAreRead)
    (coded : List Group) (first : AreFirst j ps coded) (narrow : All (IsNarrow j) coded) (count : length coded ≡ group_count j.group ps) (end : ps.fault ≡ None) where
  abbrev s : Settings
  s = settings_of j

  abbrev records : List Record
  records = map (record_in j) coded

  abbrev proof : List ℕ
  proof = proof_bytes j.format s records

  abbrev file : List ℕ
  file = movie_bytes j.head (all_frames j coded)

  abbrev movie : Movie
  movie = written_movie j.head (all_frames j coded)

  abbrev all : Given
  all = given file (samples movie.tables) ps

  is-proved : proved proof ≡ Ok (record { format = j.format; settings = s; records = records })
  is-proved = subst (Proves j proof) (sym (whole.records j is ps are b coded first)) (whole.whole-proved j is ps are b coded first f narrow)

  number : no_records.count + length records ≡ group_count j.group ps
  number = let n = length-map coded (record_in j) in omega (arith, n, count)

  few : length records < suc most_records
  few = let n = length-map coded (record_in j) in omega (arith, n, few-records j is ps are b coded first)

  -- the records that are read
  read : (Beside : Settings → Record → ℕ → Unit {0} → Step (Unit {0}) → Type 0) (at_end : ℕ → Unit {0} → LookEnd) → Follow Beside at_end s 0 records
      → (rest : Rest) × (head_at (record { place = 0; bytes = proof }) ≡ Ok ((j.format, s), rest))
      × RecordsAre Beside at_end (suc most_records) j.format s no_records 0 rest tt looks.Done (group_count j.group ps)
  read Beside at_end follow =
      let found = proved-is proof (record { format = j.format; settings = s; records = records }) is-proved in
      let rest = found.0 in
      let are = all-follow Beside at_end j.format s (suc most_records) no_records 0 rest records few found.2 follow in
      (rest, found.1, subst (RecordsAre Beside at_end (suc most_records) j.format s no_records 0 rest tt looks.Done) number are)

  -- the proof by itself
  pub alone : ChecksAlone proof looks.Done (group_count j.group ps)
  alone =
      let h = read Alone done_at_end (alone-follow j 0 coded (all-are-ready j is ps are b coded first)) in
      subst (HeadIs looks.Done (λ head rest. RecordsAlone head.0 head.1 rest looks.Done (group_count j.group ps))) (sym h.1) h.2

  -- with its movie and the pictures
  beside : Follow (AreBeside all j.layout) (nothing_further all) s 0 records
  beside =
      let written = written-samples j f.movie_read samples-read f.frames_read coded is.head (whole.each-holds j is ps are b coded first)
      (few-frames j is ps are b coded first) (small-frames j is ps are b coded first) in
      all-beside b.frame_size b.frame_length b.frame_stands j is file (samples movie.tables) ps (frames_in j coded) written [] [] coded refl
      (sym (all-pictures j is ps are b coded first count end)) refl end (all-are-ready j is ps are b coded first)

  is-read : movie_in file ≡ Ok movie
  is-read = is-movie j f.movie_read samples-read f.frames_read coded is.head (whole.each-holds j is ps are b coded first)
      (few-frames j is ps are b coded first) (small-frames j is ps are b coded first)

  pub together : (bytes : List ℕ) (head : Head) → head ≡ pictures_head s → pictures_of (form_of s) bytes ≡ Ok (head, ps) → Checks proof file bytes looks.Done (group_count j.group ps)
  together bytes head same meant =
      let n = group_count j.group ps in
      let h = read (AreBeside all j.layout) (nothing_further all) beside in
      let rest = h.0 in
      let with-all : RecordsWith all j.format s rest looks.Done n = (j.layout, is.layout, h.2) in
      let headed : AreHeaded s looks.Done (λ ps. RecordsWith (given file (samples movie.tables) ps) j.format s rest looks.Done n) (Ok (head, ps)) = inr (same, with-all) in
      let pictured = subst (AreHeaded s looks.Done (λ ps. RecordsWith (given file (samples movie.tables) ps) j.format s rest looks.Done n)) (sym meant) headed in
      let no-products = are-no-products j.raw s looks.Done _ pictured in
      let on : ChecksOn file bytes j.format s rest looks.Done n = subst (IsMovie looks.Done
      (λ m. HasPictures s looks.Done (AreHeaded s looks.Done (λ ps. RecordsWith (given file (samples m.tables) ps) j.format s rest looks.Done n) (pictures_of (form_of s) bytes)) (s.form == 2)))
      (sym is-read) no-products in
      subst (HeadIs looks.Done (λ head rest. ChecksOn file bytes head.0 head.1 rest looks.Done n)) (sym h.1) on

-- ---- the law

pub is-checked : NamedWeightsAreInRange → PicturesHaveForm → LawsOfGroups → LawsOfFiles → WrittenSamplesAreRead → EncodedIsChecked
is-checked named have-form b f samples-read w bytes head ps j lists input e narrow =
    let is = is-job named w bytes head ps j input in
    let are = are-pictures named w bytes head ps j input have-form in
    let ends = e.ends in
    let same : head ≡ pictures_head (settings_of j) = sym input.job.head in
    let raw : (x : Head) → w.raw ≡ Some x → x ≡ pictures_head (settings_of j) = λ x form.
    raw-head x head bytes ps (ap (λ o. pictures_of o bytes) (sym form) ∙ input.meant) ∙ same in
    let form : form_of (settings_of j) ≡ w.raw = form-is j.raw w.raw (pictures_head (settings_of j)) input.job.raw raw in
    let meant : pictures_of (form_of (settings_of j)) bytes ≡ Ok (head, ps) = ap (λ o. pictures_of o bytes) form ∙ input.meant in
    let n = group_count j.group ps in
    subst (λ (l : Lists). Checks l.proof l.movie bytes looks.Done n × ChecksAlone l.proof looks.Done n) (sym ends.2) (
      together j is ps are b f samples-read e.coded e.first narrow ends.0 ends.1 bytes head same meant,
      alone j is ps are b f samples-read e.coded e.first narrow ends.0 ends.1,
    )
