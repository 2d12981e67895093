-- The records of groups, with their samples and their pictures.
use Rattle.std.proofs.Common.{◌≡◌, refl, ℕ, ◌+◌, ◌<◌, ◌≤◌, List, [], ◌∷◌, ◌++◌, None, Some, arith, length, map, ap, sym, subst, ◌∙◌, append_assoc, append-nil, length-append}
use Rattle.std.proofs.lemmas.Slice.Zip.{AllZip-long}
use Rattle.std.specs.Prelude.{slice_get}
use Rattle.std.specs.List.{flat_map, AllByRecursion, AllZip}
use Rattle.std.proofs.lemmas.List.{length-map}
use Rattle.std.proofs.lemmas.Option.{slice_get_past}
use Rattle.pw_planes.specs.declared.picture.Picture.{Picture}
use Rattle.pic_y4m.specs.Frames.{Pictures}
use Rattle.pr_frame.specs.declared.coded.CodedFrame.{CodedFrame}
use Rattle.pr_frame.specs.Laws.{WrittenStands, WrittenHasLength}
use Rattle.pr_frame.specs.Written.{coded_bytes as bytes-of}
use Rattle.qt_tables.specs.declared.runs.Sample.{Sample}
use Rattle.rate_table.specs.Table.{indices}
use Rattle.rate_build.specs.Laws.{FrameHasTableSize}
use Rattle.run_encode.specs.declared.job.Job.{Job}
use Rattle.run_encode.specs.Groups.{IsJob, settings_of, coefficients_in, coded_group}
use Rattle.run_encode.specs.Encoding.{Group, record_in}
use Rattle.run_encode.proofs.Whole.{frames-number}
use Rattle.run_look.specs.declared.end.LookEnd.TheVariants as ends
use Rattle.run_look.specs.Checking.{frames_in as frames_of_record, went, Alone, done_at_end}
use Rattle.run_look.specs.Agreeing.{Given, given, SampleAgrees, PictureAgrees, AreBeside, nothing_further, by_sample, by_picture, picture_or}
use Rattle.run_round.specs.Laws.{frames_in}
use Rattle.run_round.proofs.Beside.{get-behind, get-front, get-within, zip-get}
use Rattle.run_round.proofs.Following.{Follow}
use Rattle.run_round.proofs.Movies.{IsWrittenSample}
use Rattle.run_round.proofs.Parts.{IsReadyGroup, frame, frames-number as record-frames, as-said, is-pictured, frame-there}

-- a part of a list, after `front` items
part-there : {A : Type 0} (front here rest all : List A) (k : ℕ) (x : A) → all ≡ front ++ (here ++ rest) → slice_get here k ≡ Some x → slice_get all (length front + k) ≡ Some x
part-there front here rest all k x e h = ap (λ l. slice_get l (length front + k)) e ∙ get-behind front (here ++ rest) k ∙ get-front here rest k x h

-- ---- a proof by itself

pub alone-follow : (j : Job) (frames : ℕ) (gs : List Group) → AllByRecursion (IsReadyGroup j) gs → Follow Alone done_at_end (settings_of j) frames (map (record_in j) gs)
alone-follow j frames [] h = refl
alone-follow j frames (g ∷ gs) h = (h.0.good, refl, alone-follow j (frames + frames_of_record (settings_of j) (record_in j g)) gs h.1)

-- ---- with a movie and pictures

module _ (frame-size : FrameHasTableSize) (frame-length : WrittenHasLength) (frame-stands : WrittenStands) (j : Job) (is : IsJob j)
    (file : List ℕ) (ss : List Sample) (ps : Pictures) (fs : List CodedFrame) (written : AllZip (IsWrittenSample file) ss fs) where
  abbrev all : Given
  all = given file ss ps

  abbrev coded : Group → List CodedFrame
  coded g = coded_group j (map (coefficients_in j) g.pictures) (indices g.choice)

  -- ---- one group, after pictures and as many frames

  module _ (g : Group) (fit : IsReadyGroup j g) (pictures pictures' : List Picture) (frames frames' : List CodedFrame) (same : length frames ≡ length pictures)
      (pictures-are : ps.pictures ≡ pictures ++ (g.pictures ++ pictures')) (frames-are : fs ≡ frames ++ (coded g ++ frames')) where
    -- frame k of the group is the frame of its sample and of its picture
    frame-agrees : (k : ℕ) (p : Picture) → slice_get g.pictures k ≡ Some p
        → SampleAgrees all (settings_of j) (record_in j g) (length pictures) k × PictureAgrees all j.layout (settings_of j) (record_in j g) (length pictures) k
    frame-agrees k p there =
        let f = frame frame-size frame-length frame-stands j is g fit k p there in
        let f-there : slice_get fs (length pictures + k) ≡ Some f =
        ap (λ n. slice_get fs (n + k)) (sym same) ∙ part-there frames (coded g) frames' fs k f frames-are (frame-there frame-size frame-length frame-stands j is g fit k p there) in
        let p-there : slice_get ps.pictures (length pictures + k) ≡ Some p = part-there pictures g.pictures pictures' ps.pictures k p pictures-are there in
        let x = zip-get (IsWrittenSample file) ss fs (length pictures + k) f written f-there in (
          record { sample = x.0; there = x.1; frame = f; of = x.2.of; said = as-said frame-size frame-length frame-stands j is g fit k p there x.0.size x.2.size },
          record {
            picture = p;
            there = ap (λ o. picture_or o ps.fault) p-there;
            sample = x.0;
            sample_there = x.1;
            frame = f;
            of = x.2.of;
            pictured = is-pictured frame-size frame-length frame-stands j is g fit k p there;
          },
        )

    each-agrees : (k : ℕ) → k < frames_of_record (settings_of j) (record_in j g)
        → SampleAgrees all (settings_of j) (record_in j g) (length pictures) k × PictureAgrees all j.layout (settings_of j) (record_in j g) (length pictures) k
    each-agrees k lt =
        let p = get-within g.pictures k (subst (λ n. k < n) (record-frames frame-size frame-length frame-stands j is g fit) lt) in
        frame-agrees k p.0 p.1

    pub is-beside : AreBeside all j.layout (settings_of j) (record_in j g) (length pictures) tt (went tt)
    is-beside = ((λ k lt. (each-agrees k lt).0), (λ k lt. (each-agrees k lt).1))

  -- ---- all groups

  coded-number : (g : Group) → length (coded g) ≡ length g.pictures
  coded-number g = sym (length-map (coded g) bytes-of) ∙ frames-number j g

  -- after the last group there is no sample and no picture
  none-further : (n : ℕ) → length ss ≤ n → length ps.pictures ≤ n → ps.fault ≡ None → nothing_further all n tt ≡ ends.Done
  none-further n few few' end =
      ap (by_sample all n) (slice_get_past ss n few)
      ∙ ap (by_picture n) (ap (λ o. picture_or o ps.fault) (slice_get_past ps.pictures n few') ∙ ap (picture_or None) end)

  pub all-beside : (pictures : List Picture) (frames : List CodedFrame) (gs : List Group) → length frames ≡ length pictures → ps.pictures ≡ pictures ++ flat_map (λ g. g.pictures) gs
      → fs ≡ frames ++ frames_in j gs → ps.fault ≡ None → AllByRecursion (IsReadyGroup j) gs
      → Follow (AreBeside all j.layout) (nothing_further all) (settings_of j) (length pictures) (map (record_in j) gs)
  all-beside pictures frames [] same pictures-are frames-are end h =
      let n = sym (AllZip-long (IsWrittenSample file) ss fs written) in
      let m : length fs ≡ length frames = ap length (frames-are ∙ append-nil frames) in
      let k : length ps.pictures ≡ length pictures = ap length (pictures-are ∙ append-nil pictures) in
      none-further (length pictures) (omega (arith, n, m, same)) (omega (arith, k)) end
  all-beside pictures frames (g ∷ gs) same pictures-are frames-are end h =
      let pictures' = flat_map (λ g. g.pictures) gs in
      let frames' = frames_in j gs in
      let number : length (coded g) ≡ length g.pictures = coded-number g in
      let more = all-beside (pictures ++ g.pictures) (frames ++ coded g) gs
      (omega (arith, length-append pictures g.pictures, length-append frames (coded g), same, number))
      (pictures-are ∙ sym (append_assoc pictures g.pictures pictures')) (frames-are ∙ sym (append_assoc frames (coded g) frames')) end h.1 in
      let n : length (pictures ++ g.pictures) ≡ length pictures + frames_of_record (settings_of j) (record_in j g) =
      length-append pictures g.pictures ∙ ap (λ m. length pictures + m) (sym (record-frames frame-size frame-length frame-stands j is g h.0)) in (
        h.0.good,
        is-beside g h.0 pictures pictures' frames frames' same pictures-are frames-are,
        subst (λ m. Follow (AreBeside all j.layout) (nothing_further all) (settings_of j) m (map (record_in j) gs)) n more,
      )
