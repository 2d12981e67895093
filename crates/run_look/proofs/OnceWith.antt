-- If checking a proof with a movie and pictures is done, it ends in no other way.
use Rattle.std.proofs.Common.{◌≡◌, ℕ, zero, suc, ◌+◌, ◌*◌, ◌/◌, inl, inr, List, length, map, take, drop, Option, None, Some, Result, Ok, Err, Bool, true, false, ap, sym, subst, ◌∙◌}
use Rattle.std.specs.Prelude.{◌==◌}
use Rattle.std.specs.List.{flat_map, range_with_len}
use Rattle.pw_outside.specs.Reading.{Fault, Rest, bad}
use Rattle.pw_outside.proofs.Results.{none_not_some}
use Rattle.pw_planes.specs.declared.picture.Picture.{Picture}
use Rattle.pic_y4m.specs.declared.fault.PictureKind.{PictureKind}
use Rattle.pic_y4m.specs.declared.head.Head.{Head}
use Rattle.pic_y4m.specs.Frames.{Pictures}
use Rattle.pic_raw.specs.Any.{pictures_of}
use Rattle.pr_geom.specs.declared.layout.Layout.{Layout}
use Rattle.pr_geom.specs.Layout.{IsLayoutOf, slices_of}
use Rattle.pr_geom.specs.Slices.{pictures_of as pictures_in, macroblocks, picture_slices}
use Rattle.pr_head.specs.declared.frame.FrameHeader.{FrameHeader}
use Rattle.pw_planes.specs.declared.kinds.Chroma.{Chroma}
use Rattle.pw_planes.specs.declared.kinds.Interlace.{Interlace}
use Rattle.pr_head.specs.declared.fault.FrameKind.{FrameKind}
use Rattle.pr_frame.specs.declared.coded.CodedFrame.{CodedFrame}
use Rattle.pr_frame.specs.Laws.{OneFrame, FrameHasNoFault}
use Rattle.pr_frame.specs.Reading.{frame_fault}
use Rattle.qt_tables.specs.declared.fault.MovieKind.{MovieKind}
use Rattle.qt_tables.specs.declared.runs.Sample.{Sample}
use Rattle.qt_tables.specs.Samples.{samples}
use Rattle.qt_movie.specs.Movie.{Movie, movie_in, span_in}
use Rattle.qt_movie.proofs.Inside.{not_outside}
use Rattle.rate_table.specs.declared.fault.ProofKind.{ProofKind}
use Rattle.rate_build.specs.Coefficients.{frame_coefficients, picture_coefficients, slice_coefficients, coded_pictures, planes_of}
use Rattle.rate_build.specs.Coding.{coded_slices, coded_picture, coded_frame, weights_in}
use Rattle.rate_build.specs.Tables.{entries_of, fixed_bytes}
use Rattle.rate_cert.specs.declared.settings.Settings.{Settings}
use Rattle.rate_cert.specs.Records.{Record}
use Rattle.rate_cert.specs.Head.{head_at}
use Rattle.rate_cert.specs.Files.{Progress, no_records, after, next_at, most_records}
use Rattle.run_look.specs.declared.end.LookEnd.{LookEnd}
use Rattle.run_look.specs.declared.end.LookEnd.TheVariants as ends
use Rattle.run_look.specs.Checking.{frames_in, ended, went, RecordIs, NextIs, RecordsAre, HeadIs}
use Rattle.run_look.specs.Agreeing.{Given, given, weights_of, header_of, coefficients_in, picture_in, sample_in, sample_bytes, IsSampleOf, IsAsSaid, IsPictureOf, SampleAgrees, SampleEnds, PictureAgrees, PictureEnds, AreBeside, nothing_further, form_of, AreHeaded, HasPictures, IsMovie, RecordsWith, ChecksOn, Checks}
use Rattle.run_look.proofs.Once.{fails_none}

-- ---- layouts of the same settings have the same parts

module _ (l m : Layout) (w h n : ℕ) (mode : Interlace) (format : Chroma) (a : IsLayoutOf l w h n mode format) (b : IsLayoutOf m w h n mode format) where
  width : l.width ≡ m.width
  width = a.width ∙ sym b.width

  height : l.height ≡ m.height
  height = a.height ∙ sym b.height

  log2 : l.log2 ≡ m.log2
  log2 = a.log2 ∙ sym b.log2

  interlace : l.interlace ≡ m.interlace
  interlace = a.interlace ∙ sym b.interlace

  chroma : l.chroma ≡ m.chroma
  chroma = a.chroma ∙ sym b.chroma

  slices_same : slices_of l ≡ slices_of m
  slices_same = λ i. picture_slices (macroblocks (width i)) (macroblocks (height i / pictures_in (interlace i))) (log2 i)

  fixed_same : fixed_bytes l ≡ fixed_bytes m
  fixed_same = λ i. 156 + pictures_in (interlace i) * (8 + 2 * length (slices_same i))

  coefficients_same : (p : Picture) → frame_coefficients p l ≡ frame_coefficients p m
  unfolding picture_coefficients
  coefficients_same p = λ i. flat_map (λ planes. map (slice_coefficients planes p.depth (chroma i)) (slices_same i)) (coded_pictures (interlace i) (planes_of p))

  picture_same : (i : FrameHeader) (s : Settings) (p : Picture) (choice : List ℕ) → coded_frame (coefficients_in l s p) i choice ≡ coded_frame (coefficients_in m s p) i choice
  picture_same head s p choice =
      let slices = coefficients_same p in
      let one : (j : ℕ) → coded_picture (coefficients_in l s p) (coded_slices (weights_in head) (frame_coefficients p l) choice) j
      ≡ coded_picture (coefficients_in m s p) (coded_slices (weights_in head) (frame_coefficients p m) choice) j
      = λ j i. record { log2 = log2 i; slices = take (length (slices_same i)) (drop (length (slices_same i) * j) (coded_slices (weights_in head) (slices i) choice)) } in
      λ i. record { header = head; pictures = map (λ j. one j i) (range_with_len 0 (pictures_in (interlace i))) }

  pub same_pictures : (s : Settings) (r : Record) (k : ℕ) (f : CodedFrame) (p : Picture) → IsPictureOf l s r k f p → IsPictureOf m s r k f p
  same_pictures s r k f p is = record {
    fixed = is.fixed ∙ ap (λ x. frames_in s r * x) fixed_same;
    slices = is.slices ∙ ap (map (entries_of s.interlace s.alpha (weights_of s) s.lo s.hi)) (coefficients_same p);
    part = is.part;
    said = is.said;
    coded = is.coded ∙ picture_same (header_of s) s p is.part;
  }

-- ---- the samples and the pictures of a record

same_sample : (o : Option Sample) (x y : Sample) → o ≡ Some x → o ≡ Some y → x ≡ y
same_sample o x y a b = cc

wanting : (o : Result (Option Picture) (Fault PictureKind)) (p : Picture) → o ≡ Ok None → o ≡ Ok (Some p) → ⊥
wanting o p a b = cc

faulty : (o : Result (Option Picture) (Fault PictureKind)) (kind : PictureKind) (place : ℕ) (p : Picture) → o ≡ bad kind place → o ≡ Ok (Some p) → ⊥
faulty o kind place p a b = cc

module _ (fine : FrameHasNoFault) (one : OneFrame) (g : Given) (s : Settings) (r : Record) (first : ℕ) where
  sample_stays : (k : ℕ) (end : LookEnd) → SampleAgrees g s r first k → SampleEnds g s r first k end → ⊥
  sample_stays k ends.Done a e = e
  sample_stays k ends.NoMemory a e = e
  sample_stays k ends.ReadFault a e = e
  sample_stays k ends.WriteFault a e = e
  sample_stays k (ends.BadPictures kind place) a e = e
  sample_stays k (ends.BadMovie kind place) a (x, there, outside) =
      let same = same_sample (sample_in g (first + k)) a.sample x a.there there in
      not_outside g.file a.sample kind place a.of.inside (subst (λ y. span_in g.file y ≡ bad kind place) (sym same) outside)
  sample_stays k (ends.BadFrame number kind place) a (n, x, there, inside, fault) =
      let same = same_sample (sample_in g (first + k)) a.sample x a.there there in
      none_not_some (frame_fault (sample_bytes g.file x)) (record { kind = kind; place = place })
      (fine (sample_bytes g.file x) a.frame (subst (λ y. IsSampleOf g.file y a.frame) same a.of).stands) fault
  sample_stays k (ends.BadProof kind place) a e = e
  sample_stays k (ends.Refused number clause) a (n, c, inl none) = none_not_some (sample_in g (first + k)) a.sample none a.there
  sample_stays k (ends.Refused number clause) a (n, c, inr (x, there, f, of, other)) =
      let same = same_sample (sample_in g (first + k)) a.sample x a.there there in
      let frame : a.frame ≡ f = one (sample_bytes g.file x) a.frame f (subst (λ y. IsSampleOf g.file y a.frame) same a.of).stands of.stands in
      other (subst (λ y. IsAsSaid s r k y.size f) same (subst (λ y. IsAsSaid s r k a.sample.size y) frame a.said))

  module _ (l m : Layout) (al : IsLayoutOf l s.width s.height s.log2 s.interlace s.chroma) (am : IsLayoutOf m s.width s.height s.log2 s.interlace s.chroma) where
    picture_stays : (k : ℕ) (end : LookEnd) → PictureAgrees g m s r first k → PictureEnds g l s r first k end → ⊥
    picture_stays k ends.Done a e = e
    picture_stays k ends.NoMemory a e = e
    picture_stays k ends.ReadFault a e = e
    picture_stays k ends.WriteFault a e = e
    picture_stays k (ends.BadPictures kind place) a e = faulty (picture_in g (first + k)) kind place a.picture e a.there
    picture_stays k (ends.BadMovie kind place) a e = e
    picture_stays k (ends.BadFrame number kind place) a e = e
    picture_stays k (ends.BadProof kind place) a e = e
    picture_stays k (ends.Refused number clause) a (n, c, inl none) = wanting (picture_in g (first + k)) a.picture none a.there
    picture_stays k (ends.Refused number clause) a (n, c, inr (p, there, other)) =
        other (record {
          picture = a.picture;
          there = a.there;
          sample = a.sample;
          sample_there = a.sample_there;
          frame = a.frame;
          of = a.of;
          pictured = same_pictures m l s.width s.height s.log2 s.interlace s.chroma am al s r k a.frame a.picture a.pictured;
        })

    beside_stays : (end : LookEnd) → AreBeside g m s r first tt (went tt) → AreBeside g l s r first tt (ended end) → ⊥
    beside_stays end (samples, pictures) (k, few, inl (before, e)) = sample_stays k end (samples k few) e
    beside_stays end (samples, pictures) (k, few, inr (all, before, e)) = picture_stays k end (pictures k few) e

    ends_undone : AreBeside g m s r first tt (ended ends.Done) → ⊥
    ends_undone (k, few, inl (before, e)) = e
    ends_undone (k, few, inr (all, before, e)) = e

-- ---- the records

module _ (fine : FrameHasNoFault) (one : OneFrame) (g : Given) (s : Settings) (l m : Layout) (al : IsLayoutOf l s.width s.height s.log2 s.interlace s.chroma) (am : IsLayoutOf m s.width s.height s.log2 s.interlace s.chroma) where
  done_record : (frames : ℕ) (e : LookEnd) (r : Record) (First Second : Unit {0} → Type 0) → (First tt → Second tt → e ≡ ends.Done)
      → RecordIs s frames e r (AreBeside g l s r frames tt) First → RecordIs s frames ends.Done r (AreBeside g m s r frames tt) Second → e ≡ ends.Done
  done_record frames e r First Second h a (inl (clause, fails, is)) = absurd cc
  done_record frames e r First Second h a (inr (good, ended f, beside, is)) = absurd (ends_undone fine one g s r frames l m al am (subst (λ x. AreBeside g m s r frames tt (ended x)) (sym is) beside))
  done_record frames e r First Second h (inl (clause, fails, is)) (inr (good, went y, beside, on)) = absurd (fails_none s r clause good fails)
  done_record frames e r First Second h (inr (good', ended f, beside', is)) (inr (good, went y, beside, on)) = absurd (beside_stays fine one g s r frames l m al am f beside beside')
  done_record frames e r First Second h (inr (good', went x, beside', on')) (inr (good, went y, beside, on)) = h on' on

  done_next : (p : Progress) (frames m' n : ℕ) (e : LookEnd) (next : Result (Option Record × Rest) (Fault ProofKind)) (First Second : Record → Rest → Unit {0} → Type 0)
      → ((r : Record) (behind : Rest) → First r behind tt → Second r behind tt → e ≡ ends.Done)
      → NextIs e ((e ≡ nothing_further g frames tt) × (m' ≡ p.count)) (λ r behind. RecordIs s frames e r (AreBeside g l s r frames tt) (First r behind)) next
      → NextIs ends.Done ((ends.Done ≡ nothing_further g frames tt) × (n ≡ p.count)) (λ r behind. RecordIs s frames ends.Done r (AreBeside g m s r frames tt) (Second r behind)) next → e ≡ ends.Done
  done_next p frames m' n e (Err f) First Second h a b = absurd cc
  done_next p frames m' n e (Ok (None, behind)) First Second h a b = a.0 ∙ sym b.0
  done_next p frames m' n e (Ok (Some r, behind)) First Second h a b = done_record frames e r (First r behind) (Second r behind) (h r behind) a b

  done_records : (most format : ℕ) (p : Progress) (frames : ℕ) (rest : Rest) (e : LookEnd) (m' n : ℕ)
      → RecordsAre (AreBeside g l) (nothing_further g) most format s p frames rest tt e m' → RecordsAre (AreBeside g m) (nothing_further g) most format s p frames rest tt ends.Done n → e ≡ ends.Done
  unfolding RecordsAre
  done_records zero format p frames rest e m' n a b = absurd a
  done_records (suc most) format p frames rest e m' n a b =
      done_next p frames m' n e (next_at format p rest)
      (λ r behind more. RecordsAre (AreBeside g l) (nothing_further g) most format s (after s p (Some r)) (frames + frames_in s r) behind more e m')
      (λ r behind more. RecordsAre (AreBeside g m) (nothing_further g) most format s (after s p (Some r)) (frames + frames_in s r) behind more ends.Done n)
      (λ r behind a b. done_records most format (after s p (Some r)) (frames + frames_in s r) behind e m' n a b) a b

-- ---- the whole

module _ (fine : FrameHasNoFault) (one : OneFrame) where
  done_with : (g : Given) (format : ℕ) (s : Settings) (rest : Rest) (e : LookEnd) (m n : ℕ) → RecordsWith g format s rest e m → RecordsWith g format s rest ends.Done n → e ≡ ends.Done
  done_with g format s rest e m n (l, al, a) (k, ak, b) = done_records fine one g s l k al ak (suc most_records) format no_records 0 rest e m n a b

  done_headed : (file : List ℕ) (ss : List Sample) (format : ℕ) (s : Settings) (rest : Rest) (e : LookEnd) (m n : ℕ) (found : Result (Head × Pictures) (Fault PictureKind))
      → AreHeaded s e (λ ps. RecordsWith (given file ss ps) format s rest e m) found → AreHeaded s ends.Done (λ ps. RecordsWith (given file ss ps) format s rest ends.Done n) found → e ≡ ends.Done
  done_headed file ss format s rest e m n (Err f) a b = absurd cc
  done_headed file ss format s rest e m n (Ok (h, ps)) a (inl b) = absurd cc
  done_headed file ss format s rest e m n (Ok (h, ps)) (inl a) (inr b) = absurd (a.0 b.0)
  done_headed file ss format s rest e m n (Ok (h, ps)) (inr a) (inr b) = done_with (given file ss ps) format s rest e m n a.1 b.1

  done_pictures : (file shown : List ℕ) (ss : List Sample) (format : ℕ) (s : Settings) (rest : Rest) (e : LookEnd) (m n : ℕ) (products : Bool)
      → HasPictures s e (AreHeaded s e (λ ps. RecordsWith (given file ss ps) format s rest e m) (pictures_of (form_of s) shown)) products
      → HasPictures s ends.Done (AreHeaded s ends.Done (λ ps. RecordsWith (given file ss ps) format s rest ends.Done n) (pictures_of (form_of s) shown)) products → e ≡ ends.Done
  done_pictures file shown ss format s rest e m n true a b = absurd cc
  done_pictures file shown ss format s rest e m n false a b = done_headed file ss format s rest e m n (pictures_of (form_of s) shown) a b

  done_movie : (file shown : List ℕ) (format : ℕ) (s : Settings) (rest : Rest) (e : LookEnd) (m n : ℕ) (movie : Result Movie (Fault MovieKind))
      → IsMovie e (λ t. HasPictures s e (AreHeaded s e (λ ps. RecordsWith (given file (samples t.tables) ps) format s rest e m) (pictures_of (form_of s) shown)) (s.form == 2)) movie
      → IsMovie ends.Done (λ t. HasPictures s ends.Done (AreHeaded s ends.Done (λ ps. RecordsWith (given file (samples t.tables) ps) format s rest ends.Done n) (pictures_of (form_of s) shown)) (s.form == 2)) movie
      → e ≡ ends.Done
  done_movie file shown format s rest e m n (Err f) a b = absurd cc
  done_movie file shown format s rest e m n (Ok t) a b = done_pictures file shown (samples t.tables) format s rest e m n (s.form == 2) a b

  done_head : (file shown : List ℕ) (e : LookEnd) (m n : ℕ) (head : Result ((ℕ × Settings) × Rest) (Fault ProofKind))
      → HeadIs e (λ head rest. ChecksOn file shown head.0 head.1 rest e m) head → HeadIs ends.Done (λ head rest. ChecksOn file shown head.0 head.1 rest ends.Done n) head → e ≡ ends.Done
  done_head file shown e m n (Err f) a b = absurd cc
  done_head file shown e m n (Ok (head, rest)) a b = done_movie file shown head.0 head.1 rest e m n (movie_in file) a b

  pub done_once : (bytes file shown : List ℕ) (e : LookEnd) (m n : ℕ) → Checks bytes file shown e m → Checks bytes file shown ends.Done n → e ≡ ends.Done
  done_once bytes file shown e m n a b = done_head file shown e m n (head_at (record { place = 0; bytes = bytes })) a b
