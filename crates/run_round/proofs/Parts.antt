-- One frame of a group: the group's record agrees with its sample and its picture.
use Rattle.std.proofs.Common.{◌≡◌, refl, ℕ, zero, suc, ◌+◌, ◌*◌, ◌/◌, ◌<◌, ◌≤◌, List, [], ◌∷◌, ◌++◌, Some, arith, length, map, take, drop, ap, sym, subst, ◌∙◌, mul-div_cancel, append-nil, take-append-drop, length-drop}
use Rattle.std.proofs.lemmas.Slice.Zip.{AllZip-long}
use Rattle.std.proofs.lemmas.List.{map-append}
use Rattle.std.specs.Prelude.{slice_get}
use Rattle.std.specs.List.{flat_map, range_with_len, AllByRecursion, Contains}
use Rattle.std.proofs.Math.Nat.{mul-div_cancel_left}
use Rattle.std.proofs.lemmas.List.{length-map, take-map, drop-map, take_all}
use Rattle.std.proofs.lemmas.List.Elements.{All-map}
use Rattle.pw_planes.specs.declared.kinds.Interlace.{Interlace}
use Rattle.pw_planes.specs.declared.kinds.Interlace.TheVariants.{Progressive, TopFirst, BottomFirst}
use Rattle.pw_planes.specs.declared.picture.Picture.{Picture}
use Rattle.pr_geom.specs.Layout.{slices_of}
use Rattle.pr_geom.specs.Slices.{pictures_of}
use Rattle.pr_quant.specs.declared.weights.Weights.{Weights}
use Rattle.pr_head.specs.declared.frame.FrameHeader.{FrameHeader}
use Rattle.pr_frame.specs.declared.coded.CodedSlice.{CodedSlice}
use Rattle.pr_frame.specs.declared.coded.CodedPicture.{CodedPicture}
use Rattle.pr_frame.specs.declared.coded.CodedFrame.{CodedFrame}
use Rattle.pr_frame.specs.Laws.{WrittenStands, WrittenHasLength}
use Rattle.pr_frame.specs.Written.{coded_bytes}
use Rattle.rate_table.specs.declared.entry.Entry.{Entry}
use Rattle.rate_table.specs.Table.{IsTable, IsChoice, size_of, indices}
use Rattle.rate_build.specs.declared.slices.SliceCoefficients.{SliceCoefficients}
use Rattle.rate_build.specs.Coefficients.{FrameCoefficients, frame_coefficients}
use Rattle.rate_build.specs.Coding.{coded_slices, coded_picture, coded_frame, weights_in}
use Rattle.rate_build.specs.Tables.{entries_of, fixed_bytes}
use Rattle.rate_build.specs.Groups.{coded_frames}
use Rattle.rate_build.specs.Laws.{FrameHasTableSize}
use Rattle.rate_build.proofs.Whole.{slices_number}
use Rattle.rate_cert.specs.declared.settings.Settings.{Settings}
use Rattle.rate_cert.specs.Settings as cert
use Rattle.rate_cert.specs.Records.{Record, IsGood}
use Rattle.run_encode.specs.declared.job.Job.{Job}
use Rattle.run_encode.specs.Groups.{IsFrameOf, IsJob, settings_of, header_in, coefficients_in, frame_slices, slice_tables, table_in}
use Rattle.run_encode.specs.Encoding.{Group, record_in}
use Rattle.run_encode.proofs.Framed.{FrameIsReady, one-size}
use Rattle.run_encode.proofs.Grouped.{table-slices, table-fixed, table-number}
use Rattle.run_encode.proofs.Layouts.{slices-same}
use Rattle.run_encode.proofs.Shares.{slices-are}
use Rattle.run_look.specs.Checking.{frames_in}
use Rattle.run_look.specs.Agreeing.{part_of, slices_in, indices_of, indices_in, IsAsSaid, IsPictureOf}
use Rattle.run_look.proofs.Alike.{coded_number}
use Rattle.pw_outside.proofs.Lists.{zip-take, zip-drop}
use Rattle.run_round.proofs.Beside.{get-mapped, all-get, part-first, part-next, part-of-pieces}

-- ---- the coded frame at an index

pub frame-at : (h : FrameHeader) (n : ℕ) (cs : List FrameCoefficients) (choice : List ℕ) (k : ℕ) (c : FrameCoefficients) → slice_get cs k ≡ Some c
    → slice_get (coded_frames h n cs choice) k ≡ Some (coded_frame c h (part_of n choice k))
frame-at h n [] choice k c e = absurd cc
frame-at h n (d ∷ cs) choice zero c e =
    let same : d ≡ c = cc in
    (λ i. Some (coded_frame (same i) h (take n choice))) ∙ ap (λ l. Some (coded_frame c h (take n l))) (sym (part-first n choice))
frame-at h n (d ∷ cs) choice (suc k) c e = frame-at h n cs (drop n choice) k c e ∙ ap (λ l. Some (coded_frame c h (take n l))) (sym (part-next n k choice))

-- ---- the indices of a coded frame

coded-indices : (w : Weights) (slices : List SliceCoefficients) (choice : List ℕ) → length choice ≡ length slices → map (λ (x : CodedSlice). x.index) (coded_slices w slices choice) ≡ choice
coded-indices w [] [] e = refl
coded-indices w [] (index ∷ choice) e = absurd (omega (arith, e))
coded-indices w (s ∷ slices) [] e = absurd (omega (arith, e))
coded-indices w (s ∷ slices) (index ∷ choice) e = ap (λ l. index ∷ l) (coded-indices w slices choice (omega (arith, e)))

abbrev index-of : CodedSlice → ℕ
index-of x = x.index

-- one part, and two parts
one-part : (n : ℕ) (slices : List CodedSlice) → length slices ≡ 1 * n → map index-of (take n (drop (n * 0) slices)) ++ [] ≡ map index-of slices
one-part n slices e = append-nil (map index-of (take n (drop (n * 0) slices))) ∙ ap (map index-of) (ap (take n) (part-first n slices) ∙ take_all n slices (omega (arith, e)))

two-parts : (n : ℕ) (slices : List CodedSlice) → length slices ≡ 2 * n
    → map index-of (take n (drop (n * 0) slices)) ++ (map index-of (take n (drop (n * 1) slices)) ++ []) ≡ map index-of slices
two-parts n slices e =
    let one : n * 1 ≡ n = omega arith in
    let rest = drop n slices in
    let few : length rest ≤ n = omega (arith, e, length-drop n slices) in
    ap (λ l. map index-of (take n l) ++ (map index-of (take n (drop (n * 1) slices)) ++ [])) (part-first n slices)
    ∙ ap (λ l. map index-of (take n slices) ++ l) (append-nil (map index-of (take n (drop (n * 1) slices))) ∙ ap (λ m. map index-of (take n (drop m slices))) one ∙ ap (map index-of) (take_all n rest few))
    ∙ sym (map-append index-of (take n slices) rest) ∙ ap (map index-of) (take-append-drop n slices)

all-parts : (c : FrameCoefficients) (mode : Interlace) (slices : List CodedSlice) → length slices ≡ pictures_of mode * length (slices_of c.layout)
    → flat_map indices_of (map (coded_picture c slices) (range_with_len 0 (pictures_of mode))) ≡ map index-of slices
all-parts c Progressive slices e = one-part (length (slices_of c.layout)) slices e
all-parts c TopFirst slices e = two-parts (length (slices_of c.layout)) slices e
all-parts c BottomFirst slices e = two-parts (length (slices_of c.layout)) slices e

-- ---- a group that is ready to be written

pub record IsReadyGroup (j : Job) (g : Group) : Type 0 where
  pub frames : AllByRecursion (IsFrameOf j) (map (coefficients_in j) g.pictures)
  pub ready : AllByRecursion (FrameIsReady j) (map (coefficients_in j) g.pictures)
  pub choice : IsChoice (table_in j g.pictures).slices g.choice
  pub some : 1 ≤ length g.pictures
  pub table : IsTable (table_in j g.pictures)
  pub good : IsGood (settings_of j) (record_in j g)

positive : (a b n : ℕ) → n ≡ a * b → 1 ≤ n → 0 < b
positive a zero n e h = let z : a * 0 ≡ 0 = omega arith in absurd (omega (arith, e, z, h))
positive a (suc b) n e h = omega arith

long-pieces : (j : Job) (n : ℕ) → n ≡ frame_slices j → (cs : List FrameCoefficients) → AllByRecursion (IsFrameOf j) cs → AllByRecursion (λ c. length (slice_tables j c) ≡ n) cs
long-pieces j n e [] h = tt
long-pieces j n e (c ∷ cs) h = (slices-are j c h.0 ∙ sym e, long-pieces j n e cs h.1)

module _ (frame-size : FrameHasTableSize) (frame-length : WrittenHasLength) (frame-stands : WrittenStands) (j : Job) (is : IsJob j) (g : Group) (fit : IsReadyGroup j g) where
  abbrev cs : List FrameCoefficients
  cs = map (coefficients_in j) g.pictures

  abbrev s : Settings
  s = settings_of j

  abbrev r : Record
  r = record_in j g

  -- the number of slices in a frame
  abbrev n : ℕ
  n = cert.frame_slices (settings_of j)

  same : n ≡ frame_slices j
  same = slices-same j is

  number : length cs ≡ length g.pictures
  number = length-map g.pictures (coefficients_in j)

  all-slices : length (table_in j g.pictures).slices ≡ length g.pictures * n
  all-slices = table-number j cs fit.frames ∙ (λ i. number i * sym same i)

  some-slices : 0 < n
  some-slices = positive (length g.pictures) n (length (table_in j g.pictures).slices) all-slices fit.table.some

  -- the number of frames of the record
  pub frames-number : frames_in s r ≡ length g.pictures
  frames-number = ap (λ m. m / n) all-slices ∙ mul-div_cancel (length g.pictures) {n = n} some-slices

  fixed-is : (table_in j g.pictures).fixed ≡ length g.pictures * fixed_bytes j.layout
  fixed-is = table-fixed j cs fit.frames ∙ ap (λ m. m * fixed_bytes j.layout) number

  share-is : (table_in j g.pictures).fixed / frames_in s r ≡ fixed_bytes j.layout
  share-is =
      let some : 0 < length g.pictures = fit.some in
      (λ i. fixed-is i / frames-number i) ∙ mul-div_cancel_left (fixed_bytes j.layout) {n = length g.pictures} some

  module _ (k : ℕ) (p : Picture) (there : slice_get g.pictures k ≡ Some p) where
    abbrev c : FrameCoefficients
    c = coefficients_in j p

    there-too : slice_get cs k ≡ Some c
    there-too = get-mapped (coefficients_in j) g.pictures k p there

    of : IsFrameOf j c
    of = all-get (IsFrameOf j) cs k c fit.frames there-too

    ready : FrameIsReady j c
    ready = all-get (FrameIsReady j) cs k c fit.ready there-too

    -- the frame's slices, its entries and its indices
    slices-here : slices_in s r k ≡ slice_tables j c
    slices-here = ap (λ l. take n (drop (n * k) l)) (table-slices j cs) ∙ part-of-pieces (slice_tables j) n cs k c (long-pieces j n same cs fit.frames) there-too

    abbrev entries : List Entry
    entries = part_of n g.choice k

    abbrev pub part : List ℕ
    part = part_of n (indices g.choice) k

    chosen : IsChoice (slices_in s r k) entries
    chosen = zip-take Contains n (drop (n * k) (table_in j g.pictures).slices) (drop (n * k) g.choice) (zip-drop Contains (n * k) (table_in j g.pictures).slices g.choice fit.choice)

    chosen-here : IsChoice (slice_tables j c) entries
    chosen-here = subst (λ l. IsChoice l entries) slices-here chosen

    indices-here : indices entries ≡ part
    indices-here = sym (ap (take n) (drop-map (λ (e : Entry). e.index) (n * k) g.choice) ∙ take-map (λ (e : Entry). e.index) n (drop (n * k) g.choice))

    -- the coded frame
    abbrev pub frame : CodedFrame
    frame = coded_frame c (header_in j) part

    size-is : length (coded_bytes frame) ≡ fixed_bytes j.layout + size_of entries
    size-is = ap (λ l. length (coded_bytes (coded_frame c (header_in j) l))) (sym indices-here) ∙ one-size j frame-size frame-length frame-stands c entries of ready chosen-here

    part-number : length part ≡ length c.slices
    part-number =
        ap length (sym indices-here) ∙ length-map entries (λ (e : Entry). e.index) ∙ AllZip-long Contains (slice_tables j c) entries chosen-here
        ∙ length-map c.slices (entries_of c.layout.interlace c.alpha j.weights j.lo j.hi)

    indices-are : indices_in frame ≡ part
    indices-are =
        let slices = coded_slices (weights_in (header_in j)) c.slices part in
        let long = coded_number (weights_in (header_in j)) c.slices part part-number ∙ slices_number c of.of in
        all-parts c c.layout.interlace slices long ∙ coded-indices (weights_in (header_in j)) c.slices part part-number

    -- its sample agrees with the record
    pub as-said : (size : ℕ) → size ≡ length (coded_bytes frame) → IsAsSaid s r k size frame
    as-said size e = record {
      header = refl;
      slicing = All-map (λ (x : CodedPicture). x.log2 ≡ s.log2) (coded_picture c (coded_slices (weights_in (header_in j)) c.slices part)) (range_with_len 0 (pictures_of c.layout.interlace)) (λ i d lt. refl);
      part = part;
      said = refl;
      sized = (entries, chosen, indices-here, e ∙ size-is ∙ ap (λ m. m + size_of entries) (sym share-is));
      indices_are = indices-are;
    }

    -- its picture agrees with the record
    pub is-pictured : IsPictureOf j.layout s r k frame p
    is-pictured = record {
      fixed = fixed-is ∙ ap (λ m. m * fixed_bytes j.layout) (sym frames-number);
      slices = slices-here ∙ ap (λ mode. map (entries_of mode j.head.alpha j.weights j.lo j.hi) (frame_coefficients p j.layout)) is.layout.interlace;
      part = part;
      said = refl;
      coded = refl;
    }

    -- its place among the frames of the group
    pub frame-there : slice_get (coded_frames (header_in j) (frame_slices j) cs (indices g.choice)) k ≡ Some frame
    frame-there = frame-at (header_in j) (frame_slices j) cs (indices g.choice) k c there-too ∙ ap (λ m. Some (coded_frame c (header_in j) (part_of m (indices g.choice) k))) (sym same)
