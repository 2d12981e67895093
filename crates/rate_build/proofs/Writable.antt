-- What is coded with one index for each slice can be written.
use Rattle.std.proofs.Common.{◌≡◌, ℕ, zero, suc, ◌+◌, ◌-◌, ◌*◌, ◌/◌, ◌%◌, ◌<◌, ◌≤◌, List, [], ◌∷◌, ◌++◌, length, map, take, drop, get_or, ℤ, refl, sym, ap, ◌∙◌, subst, arith}
use Rattle.std.specs.List.{All, AllZip, Contains, flat_map, range_with_len}
use Rattle.std.proofs.lemmas.List.{length-map}
use Rattle.std.proofs.lemmas.List.Elements.{All-nil, All-cons, All-head, All-tail, All-map, All-take, All-drop, All-contains}
use Rattle.std.proofs.lemmas.List.FromFn.{get_or-map-range_with_len, get_or-range_with_len, length-range_with_len, length-map-range_with_len}
use Rattle.std.proofs.lemmas.Slice.Zip.{AllZip-long}
use Rattle.pw_planes.specs.declared.kinds.AlphaKind.{AlphaKind}
use Rattle.pw_planes.specs.declared.kinds.Interlace.{Interlace}
use Rattle.pw_planes.specs.declared.kinds.Interlace.TheVariants.{Progressive, TopFirst, BottomFirst}
use Rattle.pr_geom.specs.declared.places.SlicePlace.{SlicePlace}
use Rattle.pr_geom.specs.Faults.{IsAllowed, slice_count}
use Rattle.pr_geom.specs.Layout.{slices_of}
use Rattle.pr_geom.specs.Slices.{pictures_of, macroblocks, picture_slices}
use Rattle.pr_quant.specs.Matrices.{IsWeight}
use Rattle.pr_quant.specs.Errors.{multipliers}
use Rattle.pr_quant.specs.declared.weights.Weights.{Weights}
use Rattle.pr_head.specs.declared.frame.FrameHeader.{FrameHeader}
use Rattle.pr_frame.specs.declared.coded.CodedSlice.{CodedSlice}
use Rattle.pr_frame.specs.declared.coded.CodedPicture.{CodedPicture}
use Rattle.pr_frame.specs.Forms.{places_in}
use Rattle.pr_frame.specs.Coded.{IsCodedSlice, AreCodedSlices, IsCodedPicture, IsCodedFrame, IsWritableBlock, IsWritableSlice, IsWritablePicture, IsWritableHeader, IsWritable, HasArrays, HasBlocks, IsBlock as Is64}
use Rattle.pr_frame.specs.Ready.{IsReadyPart}
use Rattle.rate_table.specs.declared.entry.Entry.{Entry}
use Rattle.rate_table.specs.Table.{IsChoice, indices}
use Rattle.rate_table.proofs.Lists.{contains_map}
use Rattle.rate_build.specs.declared.slices.SliceCoefficients.{SliceCoefficients}
use Rattle.rate_build.specs.Measures.{quantised_block, quantised_part, ArePart}
use Rattle.rate_build.specs.Coefficients.{FrameCoefficients, IsSliceAt, AreOfLayout, frame_places}
use Rattle.rate_build.specs.Coding.{coded_slice, coded_slices, coded_picture, coded_frame, weights_in, IsHeaderOf, IsIndex}
use Rattle.rate_build.specs.Tables.{entry_of, entries_of, HasParts}
use Rattle.rate_build.specs.Laws.{IsReady, CodedIsReady, ChoiceHasIndices}
use Rattle.rate_build.proofs.Small.{are_multipliers, quantised_whole}
use Rattle.rate_build.proofs.Whole.{parts_of}
use Rattle.rate_build.proofs.Chosen.{are_coded, blocks_writable}

-- ---- parts of lists beside lists

zip_front : {A B : Type 0} (R : A → B → Type 0) (ps qs : List A) (xs : List B) → AllZip R (ps ++ qs) xs → AllZip R ps (take (length ps) xs)
zip_front R [] qs xs h = tt
zip_front R (p ∷ ps) qs [] h = absurd h
zip_front R (p ∷ ps) qs (x ∷ xs) h = (h.0, zip_front R ps qs xs h.1)

zip_behind : {A B : Type 0} (R : A → B → Type 0) (ps qs : List A) (xs : List B) → AllZip R (ps ++ qs) xs → AllZip R qs (drop (length ps) xs)
zip_behind R [] qs xs h = h
zip_behind R (p ∷ ps) qs [] h = absurd h
zip_behind R (p ∷ ps) qs (x ∷ xs) h = zip_behind R ps qs xs h.1

-- picture k of one or two
first_part : {A B : Type 0} (R : A → B → Type 0) (ps qs : List A) (xs : List B) → AllZip R (ps ++ qs) xs → AllZip R ps (take (length ps) (drop (length ps * 0) xs))
first_part R ps qs xs h =
    let none : 0 ≡ length ps * 0 = omega arith in
    subst (λ k. AllZip R ps (take (length ps) (drop k xs))) none (zip_front R ps qs xs h)

second_part : {A B : Type 0} (R : A → B → Type 0) (ps qs : List A) (xs : List B) → AllZip R (ps ++ (ps ++ qs)) xs → AllZip R ps (take (length ps) (drop (length ps * 1) xs))
second_part R ps qs xs h =
    let one : length ps ≡ length ps * 1 = omega arith in
    subst (λ k. AllZip R ps (take (length ps) (drop k xs))) one (zip_front R ps qs (drop (length ps) xs) (zip_behind R ps (ps ++ qs) xs h))

one_of_two : {A B : Type 0} (R : A → B → Type 0) (ps : List A) (xs : List B) (k : ℕ) → AllZip R (ps ++ (ps ++ [])) xs → k < 2 → AllZip R ps (take (length ps) (drop (length ps * k) xs))
one_of_two R ps xs zero h l = first_part R ps (ps ++ []) xs h
one_of_two R ps xs (suc zero) h l = second_part R ps [] xs h
one_of_two R ps xs (suc (suc k)) h l = absurd (omega arith)

picture_part : {A B : Type 0} (R : A → B → Type 0) (ps : List A) (xs : List B) (mode : Interlace) (k : ℕ)
    → AllZip R (flat_map (λ (picture : ℕ). ps) (range_with_len 0 (pictures_of mode))) xs → k < pictures_of mode → AllZip R ps (take (length ps) (drop (length ps * k) xs))
picture_part R ps xs Progressive zero h l = first_part R ps [] xs h
picture_part R ps xs Progressive (suc k) h l = absurd (omega arith)
picture_part R ps xs TopFirst k h l = one_of_two R ps xs k h l
picture_part R ps xs BottomFirst k h l = one_of_two R ps xs k h l

zip_of_coded : (h : FrameHeader) (places : List SlicePlace) (slices : List CodedSlice) → AreCodedSlices h places slices → AllZip (IsCodedSlice h) places slices
zip_of_coded h [] [] are = tt
zip_of_coded h [] (s ∷ slices) are = absurd are
zip_of_coded h (p ∷ places) [] are = absurd are
zip_of_coded h (p ∷ places) (s ∷ slices) are = (are.0, zip_of_coded h places slices are.1)

coded_of_zip : (h : FrameHeader) (places : List SlicePlace) (slices : List CodedSlice) → AllZip (IsCodedSlice h) places slices → AreCodedSlices h places slices
coded_of_zip h [] [] zip = tt
coded_of_zip h [] (s ∷ slices) zip = absurd zip
coded_of_zip h (p ∷ places) [] zip = absurd zip
coded_of_zip h (p ∷ places) (s ∷ slices) zip = (zip.0, coded_of_zip h places slices zip.1)

-- ---- slices

pub part_writable : (weights : List ℕ) (index : ℕ) (blocks : List (List ℤ)) → length weights ≡ 64 → All IsWeight weights → IsIndex index → ArePart blocks → All IsWritableBlock (quantised_part weights index blocks)
unfolding quantised_part
part_writable weights index blocks whole range is are =
    let ms = multipliers weights index in
    blocks_writable ms (are_multipliers weights index whole range is.least is.most) blocks (map (quantised_block ms) blocks) are.each refl

pub part_ready : (weights : List ℕ) (index : ℕ) (blocks : List (List ℤ)) → length weights ≡ 64 → All IsWeight weights → IsIndex index → ArePart blocks → IsReadyPart (quantised_part weights index blocks)
unfolding quantised_part
part_ready weights index blocks whole range is are =
    let n = length-map blocks (quantised_block (multipliers weights index)) in
    record { some = omega (arith, n, are.some); few = omega (arith, n, are.few); values = part_writable weights index blocks whole range is are }

part_whole : (weights : List ℕ) (index : ℕ) (blocks : List (List ℤ)) → All Is64 (quantised_part weights index blocks)
unfolding quantised_part
part_whole weights index blocks =
    let ms = multipliers weights index in
    All-map Is64 (quantised_block ms) blocks (λ k d l. quantised_whole ms (get_or blocks k d))

slice_writable : (h : FrameHeader) (index : ℕ) (s : SliceCoefficients) → HasArrays h → IsWritableHeader h → IsIndex index → HasParts s → IsWritableSlice (coded_slice (weights_in h) index s)
slice_writable h index s arrays writable is parts = record {
  y = part_writable h.luma index s.y arrays.luma writable.luma is parts.y;
  cb = part_writable h.chroma_weights index s.cb arrays.chroma_weights writable.chroma_weights is parts.cb;
  cr = part_writable h.chroma_weights index s.cr arrays.chroma_weights writable.chroma_weights is parts.cr;
}

slice_whole : (w : Weights) (index : ℕ) (s : SliceCoefficients) → HasBlocks (coded_slice w index s)
slice_whole w index s = record { y = part_whole w.luma index s.y; cb = part_whole w.chroma index s.cb; cr = part_whole w.chroma index s.cr }

slices_writable : (h : FrameHeader) (slices : List SliceCoefficients) (choice : List ℕ) → HasArrays h → IsWritableHeader h → All IsIndex choice → All HasParts slices
    → All IsWritableSlice (coded_slices (weights_in h) slices choice)
slices_writable h [] choice arrays writable each parts = All-nil IsWritableSlice
slices_writable h (s ∷ slices) [] arrays writable each parts = All-nil IsWritableSlice
slices_writable h (s ∷ slices) (i ∷ choice) arrays writable each parts =
    All-cons IsWritableSlice (coded_slice (weights_in h) i s) (coded_slices (weights_in h) slices choice)
    (slice_writable h i s arrays writable (All-head IsIndex i choice each) (All-head HasParts s slices parts))
    (slices_writable h slices choice arrays writable (All-tail IsIndex i choice each) (All-tail HasParts s slices parts))

slices_whole : (w : Weights) (slices : List SliceCoefficients) (choice : List ℕ) → All HasBlocks (coded_slices w slices choice)
slices_whole w [] choice = All-nil HasBlocks
slices_whole w (s ∷ slices) [] = All-nil HasBlocks
slices_whole w (s ∷ slices) (i ∷ choice) = All-cons HasBlocks (coded_slice w i s) (coded_slices w slices choice) (slice_whole w i s) (slices_whole w slices choice)

-- ---- a frame

module _ (c : FrameCoefficients) (h : FrameHeader) (choice : List ℕ) (are : AreOfLayout c) (is : IsHeaderOf c h) (number : length choice ≡ length c.slices) (each : All IsIndex choice) where
  abbrev all : List CodedSlice
  all = coded_slices (weights_in h) c.slices choice

  abbrev count : ℕ
  count = length (slices_of c.layout)

  allowed_here : IsAllowed h.width h.height c.layout.log2 h.interlace
  allowed_here =
      let allowed = c.layout.allowed in
      let whole : h.height % pictures_of h.interlace ≡ c.layout.height % pictures_of c.layout.interlace = λ j. is.height j % pictures_of (is.interlace j) in
      let slices : slice_count h.width h.height c.layout.log2 h.interlace ≡ slice_count c.layout.width c.layout.height c.layout.log2 c.layout.interlace = λ j. slice_count (is.width j) (is.height j) c.layout.log2 (is.interlace j) in
      record {
        some_columns = omega (arith, is.width, allowed.some_columns);
        some_rows = omega (arith, is.height, allowed.some_rows);
        columns = omega (arith, is.width, allowed.columns);
        rows = omega (arith, is.height, allowed.rows);
        size = allowed.size;
        whole = whole ∙ allowed.whole;
        slices = omega (arith, slices, allowed.slices);
      }

  at_places : AllZip (IsSliceAt h.chroma h.alpha) (frame_places c.layout) c.slices
  at_places =
      subst (λ chroma. AllZip (IsSliceAt chroma h.alpha) (frame_places c.layout) c.slices) (sym is.chroma)
      (subst (λ alpha. AllZip (IsSliceAt c.layout.chroma alpha) (frame_places c.layout) c.slices) (sym is.alpha) are)

  slices_coded : AllZip (IsCodedSlice h) (frame_places c.layout) all
  slices_coded = zip_of_coded h (frame_places c.layout) all (are_coded h (frame_places c.layout) c.slices choice at_places number each)

  picture_coded : (k : ℕ) → k < pictures_of c.layout.interlace → IsCodedPicture h (coded_picture c all k)
  picture_coded k l =
      let mine = take count (drop (count * k) all) in
      let zip = picture_part (IsCodedSlice h) (slices_of c.layout) all c.layout.interlace k slices_coded l in
      let places : slices_of c.layout ≡ places_in h c.layout.log2 = sym (λ j. picture_slices (macroblocks (is.width j)) (macroblocks (is.height j / pictures_of (is.interlace j))) c.layout.log2) in
      record {
        layout = allowed_here;
        slices = subst (λ p. AreCodedSlices h p mine) places (coded_of_zip h (slices_of c.layout) mine zip);
      }

  -- what holds of each picture holds of all
  each_picture : (P : CodedPicture → Type 0) → ((k : ℕ) → k < pictures_of c.layout.interlace → P (coded_picture c all k)) → All P (coded_frame c h choice).pictures
  each_picture P one k d l =
      let n = pictures_of c.layout.interlace in
      let f = coded_picture c all in
      let lt : k < n = omega (arith, l, length-map-range_with_len f 0 n) in
      subst P (sym (get_or-map-range_with_len f 0 n k k d lt (omega arith))) (one k lt)

  frame_coded : IsCodedFrame (coded_frame c h choice)
  frame_coded =
      let a = allowed_here in
      record {
        layout = record { some_columns = a.some_columns; some_rows = a.some_rows; columns = a.columns; rows = a.rows; whole = a.whole };
        number = length-map-range_with_len (coded_picture c all) 0 (pictures_of c.layout.interlace) ∙ ap pictures_of (sym is.interlace);
        pictures = each_picture (IsCodedPicture h) picture_coded;
      }

  pub frame_writable : IsWritableHeader h → All IsWritablePicture (coded_frame c h choice).pictures → IsWritable (coded_frame c h choice)
  frame_writable writable values = record { coded = frame_coded; header = writable; values = values }

  part_of : (P : CodedSlice → Type 0) → All P all → (k : ℕ) → All P (coded_picture c all k).slices
  part_of P so k = All-take P count (drop (count * k) all) (All-drop P (count * k) all so)

  pub ready : HasArrays h → IsWritableHeader h → IsReady (coded_frame c h choice)
  ready arrays writable =
      let values = each_picture IsWritablePicture (λ k l. part_of IsWritableSlice (slices_writable h c.slices choice arrays writable each (parts_of _ _ _ _ are)) k) in
      record {
        shape = record {
          header = arrays;
          blocks = each_picture (λ (x : CodedPicture). All HasBlocks x.slices) (λ k l. part_of HasBlocks (slices_whole (weights_in h) c.slices choice) k);
        };
        coded = frame_coded;
        values = values;
        writable = frame_writable writable values;
      }

pub coded_ready : CodedIsReady
coded_ready c h choice are is arrays writable number each = ready c h choice are is number each arrays writable

-- ---- the indices of a choice

abbrev pub InRange : ℕ → ℕ → ℕ → Type 0
InRange lo n i = (lo ≤ i) × (i < lo + n)

pub range_bounds : (lo n : ℕ) → All (InRange lo n) (range_with_len lo n)
range_bounds lo n k d l =
    let h : k < n = omega (arith, l, length-range_with_len lo n) in
    subst (InRange lo n) (sym (get_or-range_with_len lo n k d h)) (omega arith, omega arith)

entry_index : (mode : Interlace) (alpha : AlphaKind) (w : Weights) (lo hi : ℕ) (s : SliceCoefficients) (e : Entry) → 1 ≤ lo → hi ≤ 224 → Contains (entries_of mode alpha w lo hi s) e → IsIndex e.index
unfolding entries_of
entry_index mode alpha w lo hi s e least most h =
    let n = hi + 1 - lo in
    let found = contains_map (entry_of mode alpha w s) (range_with_len lo n) e h in
    let bounds = All-contains (InRange lo n) (range_with_len lo n) found.0 (range_bounds lo n) found.1 in
    let same : found.0 ≡ e.index = ap (λ (x : Entry). x.index) found.2 in
    record { least = omega (arith, same, bounds.0); most = omega (arith, same, bounds.0, bounds.1) }

all_indices : (mode : Interlace) (alpha : AlphaKind) (w : Weights) (lo hi : ℕ) (slices : List SliceCoefficients) (choice : List Entry) → 1 ≤ lo → hi ≤ 224
    → IsChoice (map (entries_of mode alpha w lo hi) slices) choice → All IsIndex (indices choice)
all_indices mode alpha w lo hi [] [] least most h = All-nil IsIndex
all_indices mode alpha w lo hi [] (e ∷ choice) least most h = absurd h
all_indices mode alpha w lo hi (s ∷ slices) [] least most h = absurd h
all_indices mode alpha w lo hi (s ∷ slices) (e ∷ choice) least most h =
    All-cons IsIndex e.index (indices choice) (entry_index mode alpha w lo hi s e least most h.0) (all_indices mode alpha w lo hi slices choice least most h.1)

pub choice_indices : ChoiceHasIndices
choice_indices c w lo hi budget choice least most h =
    let f = entries_of c.layout.interlace c.alpha w lo hi in (
      length-map choice (λ (x : Entry). x.index) ∙ AllZip-long Contains (map f c.slices) choice h ∙ length-map c.slices f,
      all_indices c.layout.interlace c.alpha w lo hi c.slices choice least most h,
    )
