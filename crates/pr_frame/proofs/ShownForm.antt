-- A shown picture has the form that the frame's header says.
use Rattle.std.proofs.Common.{◌≡◌, refl, ℕ, ◌+◌, ◌*◌, ◌/◌, ◌%◌, ◌^◌, ◌<◌, ◌≤◌, List, [], ◌∷◌, ◌++◌, length, get_or, map, ap, sym, ◌∙◌, subst, inl, inr, arith, ℤ, pos, nat_abs, Some, rules}
use Rattle.std.specs.Prelude.{IfSome, is_some}
use Rattle.std.specs.List.{All}
use Rattle.std.specs.Int.{int_max, int_min}
use Rattle.std.proofs.lemmas.Bool.{cases_lt, cond_both}
use Rattle.std.proofs.lemmas.Int.{ints, int_max_is, int_min_is}
use Rattle.std.proofs.lemmas.List.{get_or_past}
use Rattle.std.proofs.lemmas.List.Elements.{All-map}
use Rattle.pr_geom.proofs.SliceLemmas.{pictures_whole, height_small}
use Rattle.pw_planes.specs.declared.kinds.AlphaKind.{AlphaKind}
use Rattle.pw_planes.specs.declared.kinds.AlphaKind.TheVariants.{Absent, Eight, Sixteen}
use Rattle.pw_planes.specs.declared.kinds.Chroma.{Chroma}
use Rattle.pw_planes.specs.declared.kinds.Chroma.TheVariants.{C422, C444}
use Rattle.pw_planes.specs.declared.kinds.Depth.{Depth}
use Rattle.pw_planes.specs.declared.kinds.Depth.TheVariants.{D8, D10, D12}
use Rattle.pw_planes.specs.declared.kinds.Interlace.{Interlace}
use Rattle.pw_planes.specs.declared.kinds.Interlace.TheVariants.{Progressive, TopFirst, BottomFirst}
use Rattle.pw_planes.specs.Plane.{Raster, IsPlane, IsSized, frame_of}
use Rattle.pw_planes.specs.Samples.{sample_bits, chroma_width}
use Rattle.pw_planes.proofs.RowLemmas.{length-raster, All-raster}
use Rattle.pw_planes.proofs.PlaneLemmas.{frame_small}
use Rattle.pr_geom.specs.declared.places.Part.{Part}
use Rattle.pr_geom.specs.declared.places.Part.TheVariants.{Y, Cb, Cr}
use Rattle.pr_geom.specs.declared.places.SlicePlace.{SlicePlace}
use Rattle.pr_geom.specs.Blocks.{blocks_of}
use Rattle.pr_geom.specs.Slices.{pictures_of}
use Rattle.pr_dct.specs.Shown as clipping
use Rattle.pr_head.specs.declared.frame.FrameHeader.{FrameHeader}
use Rattle.pr_head.specs.Header.{HasLayoutSize}
use Rattle.pr_frame.specs.declared.coded.CodedSlice.{CodedSlice}
use Rattle.pr_frame.specs.declared.coded.CodedPicture.{CodedPicture}
use Rattle.pr_frame.specs.declared.coded.CodedFrame.{CodedFrame}
use Rattle.pr_frame.specs.Forms.{has_alpha, places_in, alpha_depth}
use Rattle.pr_frame.specs.Coded.{IsCodedSlice, AreCodedSlices, IsCodedPicture, IsCodedFrame}
use Rattle.pr_frame.specs.Shown.{Placed, has, sample_among, plane_of, products, samples_shown, shown_block, placed, part_of, weights_of, shown_part, value_block, alpha_value, shown_values, all_shown, height_of, width_of, part_plane, alpha_plane, woven, shown_plane, shown_alpha, shown, HasHeaderForm}
use Rattle.pr_dct.specs.Transform.{samples}

-- ---- samples of blocks

clip_below : (low high : ℕ) (u : ℤ) → low ≤ high → nat_abs (int_max (pos low) (int_min u (pos high))) ≤ high
clip_below low high u h = omega (arith, ints, int_min_is u (pos high), int_max_is (pos low) (int_min u (pos high)))

clipped_below : (depth : Depth) (a : ℤ) → nat_abs (clipping.shown depth a) < 2 ^ sample_bits depth
clipped_below D8 a = omega (arith, clip_below 1 254 (clipping.unclipped D8 a) (omega arith))
clipped_below D10 a = omega (arith, clip_below 4 1019 (clipping.unclipped D10 a) (omega arith))
clipped_below D12 a = omega (arith, clip_below 16 4079 (clipping.unclipped D12 a) (omega arith))

pub shown_below : (depth : Depth) (values : List ℤ) → All (λ s. s < 2 ^ sample_bits depth) (samples_shown depth values)
shown_below depth values = All-map (λ s. s < 2 ^ sample_bits depth) (λ a. nat_abs (clipping.shown depth a)) values (λ k d h. clipped_below depth _)

pub block_below : (depth : Depth) (weights : List ℕ) (index : ℕ) (block : List ℤ) → All (λ s. s < 2 ^ sample_bits depth) (shown_block depth weights index block)
unfolding shown_block
block_below depth weights index block = shown_below depth (samples (products weights index block))

small_or_zero : (limit k : ℕ) (xs : List ℕ) → 0 < limit → All (λ s. s < limit) xs → get_or xs k 0 < limit
small_or_zero limit k xs some small = elim (cases_lt k (length xs)) [
  | inl h ↦ small k 0 h
  | inr h ↦ subst (λ s. s < limit) (sym (get_or_past xs k 0 h)) some
]

pub values_below : (place : SlicePlace) (values : List ℕ) (corner : ℕ × ℕ) (limit : ℕ) → 0 < limit → All (λ s. s < limit) values → All (λ s. s < limit) (value_block place values corner)
unfolding value_block
values_below place values corner limit some small =
    All-raster (λ s. s < limit) 8 8 (λ column row. alpha_value place values (corner.0 + column) (corner.1 + row)) (λ column row _ _. small_or_zero limit _ values some small)

-- ---- blocks at their positions

-- the samples of all blocks are below a limit
AreBelow : ℕ → List Placed → Type 0
AreBelow limit [] = Unit {0}
AreBelow limit (b ∷ bs) = All (λ s. s < limit) b.samples × AreBelow limit bs

below_behind : (limit : ℕ) (xs ys : List Placed) → AreBelow limit xs → AreBelow limit ys → AreBelow limit (xs ++ ys)
unfolding AreBelow
below_behind limit [] ys a b = b
below_behind limit (x ∷ xs) ys a b = (a.0, below_behind limit xs ys a.1 b)

below_placed : {X : Type 0} (limit : ℕ) (f : X → List ℕ) → ((x : X) → All (λ s. s < limit) (f x)) → (cs : List (ℕ × ℕ)) (xs : List X) → AreBelow limit (placed cs (map f xs))
unfolding AreBelow
below_placed limit f small [] [] = tt
below_placed limit f small [] (x ∷ xs) = tt
below_placed limit f small (c ∷ cs) [] = tt
below_placed limit f small (c ∷ cs) (x ∷ xs) = (small x, below_placed limit f small cs xs)

below_among : (limit : ℕ) (bs : List Placed) (column row : ℕ) → 0 < limit → AreBelow limit bs → sample_among bs column row < limit
unfolding AreBelow
below_among limit [] column row some ok = some
below_among limit (b ∷ bs) column row some ok =
    cond_both (has b column row) _ _ (λ s. s < limit) (λ _. small_or_zero limit _ b.samples some ok.0) (λ _. below_among limit bs column row some ok.1)

plane_below : (limit w h : ℕ) (bs : List Placed) → 0 < limit → AreBelow limit bs → All (λ s. s < limit) (plane_of w h bs).samples
unfolding plane_of
plane_below limit w h bs some ok = All-raster (λ s. s < limit) w h (sample_among bs) (λ column row _ _. below_among limit bs column row some ok)

none_below : (limit : ℕ) → AreBelow limit []
unfolding AreBelow
none_below limit = tt

below_all : (limit : ℕ) (h : FrameHeader) (f : SlicePlace → CodedSlice → List Placed) → ((place : SlicePlace) (s : CodedSlice) → IsCodedSlice h place s → AreBelow limit (f place s))
    → (places : List SlicePlace) (slices : List CodedSlice) → AreCodedSlices h places slices → AreBelow limit (all_shown f places slices)
below_all limit h f each [] [] ok = none_below limit
below_all limit h f each [] (s ∷ ss) ok = absurd ok
below_all limit h f each (p ∷ ps) [] ok = absurd ok
below_all limit h f each (p ∷ ps) (s ∷ ss) ok = below_behind limit (f p s) (all_shown f ps ss) (each p s ok.0) (below_all limit h f each ps ss ok.1)

some_power : (n : ℕ) → 0 < 2 ^ n
some_power n = search rules

part_below : (h : FrameHeader) (depth : Depth) (part : Part) (x : CodedPicture) → IsCodedPicture h x → All (λ s. s < 2 ^ sample_bits depth) (part_plane h depth part x).samples
unfolding shown_part
part_below h depth part x ok =
    plane_below (2 ^ sample_bits depth) _ _ _ (some_power (sample_bits depth))
    (below_all (2 ^ sample_bits depth) h (shown_part h depth part)
    (λ place s _. below_placed (2 ^ sample_bits depth) (shown_block depth (weights_of h part) s.index) (block_below depth (weights_of h part) s.index) (blocks_of h.chroma part place) (part_of part s))
    (places_in h x.log2) x.slices ok.slices)

alpha_below : (h : FrameHeader) (x : CodedPicture) → IsCodedPicture h x → All (λ s. s < 2 ^ alpha_depth h.alpha) (alpha_plane h x).samples
unfolding shown_values
alpha_below h x ok =
    let limit = 2 ^ alpha_depth h.alpha in
    let some = some_power (alpha_depth h.alpha) in
    plane_below limit _ _ _ some
    (below_all limit h (shown_values h)
    (λ place s c. below_placed limit (value_block place s.alpha) (λ corner. values_below place s.alpha corner limit some c.values) (blocks_of h.chroma Y place) (blocks_of h.chroma Y place))
    (places_in h x.log2) x.slices ok.slices)

-- ---- planes of coded pictures

-- two fields are no higher than the frame
pub fields_fit : (mode : Interlace) (v : ℕ) → (mode ≡ Progressive → ⊥) → v ≤ 4320 → 2 * (v / pictures_of mode) ≤ 4320
fields_fit Progressive v two h = absurd (two refl)
fields_fit TopFirst v two h = omega arith
fields_fit BottomFirst v two h = omega arith

plane_is : (w h : ℕ) (bs : List Placed) → 0 < w → 0 < h → w ≤ 8192 → h ≤ 4320 → IsPlane (plane_of w h bs)
unfolding plane_of
plane_is w h bs a b c d = record { some_columns = a; some_rows = b; columns = c; rows = d; whole = length-raster w h (sample_among bs) }

chroma_some : (chroma : Chroma) (w : ℕ) → 0 < w → (0 < chroma_width chroma w) × (chroma_width chroma w ≤ w)
chroma_some C422 w h = (omega arith, omega arith)
chroma_some C444 w h = (h, omega arith)

pub width_some : (h : FrameHeader) (part : Part) → HasLayoutSize h → (0 < width_of h part) × (width_of h part ≤ h.width)
width_some h Y ok = (ok.some_columns, omega arith)
width_some h Cb ok = chroma_some h.chroma h.width ok.some_columns
width_some h Cr ok = chroma_some h.chroma h.width ok.some_columns

-- ---- planes of the frame

module _ (h : FrameHeader) (ok : HasLayoutSize h) (w : ℕ) (g : CodedPicture → Raster) (some : 0 < w) (few : w ≤ 8192)
    (sized : (x : CodedPicture) → IsSized (g x) w (height_of h)) (is : (x : CodedPicture) → IsPlane (g x)) where
  woven_sized : (mode : Interlace) (xs : List CodedPicture) → mode ≡ h.interlace → length xs ≡ pictures_of mode → IsSized (woven mode (map g xs)) w h.height
  woven_sized Progressive (x ∷ []) e n =
      let half = (sized x).1 ∙ ap (λ m. h.height / pictures_of m) (sym e) in
      ((sized x).0, half ∙ omega arith)
  woven_sized Progressive [] e n = absurd (omega arith)
  woven_sized Progressive (x ∷ y ∷ xs) e n = absurd (omega arith)
  woven_sized TopFirst (x ∷ y ∷ []) e n =
      let whole : h.height % 2 ≡ 0 = ap (λ m. h.height % pictures_of m) e ∙ ok.whole in
      let half = (sized x).1 ∙ ap (λ m. h.height / pictures_of m) (sym e) in
      ((sized x).0, omega arith)
  woven_sized TopFirst [] e n = absurd (omega arith)
  woven_sized TopFirst (x ∷ []) e n = absurd (omega arith)
  woven_sized TopFirst (x ∷ y ∷ z ∷ xs) e n = absurd (omega arith)
  woven_sized BottomFirst (x ∷ y ∷ []) e n =
      let whole : h.height % 2 ≡ 0 = ap (λ m. h.height % pictures_of m) e ∙ ok.whole in
      let half = (sized y).1 ∙ ap (λ m. h.height / pictures_of m) (sym e) in
      ((sized y).0, omega arith)
  woven_sized BottomFirst [] e n = absurd (omega arith)
  woven_sized BottomFirst (x ∷ []) e n = absurd (omega arith)
  woven_sized BottomFirst (x ∷ y ∷ z ∷ xs) e n = absurd (omega arith)

  woven_below : (limit : ℕ) (mode : Interlace) (xs : List CodedPicture) → length xs ≡ pictures_of mode → All (λ x. All (λ s. s < limit) (g x).samples) xs → All (λ s. s < limit) (woven mode (map g xs)).samples
  woven_below limit Progressive (x ∷ []) n small = small 0 x (omega arith)
  woven_below limit Progressive [] n small = absurd (omega arith)
  woven_below limit Progressive (x ∷ y ∷ xs) n small = absurd (omega arith)
  woven_below limit TopFirst (x ∷ y ∷ []) n small = frame_small (g x) (g y) limit (is x) (is y) (small 0 x (omega arith)) (small 1 x (omega arith))
  woven_below limit TopFirst [] n small = absurd (omega arith)
  woven_below limit TopFirst (x ∷ []) n small = absurd (omega arith)
  woven_below limit TopFirst (x ∷ y ∷ z ∷ xs) n small = absurd (omega arith)
  woven_below limit BottomFirst (x ∷ y ∷ []) n small = frame_small (g y) (g x) limit (is y) (is x) (small 1 x (omega arith)) (small 0 x (omega arith))
  woven_below limit BottomFirst [] n small = absurd (omega arith)
  woven_below limit BottomFirst (x ∷ []) n small = absurd (omega arith)
  woven_below limit BottomFirst (x ∷ y ∷ z ∷ xs) n small = absurd (omega arith)

pub plane_sized : (w h : ℕ) (bs : List Placed) → IsSized (plane_of w h bs) w h
unfolding plane_of
plane_sized w h bs = (refl, refl)

some_shown : (f : CodedFrame) (kind : AlphaKind) → (kind ≡ Absent → ⊥) → Some (woven f.header.interlace (map (alpha_plane f.header) f.pictures)) ≡ shown_alpha f kind
some_shown f Absent some = absurd (some refl)
some_shown f Eight some = refl
some_shown f Sixteen some = refl

woven_two : (mode : Interlace) (g : CodedPicture → Raster) (xs : List CodedPicture) (a b : Raster) (p q : CodedPicture) → (mode ≡ Progressive → ⊥) → length xs ≡ pictures_of mode
    → p ≡ get_or xs 0 p → q ≡ get_or xs 1 q → a ≡ g p → b ≡ g q → woven mode (a ∷ b ∷ []) ≡ woven mode (map g xs)
woven_two Progressive g xs a b p q two n hp hq ha hb = absurd (two refl)
woven_two TopFirst g (x ∷ y ∷ []) a b p q two n hp hq ha hb = λ i. frame_of ((ha ∙ ap g hp) i) ((hb ∙ ap g hq) i)
woven_two TopFirst g [] a b p q two n hp hq ha hb = absurd (omega arith)
woven_two TopFirst g (x ∷ []) a b p q two n hp hq ha hb = absurd (omega arith)
woven_two TopFirst g (x ∷ y ∷ z ∷ xs) a b p q two n hp hq ha hb = absurd (omega arith)
woven_two BottomFirst g (x ∷ y ∷ []) a b p q two n hp hq ha hb = λ i. frame_of ((hb ∙ ap g hq) i) ((ha ∙ ap g hp) i)
woven_two BottomFirst g [] a b p q two n hp hq ha hb = absurd (omega arith)
woven_two BottomFirst g (x ∷ []) a b p q two n hp hq ha hb = absurd (omega arith)
woven_two BottomFirst g (x ∷ y ∷ z ∷ xs) a b p q two n hp hq ha hb = absurd (omega arith)

-- the alpha plane of a frame of two fields
pub alpha_of_fields : (f : CodedFrame) (a b c : Raster) (p q : CodedPicture) → (f.header.interlace ≡ Progressive → ⊥) → (f.header.alpha ≡ Absent → ⊥) → length f.pictures ≡ pictures_of f.header.interlace
    → p ≡ get_or f.pictures 0 p → q ≡ get_or f.pictures 1 q → a ≡ alpha_plane f.header p → b ≡ alpha_plane f.header q → c ≡ woven f.header.interlace (a ∷ b ∷ []) → Some c ≡ shown_alpha f f.header.alpha
alpha_of_fields f a b c p q two some n hp hq ha hb hc =
    ap Some (hc ∙ woven_two f.header.interlace (alpha_plane f.header) f.pictures a b p q two n hp hq ha hb) ∙ some_shown f f.header.alpha some

pub part_size : (h : FrameHeader) (depth : Depth) (part : Part) (x : CodedPicture) (p : Raster) → p ≡ part_plane h depth part x → IsSized p (width_of h part) (height_of h)
part_size h depth part x p e = subst (λ (q : Raster). IsSized q (width_of h part) (height_of h)) (sym e) (plane_sized _ _ _)

pub alpha_size : (h : FrameHeader) (x : CodedPicture) (p : Raster) → p ≡ alpha_plane h x → IsSized p h.width (height_of h)
alpha_size h x p e = subst (λ (q : Raster). IsSized q h.width (height_of h)) (sym e) (plane_sized _ _ _)

each_picture : {P Q : CodedPicture → Type 0} (xs : List CodedPicture) → ((x : CodedPicture) → P x → Q x) → All P xs → All Q xs
each_picture xs f all = λ k d h. f _ (all k d h)

module _ (f : CodedFrame) (depth : Depth) (ok : IsCodedFrame f) where
  rows_some : 0 < height_of f.header
  rows_some = pictures_whole f.header.interlace f.header.height ok.layout.some_rows ok.layout.whole

  rows_few : height_of f.header ≤ 4320
  rows_few = omega (arith, height_small f.header.interlace f.header.height, ok.layout.rows)

  part_sized : (part : Part) → IsSized (shown_plane f depth part) (width_of f.header part) f.header.height
  part_sized part =
      let w = width_some f.header part ok.layout in
      let few : width_of f.header part ≤ 8192 = omega (arith, w.1, ok.layout.columns) in
      woven_sized f.header ok.layout (width_of f.header part) (part_plane f.header depth part) w.0 few
      (λ x. plane_sized _ _ _) (λ x. plane_is _ _ _ w.0 rows_some few rows_few) f.header.interlace f.pictures refl ok.number

  part_small : (part : Part) → All (λ s. s < 2 ^ sample_bits depth) (shown_plane f depth part).samples
  part_small part =
      let w = width_some f.header part ok.layout in
      let few : width_of f.header part ≤ 8192 = omega (arith, w.1, ok.layout.columns) in
      woven_below f.header ok.layout (width_of f.header part) (part_plane f.header depth part) w.0 few
      (λ x. plane_sized _ _ _) (λ x. plane_is _ _ _ w.0 rows_some few rows_few) (2 ^ sample_bits depth) f.header.interlace f.pictures ok.number
      (each_picture f.pictures (part_below f.header depth part) ok.pictures)

  plane : Raster
  plane = woven f.header.interlace (map (alpha_plane f.header) f.pictures)

  values_sized : IsSized plane f.header.width f.header.height
  unfolding plane
  values_sized =
      woven_sized f.header ok.layout f.header.width (alpha_plane f.header) ok.layout.some_columns ok.layout.columns
      (λ x. plane_sized _ _ _) (λ x. plane_is _ _ _ ok.layout.some_columns rows_some ok.layout.columns rows_few) f.header.interlace f.pictures refl ok.number

  values_small : All (λ s. s < 2 ^ alpha_depth f.header.alpha) plane.samples
  unfolding plane
  values_small =
      woven_below f.header ok.layout f.header.width (alpha_plane f.header) ok.layout.some_columns ok.layout.columns
      (λ x. plane_sized _ _ _) (λ x. plane_is _ _ _ ok.layout.some_columns rows_some ok.layout.columns rows_few) (2 ^ alpha_depth f.header.alpha) f.header.interlace f.pictures ok.number
      (each_picture f.pictures (alpha_below f.header) ok.pictures)

  alpha_sized : (kind : AlphaKind) → IfSome (shown_alpha f kind) (λ a. IsSized a f.header.width f.header.height)
  unfolding plane
  alpha_sized Absent = tt
  alpha_sized Eight = values_sized
  alpha_sized Sixteen = values_sized

  alpha_small : (kind : AlphaKind) → IfSome (shown_alpha f kind) (λ a. All (λ s. s < 2 ^ alpha_depth f.header.alpha) a.samples)
  unfolding plane
  alpha_small Absent = tt
  alpha_small Eight = values_small
  alpha_small Sixteen = values_small

  alpha_there : (kind : AlphaKind) → is_some (shown_alpha f kind) ≡ has_alpha kind
  alpha_there Absent = refl
  alpha_there Eight = refl
  alpha_there Sixteen = refl

  -- The picture that a coded frame shows has the form that its header says.
  pub shown_form : HasHeaderForm f.header depth (shown f depth)
  unfolding shown
  shown_form = record {
    size = record { luma = part_sized Y; cb = part_sized Cb; cr = part_sized Cr; alpha = alpha_sized f.header.alpha };
    chroma = refl;
    depth_is = refl;
    alpha = alpha_there f.header.alpha;
    luma = part_small Y;
    cb = part_small Cb;
    cr = part_small Cr;
    values = alpha_small f.header.alpha;
  }
