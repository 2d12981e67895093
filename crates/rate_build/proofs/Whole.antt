-- The table of a frame is within the limits of tables.
use Rattle.std.proofs.Common.{◌≡◌, ℕ, ◌+◌, ◌*◌, ◌^◌, ◌<◌, ◌≤◌, List, [], ◌∷◌, ◌++◌, length, refl, ◌∙◌, arith, length-append}
use Rattle.std.proofs.Math.Nat.{mul-le-mul_right}
use Rattle.std.proofs.lemmas.Nat.{mul-le}
use Rattle.std.proofs.lemmas.List.Sums.{sum_by-cons}
use Rattle.std.specs.List.{All, AllZip, flat_map, range_with_len}
use Rattle.std.proofs.lemmas.List.Elements.{All-cons, All-head, All-tail, All-contains}
use Rattle.std.proofs.lemmas.Slice.Zip.{AllZip-long}
use Rattle.pw_planes.specs.declared.kinds.Interlace.{Interlace}
use Rattle.pw_planes.specs.declared.kinds.Interlace.TheVariants.{Progressive, TopFirst, BottomFirst}
use Rattle.pw_planes.specs.declared.kinds.AlphaKind.{AlphaKind}
use Rattle.pw_planes.specs.declared.kinds.Chroma.{Chroma}
use Rattle.rate_table.specs.declared.table.TheConstants.{MAX_TABLE_SLICES}
use Rattle.pr_geom.specs.declared.places.TheConstants.{MAX_SLICES}
use Rattle.pr_geom.specs.declared.layout.Layout.{Layout}
use Rattle.pr_geom.specs.declared.places.SlicePlace.{SlicePlace}
use Rattle.pr_geom.specs.declared.places.Part.TheVariants.{Y}
use Rattle.pr_geom.proofs.BlockLemmas.{luma_count}
use Rattle.pr_frame.proofs.Short.{few-values}
use Rattle.pr_geom.specs.Layout.{slices_of}
use Rattle.pr_geom.specs.Slices.{pictures_of}
use Rattle.rate_table.specs.declared.entry.Entry.{Entry}
use Rattle.rate_table.specs.Table.{IsEntry, IsSliceTable, IsChoice, error_of}
use Rattle.rate_build.specs.declared.slices.SliceCoefficients.{SliceCoefficients}
use Rattle.rate_build.specs.Coefficients.{FrameCoefficients, IsSliceAt, frame_places, AreOfLayout}
use Rattle.rate_build.specs.Tables.{HasParts}

-- ---- slices

-- a slice has at most 2,048 alpha values
few_values : (chroma : Chroma) (alpha : AlphaKind) (place : SlicePlace) (s : SliceCoefficients) → IsSliceAt chroma alpha place s → length s.alpha ≤ 2048
few_values chroma alpha place s h =
    let e = luma_count chroma Y place refl in
    omega (arith, h.values, few-values alpha place (omega (arith, e, h.y, h.y_part.few)))

pub parts_of : (chroma : Chroma) (alpha : AlphaKind) (places : List SlicePlace) (slices : List SliceCoefficients) → AllZip (IsSliceAt chroma alpha) places slices → All HasParts slices
parts_of chroma alpha [] [] h = λ k d l. absurd (omega (arith, l))
parts_of chroma alpha [] (s ∷ slices) h = absurd h
parts_of chroma alpha (p ∷ places) [] h = absurd h
parts_of chroma alpha (p ∷ places) (s ∷ slices) h = All-cons HasParts s slices (record { y = h.0.y_part; cb = h.0.cb_part; cr = h.0.cr_part; values = few_values chroma alpha p s h.0 }) (parts_of chroma alpha places slices h.1)

-- the number of slices of a frame
repeated : (l : Layout) (mode : Interlace) → length (flat_map (λ picture. slices_of l) (range_with_len 0 (pictures_of mode))) ≡ pictures_of mode * length (slices_of l)
repeated l Progressive = omega (arith, length-append (slices_of l) [])
repeated l TopFirst = omega (arith, length-append (slices_of l) (slices_of l ++ []), length-append (slices_of l) [])
repeated l BottomFirst = omega (arith, length-append (slices_of l) (slices_of l ++ []), length-append (slices_of l) [])

pub slices_number : (c : FrameCoefficients) → AreOfLayout c → length c.slices ≡ pictures_of c.layout.interlace * length (slices_of c.layout)
slices_number c h = AllZip-long (IsSliceAt c.layout.chroma c.alpha) (frame_places c.layout) c.slices h ∙ repeated c.layout c.layout.interlace

-- the slices of a picture are among those of the frame
pub picture_inside : (c : FrameCoefficients) (picture : ℕ) → AreOfLayout c → picture < pictures_of c.layout.interlace → length (slices_of c.layout) * picture + length (slices_of c.layout) ≤ length c.slices
picture_inside c picture are few =
    let n = length (slices_of c.layout) in
    omega (arith, slices_number c are, mul-le (picture + 1) n (pictures_of c.layout.interlace) n (omega (arith, few)) (omega arith))

pub pictures_few : (mode : Interlace) → (1 ≤ pictures_of mode) × (pictures_of mode ≤ 2)
pictures_few Progressive = (omega arith, omega arith)
pictures_few TopFirst = (omega arith, omega arith)
pictures_few BottomFirst = (omega arith, omega arith)

pub frame_slices : (c : FrameCoefficients) → AreOfLayout c → 1 ≤ length (slices_of c.layout) → length (slices_of c.layout) ≤ MAX_SLICES → (1 ≤ length c.slices) × (length c.slices ≤ MAX_TABLE_SLICES)
frame_slices c h some few =
    let n = slices_number c h in
    let p = pictures_few c.layout.interlace in
    let low = mul-le 1 1 (pictures_of c.layout.interlace) (length (slices_of c.layout)) p.0 some in
    let high = mul-le (pictures_of c.layout.interlace) (length (slices_of c.layout)) 2 65535 p.1 few in
    (omega (arith, n, low), omega (arith, n, high))

-- ---- errors

choice_error : (slices : List (List Entry)) (choice : List Entry) → All IsSliceTable slices → IsChoice slices choice → error_of choice ≤ length slices * 2 ^ 43
choice_error [] [] each h = omega arith
choice_error [] (e ∷ choice) each h = absurd h
choice_error (s ∷ slices) [] each h = absurd h
choice_error (s ∷ slices) (e ∷ choice) each h =
    let limits = (All-contains IsEntry s e (All-head IsSliceTable s slices each).limits h.0).error in
    let rest = choice_error slices choice (All-tail IsSliceTable s slices each) h.1 in
    omega (arith, limits, rest, sum_by-cons (λ (x : Entry). x.error) e choice)

-- the error of a choice of at most `MAX_TABLE_SLICES` slices
pub choice_error_small : (slices : List (List Entry)) (choice : List Entry) → All IsSliceTable slices → length slices ≤ MAX_TABLE_SLICES → IsChoice slices choice → error_of choice < 2 ^ 60
choice_error_small slices choice each few h = omega (arith, choice_error slices choice each h, mul-le-mul_right (2 ^ 43) few)
