-- The number of bytes that are written.
use Rattle.std.proofs.Common.{◌≡◌, ℕ, zero, suc, ◌+◌, ◌*◌, ◌^◌, ◌<◌, ◌≤◌, Bool, true, false, List, [], ◌∷◌, ◌++◌, length, map, sum, get_or, pos, nat_abs, refl, sym, ap, ◌∙◌, arith, length-append}
use Rattle.std.specs.List.{All, flat_map}
use Rattle.std.specs.Int.{w16, to_be_bytes}
use Rattle.std.proofs.lemmas.List.Elements.{All-head, All-tail, All-nil, All-cons}
use Rattle.std.proofs.lemmas.List.{nil_from_length}
use Rattle.pw_outside.proofs.Lists.{below-all}
use Rattle.pw_planes.specs.declared.kinds.AlphaKind.{AlphaKind}
use Rattle.pw_planes.specs.declared.kinds.AlphaKind.TheVariants.{Absent, Eight, Sixteen}
use Rattle.pw_planes.specs.declared.kinds.Interlace.{Interlace}
use Rattle.pr_geom.specs.declared.places.SlicePlace.{SlicePlace}
use Rattle.pr_geom.specs.declared.places.Part.TheVariants.{Y, Cb, Cr}
use Rattle.pr_geom.specs.declared.places.TheConstants.{MAX_SLICES}
use Rattle.pr_head.specs.Picture.{slices_in, picture_header_bytes}
use Rattle.pr_alpha.proofs.RowLemmas.{alpha_cost}
use Rattle.pr_coeff.specs.Component.{Block, component, AreBlocks}
use Rattle.pr_coeff.proofs.WovenLemmas.{AreBlocks_from, AllSmall_from}
use Rattle.pr_coeff.proofs.CostLemmas.{component_cost}
use Rattle.pr_head.specs.declared.frame.FrameHeader.{FrameHeader}
use Rattle.pr_head.specs.declared.slice.SliceHeader.{SliceHeader}
use Rattle.pr_head.specs.Header.{frame_header_bytes}
use Rattle.pr_head.specs.Slice.{least_slice_header, slice_header_bytes}
use Rattle.pr_head.specs.Laws.{sizes_bytes}
use Rattle.pr_frame.specs.declared.coded.CodedSlice.{CodedSlice}
use Rattle.pr_frame.specs.declared.coded.CodedPicture.{CodedPicture}
use Rattle.pr_frame.specs.declared.coded.CodedFrame.{CodedFrame}
use Rattle.pr_frame.specs.Forms.{scan_of, has_alpha, places_in, alpha_count, alpha_depth}
use Rattle.pr_frame.specs.Coded.{IsCodedSlice, AreCodedSlices, IsCodedPicture, IsWritableBlock, IsWritableSlice, IsWritablePicture, HasArrays}
use Rattle.pr_frame.specs.Ready.{IsReadyPart, IsReadyAlpha, IsReady, IsReadyPicture}
use Rattle.pr_frame.specs.Written.{component_bytes, alpha_bytes, alpha_size, with_alpha_size, slice_header_of, slice_bytes, slice_length, slice_lengths, picture_length, picture_bytes, frame_length_of, coded_bytes}
use Rattle.pr_frame.proofs.Counts.{HasBlocksOf, AllHave, places-have, count-places}
use Rattle.pr_frame.proofs.Standing.{scan-is}
use Rattle.pr_frame.proofs.SliceLoop.{sum-front}

-- ---- lengths

header-length : (r : SliceHeader) (alpha : Bool) → length (slice_header_bytes r alpha) ≡ least_slice_header alpha
unfolding slice_header_bytes
header-length r true = refl
header-length r false = refl

slice-is : (mode : Interlace) (alpha : AlphaKind) (s : CodedSlice) → slice_bytes mode alpha s
    ≡ slice_header_bytes (slice_header_of mode alpha s) (has_alpha alpha) ++ component_bytes mode s.y ++ component_bytes mode s.cb ++ component_bytes mode s.cr ++ alpha_bytes alpha s.alpha
unfolding slice_bytes
slice-is mode alpha s = refl

-- the bytes of alpha values follow the others
pub with-size : (alpha : AlphaKind) (l : List ℕ) (n : ℕ) → with_alpha_size alpha l n ≡ n + alpha_size alpha l
with-size Absent l n = omega arith
with-size Eight l n = refl
with-size Sixteen l n = refl

pub length-slice : (mode : Interlace) (alpha : AlphaKind) (s : CodedSlice) → length (slice_bytes mode alpha s) ≡ slice_length mode alpha s
length-slice mode alpha s =
    let h = slice_header_bytes (slice_header_of mode alpha s) (has_alpha alpha) in
    let y = component_bytes mode s.y in
    let cb = component_bytes mode s.cb in
    let cr = component_bytes mode s.cr in
    let a = alpha_bytes alpha s.alpha in
    let n = least_slice_header (has_alpha alpha) + length y + length cb + length cr in
    let e : length (h ++ y ++ cb ++ cr ++ a) ≡ n + length a = omega (arith, length-append h y, length-append (h ++ y) cb, length-append (h ++ y ++ cb) cr, length-append (h ++ y ++ cb ++ cr) a, header-length (slice_header_of mode alpha s) (has_alpha alpha)) in
    ap length (slice-is mode alpha s) ∙ e ∙ sym (with-size alpha s.alpha n)

pub length-slices : (mode : Interlace) (alpha : AlphaKind) (xs : List CodedSlice) → length (flat_map (slice_bytes mode alpha) xs) ≡ sum (map (slice_length mode alpha) xs)
length-slices mode alpha [] = refl
length-slices mode alpha (x ∷ xs) =
    length-append (slice_bytes mode alpha x) (flat_map (slice_bytes mode alpha) xs) ∙ (let a = length-slice mode alpha x in let b = length-slices mode alpha xs in λ j. a j + b j) ∙ sym (sum-front (slice_length mode alpha x) (map (slice_length mode alpha) xs))

pub length-table : (sizes : List ℕ) → length (sizes_bytes sizes) ≡ 2 * length sizes
length-table [] = refl
length-table (z ∷ sizes) = omega (arith, length-append (to_be_bytes w16 z) (sizes_bytes sizes), length-table sizes)

picture-header-length : (size count log2 : ℕ) → length (picture_header_bytes size count log2) ≡ 8
unfolding picture_header_bytes
picture-header-length size count log2 = refl

pub length-lengths : (mode : Interlace) (alpha : AlphaKind) (xs : List CodedSlice) → length (map (slice_length mode alpha) xs) ≡ length xs
length-lengths mode alpha [] = refl
length-lengths mode alpha (x ∷ xs) = ap suc (length-lengths mode alpha xs)

picture-is : (mode : Interlace) (alpha : AlphaKind) (x : CodedPicture) → picture_bytes mode alpha x ≡ picture_header_bytes (picture_length mode alpha x) (length x.slices) x.log2 ++ sizes_bytes (slice_lengths mode alpha x) ++ flat_map (slice_bytes mode alpha) x.slices
unfolding picture_bytes
picture-is mode alpha x = refl

pub length-picture : (mode : Interlace) (alpha : AlphaKind) (x : CodedPicture) → length (picture_bytes mode alpha x) ≡ picture_length mode alpha x
length-picture mode alpha x =
    let h = picture_header_bytes (picture_length mode alpha x) (length x.slices) x.log2 in
    let t = sizes_bytes (slice_lengths mode alpha x) in
    let b = flat_map (slice_bytes mode alpha) x.slices in
    let e : length (h ++ t ++ b) ≡ picture_length mode alpha x = omega (arith, length-append h t, length-append (h ++ t) b, length-table (slice_lengths mode alpha x), length-lengths mode alpha x.slices, length-slices mode alpha x.slices, picture-header-length (picture_length mode alpha x) (length x.slices) x.log2) in
    ap length (picture-is mode alpha x) ∙ e

pub length-pictures : (mode : Interlace) (alpha : AlphaKind) (xs : List CodedPicture) → length (flat_map (picture_bytes mode alpha) xs) ≡ sum (map (picture_length mode alpha) xs)
length-pictures mode alpha [] = refl
length-pictures mode alpha (x ∷ xs) =
    length-append (picture_bytes mode alpha x) (flat_map (picture_bytes mode alpha) xs) ∙ (let a = length-picture mode alpha x in let b = length-pictures mode alpha xs in λ j. a j + b j) ∙ sym (sum-front (picture_length mode alpha x) (map (picture_length mode alpha) xs))

pub frame-header-length : (h : FrameHeader) (size : ℕ) → HasArrays h → length (frame_header_bytes h size) ≡ 156
unfolding frame_header_bytes
frame-header-length h size is = simp length-append (omega (arith, is.encoder, is.luma, is.chroma_weights))

written-is : (f : CodedFrame) → coded_bytes f ≡ frame_header_bytes f.header (frame_length_of f) ++ flat_map (picture_bytes f.header.interlace f.header.alpha) f.pictures
unfolding coded_bytes
written-is f = refl

pub length-written : (f : CodedFrame) → HasArrays f.header → length (coded_bytes f) ≡ frame_length_of f
length-written f is =
    let h = frame_header_bytes f.header (frame_length_of f) in
    let b = flat_map (picture_bytes f.header.interlace f.header.alpha) f.pictures in
    let e : length (h ++ b) ≡ frame_length_of f = omega (arith, length-append h b, frame-header-length f.header (frame_length_of f) is, length-pictures f.header.interlace f.header.alpha f.pictures) in
    ap length (written-is f) ∙ e

-- ---- slices are short

small-at : (block : Block) (k : ℕ) → IsWritableBlock block → nat_abs (get_or block k (pos 0)) ≤ 8191
small-at [] k all = omega arith
small-at (v ∷ vs) zero all = All-head (λ value. nat_abs value ≤ 8191) v vs all
small-at (v ∷ vs) (suc k) all = small-at vs k (All-tail (λ value. nat_abs value ≤ 8191) v vs all)

blocks-at : (blocks : List Block) (i k : ℕ) → All IsWritableBlock blocks → nat_abs (get_or (get_or blocks i []) k (pos 0)) ≤ 8191
blocks-at [] i k all = small-at [] k (All-nil (λ value. nat_abs value ≤ 8191))
blocks-at (b ∷ bs) zero k all = small-at b k (All-head IsWritableBlock b bs all)
blocks-at (b ∷ bs) (suc i) k all = blocks-at bs i k (All-tail IsWritableBlock b bs all)

component-short : (mode : Interlace) (blocks : List Block) → 0 < length blocks → length blocks ≤ 32 → All IsWritableBlock blocks → length (component_bytes mode blocks) < 14592
component-short mode blocks some few all =
    let cost = component_cost 13 (scan_of mode) blocks (scan-is mode) (omega arith) few (λ i k. omega (arith, blocks-at blocks i k all)) in
    omega (arith, cost)

pub alpha-least : (alpha : Bool) → least_slice_header alpha ≤ 8
alpha-least true = omega arith
alpha-least false = omega arith

-- alpha values are few
pub few-values : (alpha : AlphaKind) (place : SlicePlace) → place.width ≤ 8 → alpha_count alpha place ≤ 2048
few-values Absent place narrow = omega arith
few-values Eight place narrow = omega arith
few-values Sixteen place narrow = omega arith

pub with-short : (alpha : AlphaKind) (l : List ℕ) (n : ℕ) → length l ≤ 2048 → n < 43784 → with_alpha_size alpha l n < 65535
with-short Absent l n few short = omega arith
with-short Eight l n few short = omega (arith, alpha_cost 8 l refl)
with-short Sixteen l n few short = omega (arith, alpha_cost 16 l refl)

-- alpha values have few bytes
pub alpha-short : (kind : AlphaKind) (l : List ℕ) → IsReadyAlpha kind l → alpha_size kind l ≤ 8448
alpha-short Absent l ready = omega arith
alpha-short Eight l ready = omega (arith, ready.few, alpha_cost 8 l refl)
alpha-short Sixteen l ready = omega (arith, ready.few, alpha_cost 16 l refl)

pub slice-short : (h : FrameHeader) (place : SlicePlace) (s : CodedSlice) → HasBlocksOf h place → IsCodedSlice h place s → IsWritableSlice s → slice_length h.interlace h.alpha s < 65535
slice-short h place s have is small =
    let y = component-short h.interlace s.y (omega (arith, is.y, have.some Y)) (omega (arith, is.y, have.few Y)) small.y in
    let cb = component-short h.interlace s.cb (omega (arith, is.cb, have.some Cb)) (omega (arith, is.cb, have.few Cb)) small.cb in
    let cr = component-short h.interlace s.cr (omega (arith, is.cr, have.some Cr)) (omega (arith, is.cr, have.few Cr)) small.cr in
    let n = least_slice_header (has_alpha h.alpha) + length (component_bytes h.interlace s.y) + length (component_bytes h.interlace s.cb) + length (component_bytes h.interlace s.cr) in
    with-short h.alpha s.alpha n (omega (arith, is.alpha, few-values h.alpha place have.narrow)) (omega (arith, y, cb, cr, alpha-least (has_alpha h.alpha)))

pub slices-short : (h : FrameHeader) (places : List SlicePlace) (xs : List CodedSlice) → AllHave h places → AreCodedSlices h places xs → All IsWritableSlice xs → All (λ s. slice_length h.interlace h.alpha s < 65535) xs
slices-short h [] [] have are small = All-nil (λ s. slice_length h.interlace h.alpha s < 65535)
slices-short h [] (x ∷ xs) have are small = absurd are
slices-short h (p ∷ places) [] have are small = absurd are
slices-short h (p ∷ places) (x ∷ xs) have are small =
    All-cons (λ s. slice_length h.interlace h.alpha s < 65535) x xs (slice-short h p x have.0 are.0 (All-head IsWritableSlice x xs small)) (slices-short h places xs have.1 are.1 (All-tail IsWritableSlice x xs small))

-- ---- what is ready to be written

pub part-short : (mode : Interlace) (blocks : List Block) → IsReadyPart blocks → length (component_bytes mode blocks) < 14592
part-short mode blocks r = component-short mode blocks r.some r.few r.values

pub alpha-ready : (kind : AlphaKind) (place : SlicePlace) (l : List ℕ) → 0 < place.width → place.width ≤ 8 → length l ≡ alpha_count kind place → All (λ value. value < 2 ^ alpha_depth kind) l → IsReadyAlpha kind l
alpha-ready Absent place l some narrow number all = nil_from_length l number
alpha-ready Eight place l some narrow number all = record { some = omega arith; few = omega arith; below = below-all 256 l (omega arith) all }
alpha-ready Sixteen place l some narrow number all = record { some = omega arith; few = omega arith; below = below-all 65536 l (omega arith) all }

pub ready-alpha : (h : FrameHeader) (place : SlicePlace) (s : CodedSlice) → HasBlocksOf h place → IsCodedSlice h place s → IsReadyAlpha h.alpha s.alpha
ready-alpha h place s have is = alpha-ready h.alpha place s.alpha have.wide have.narrow is.alpha is.values

slice-ready : (h : FrameHeader) (place : SlicePlace) (s : CodedSlice) → HasBlocksOf h place → IsCodedSlice h place s → IsWritableSlice s → IsReady h.alpha s
slice-ready h place s have is small = record {
  y = record { some = omega (arith, is.y, have.some Y); few = omega (arith, is.y, have.few Y); values = small.y };
  cb = record { some = omega (arith, is.cb, have.some Cb); few = omega (arith, is.cb, have.few Cb); values = small.cb };
  cr = record { some = omega (arith, is.cr, have.some Cr); few = omega (arith, is.cr, have.few Cr); values = small.cr };
  alpha_values = ready-alpha h place s have is;
}

slices-ready : (h : FrameHeader) (places : List SlicePlace) (xs : List CodedSlice) → AllHave h places → AreCodedSlices h places xs → All IsWritableSlice xs → All (IsReady h.alpha) xs
slices-ready h [] [] have are small = All-nil (IsReady h.alpha)
slices-ready h [] (x ∷ xs) have are small = absurd are
slices-ready h (p ∷ places) [] have are small = absurd are
slices-ready h (p ∷ places) (x ∷ xs) have are small =
    All-cons (IsReady h.alpha) x xs (slice-ready h p x have.0 are.0 (All-head IsWritableSlice x xs small)) (slices-ready h places xs have.1 are.1 (All-tail IsWritableSlice x xs small))

same-count : (h : FrameHeader) (places : List SlicePlace) (xs : List CodedSlice) → AreCodedSlices h places xs → length xs ≡ length places
same-count h [] [] are = refl
same-count h [] (x ∷ xs) are = absurd are
same-count h (p ∷ places) [] are = absurd are
same-count h (p ∷ places) (x ∷ xs) are = ap suc (same-count h places xs are.1)

picture-ready : (h : FrameHeader) (x : CodedPicture) → IsCodedPicture h x → IsWritablePicture x → IsReadyPicture h.alpha x
picture-ready h x is small = record {
  few = omega (arith, same-count h (places_in h x.log2) x.slices is.slices, is.layout.slices, count-places h (record { header = 8; size = 0; log2 = x.log2 }));
  log2 = is.layout.size;
  slices = slices-ready h (places_in h x.log2) x.slices (places-have h x.log2 is.layout.size) is.slices small;
}

pub pictures-ready : (h : FrameHeader) (xs : List CodedPicture) → All (IsCodedPicture h) xs → All IsWritablePicture xs → All (IsReadyPicture h.alpha) xs
pictures-ready h [] are small = All-nil (IsReadyPicture h.alpha)
pictures-ready h (x ∷ xs) are small =
    All-cons (IsReadyPicture h.alpha) x xs (picture-ready h x (All-head (IsCodedPicture h) x xs are) (All-head IsWritablePicture x xs small)) (pictures-ready h xs (All-tail (IsCodedPicture h) x xs are) (All-tail IsWritablePicture x xs small))

-- blocks of 64 values that can be written
pub writable-blocks : (blocks : List Block) → ((i : ℕ) → i < length blocks → length (get_or blocks i []) ≡ 64) → All IsWritableBlock blocks → AreBlocks blocks
writable-blocks blocks shape small = AreBlocks_from blocks (λ i lt. (shape i lt, AllSmall_from (get_or blocks i []) (λ k lt2. omega (arith, blocks-at blocks i k small))))

pub scan-same : (mode : Interlace) (blocks : List Block) (places : List ℕ) → places ≡ scan_of mode → length (component places blocks) ≡ length (component_bytes mode blocks)
scan-same mode blocks places e = ap (λ ps. length (component ps blocks)) e

pub few-slices : (h : FrameHeader) (x : CodedPicture) → IsCodedPicture h x → slices_in h (record { header = 8; size = picture_length h.interlace h.alpha x; log2 = x.log2 }) ≤ MAX_SLICES
few-slices h x is = is.layout.slices
