-- What was written is read again.
use Rattle.std.proofs.Common.{◌≡◌, ℕ, suc, ◌+◌, ◌-◌, ◌*◌, ◌%◌, ◌^◌, ◌<◌, ◌≤◌, if◌then◌else◌, List, [], ◌∷◌, ◌++◌, length, take, map, sum, Ok, refl, sym, ap, ◌∙◌, subst, arith, append_assoc}
use Rattle.std.specs.Prelude.{IsTrue}
use Rattle.std.specs.List.{All, flat_map}
use Rattle.std.proofs.lemmas.List.Elements.{All-head, All-tail, All-nil, All-cons}
use Rattle.pw_outside.specs.Reading.{Rest}
use Rattle.pw_bits.specs.Bits.{bits}
use Rattle.pw_bits.proofs.BitsLemmas.{bits-bytes}
use Rattle.pw_planes.specs.declared.kinds.Interlace.{Interlace}
use Rattle.pw_planes.specs.declared.kinds.AlphaKind.{AlphaKind}
use Rattle.pw_planes.specs.declared.kinds.AlphaKind.TheVariants.{Absent, Eight, Sixteen}
use Rattle.pw_planes.specs.declared.kinds.Chroma.{Chroma}
use Rattle.pw_planes.specs.declared.kinds.Chroma.TheVariants.{C422, C444}
use Rattle.pr_geom.specs.declared.places.SlicePlace.{SlicePlace}
use Rattle.pr_geom.specs.declared.places.Part.TheVariants.{Y, Cb, Cr}
use Rattle.pr_geom.specs.Slices.{pictures_of}
use Rattle.pr_alpha.specs.Alpha as values
use Rattle.pr_alpha.specs.Alpha.{is_width}
use Rattle.pr_alpha.proofs.RowLemmas.{stands_again}
use Rattle.pr_coeff.specs.Component.{Block, AreBlocks, IsScan, Stands, spelling, component}
use Rattle.pr_head.specs.declared.frame.FrameHeader.{FrameHeader}
use Rattle.pr_head.specs.declared.picture.PictureHeader.{PictureHeader}
use Rattle.pr_head.specs.Header.{IsHeader, frame_header_bytes}
use Rattle.pr_head.specs.Picture.{picture_at, table_at, picture_header_bytes, slices_in}
use Rattle.pr_head.specs.Slice.{least_slice_header, slice_at, slice_header_bytes}
use Rattle.pr_head.specs.Laws.{sizes_bytes}
use Rattle.pr_head.specs.Own.{version_of}
use Rattle.pr_head.proofs.Again.{frame-again, picture-again, sizes-again, slice-again}
use Rattle.pr_head.proofs.Places.{take_front, drop_front}
use Rattle.pr_head.proofs.Chain.{bind-step}
use Rattle.pr_frame.specs.declared.coded.CodedSlice.{CodedSlice}
use Rattle.pr_frame.specs.declared.coded.CodedPicture.{CodedPicture}
use Rattle.pr_frame.specs.declared.coded.CodedFrame.{CodedFrame}
use Rattle.pr_frame.specs.Forms.{scan_of, has_alpha, places_in, block_count, alpha_count}
use Rattle.pr_frame.specs.Coded.{IsCodedSlice, AreCodedSlices, IsCodedPicture, IsWritableSlice, IsWritablePicture, HasArrays, HasBlocks, HasShape, CanBeWritten}
use Rattle.pr_frame.specs.Ready.{AreReadyValues, IsReadyAlpha}
use Rattle.pr_frame.specs.Written.{component_bytes, alpha_bytes, alpha_size, slice_header_of, slice_bytes, slice_length, slice_lengths, picture_length, picture_bytes, frame_length_of, coded_bytes}
use Rattle.pr_frame.specs.Reading.{ahead, blocks_at, values_at, alpha_at, components_at, coded_slice_at, coded_slices_at, coded_picture_at, coded_pictures_at, frame_at, frame_of}
use Rattle.pr_frame.proofs.Counts.{HasBlocksOf, AllHave, places-have, count-places}
use Rattle.pr_frame.proofs.Rests.{coded-is}
use Rattle.pr_frame.proofs.Standing.{scan-is, blocks-again, values-again}
use Rattle.pr_frame.proofs.SliceLoop.{sum-front}
use Rattle.pr_frame.proofs.Short.{with-size, alpha-least, ready-alpha, length-lengths, length-picture, length-written, few-slices, slices-short, slice-short, writable-blocks}

behind : (place n : ℕ) (a rest : List ℕ) → length a ≡ n → ahead n (record { place = place; bytes = a ++ rest }) ≡ record { place = place + n; bytes = rest }
behind place n a rest e = let d = drop_front a rest n e in λ j. record { place = place + n; bytes = d j }

component-stands : (scan : List ℕ) (blocks : List Block) → AreBlocks blocks → Stands (bits (component scan blocks)) blocks scan
unfolding component
component-stands scan blocks are = record { fits = are; behind = (8 - length (spelling scan blocks) % 8) % 8; is = bits-bytes (spelling scan blocks) }

pub blocks-written : (scan : List ℕ) (blocks : List Block) (count place : ℕ) (rest : List ℕ) → IsScan scan → AreBlocks blocks → length blocks ≡ count → count ≤ 32
    → blocks_at scan count (length (component scan blocks)) (record { place = place; bytes = component scan blocks ++ rest }) ≡ Ok (blocks, record { place = place + length (component scan blocks); bytes = rest })
blocks-written scan blocks count place rest is are number few =
    let c = component scan blocks in
    let front : take (length c) (c ++ rest) ≡ c = take_front c rest (length c) refl in
    blocks-again scan count (length c) (record { place = place; bytes = c ++ rest }) blocks is few (record { number = number; stands = subst (λ l. Stands (bits l) blocks scan) (sym front) (component-stands scan blocks are) })
    ∙ ap (λ (t : Rest). Ok (blocks, t)) (behind place (length c) c rest refl)

-- ---- alpha values

values-written : (n : ℕ) (l : List ℕ) (count place : ℕ) (rest : List ℕ) → IsTrue (is_width n) → AreReadyValues n l → length l ≡ count
    → values_at n count (length (values.alpha n l)) (record { place = place; bytes = values.alpha n l ++ rest }) ≡ Ok (l, record { place = place + length (values.alpha n l); bytes = rest })
values-written n l count place rest width ready number =
    let c = values.alpha n l in
    let front : take (length c) (c ++ rest) ≡ c = take_front c rest (length c) refl in
    let stands = stands_again n l width ready.some ready.few ready.below in
    values-again n count (length c) (record { place = place; bytes = c ++ rest }) l (record { number = number; stands = subst (λ b. values.Stands (bits b) l n) (sym front) stands })
    ∙ ap (λ (t : Rest). Ok (l, t)) (behind place (length c) c rest refl)

alpha-written : (kind : AlphaKind) (l : List ℕ) (count place : ℕ) (rest : List ℕ) → IsReadyAlpha kind l → length l ≡ count
    → alpha_at kind count (alpha_size kind l) (record { place = place; bytes = alpha_bytes kind l ++ rest }) ≡ Ok (l, record { place = place + alpha_size kind l; bytes = rest })
alpha-written Absent l count place rest ready number = let end : place ≡ place + 0 = omega arith in λ j. Ok (sym ready j, record { place = end j; bytes = rest })
alpha-written Eight l count place rest ready number = values-written 8 l count place rest refl ready number
alpha-written Sixteen l count place rest ready number = values-written 16 l count place rest refl ready number

-- ---- a slice

assoc-four : (a b c d e f : List ℕ) → (a ++ b ++ c ++ d ++ e) ++ f ≡ a ++ (b ++ (c ++ (d ++ (e ++ f))))
assoc-four a b c d e f = append_assoc (a ++ b ++ c ++ d) e f ∙ append_assoc (a ++ b ++ c) d (e ++ f) ∙ append_assoc (a ++ b) c (d ++ (e ++ f)) ∙ append_assoc a b (c ++ (d ++ (e ++ f)))

slice-bytes-are : (mode : Interlace) (alpha : AlphaKind) (s : CodedSlice) (rest : List ℕ) → slice_bytes mode alpha s ++ rest
    ≡ slice_header_bytes (slice_header_of mode alpha s) (has_alpha alpha) ++ (component_bytes mode s.y ++ (component_bytes mode s.cb ++ (component_bytes mode s.cr ++ (alpha_bytes alpha s.alpha ++ rest))))
unfolding slice_bytes
slice-bytes-are mode alpha s rest = assoc-four (slice_header_bytes (slice_header_of mode alpha s) (has_alpha alpha)) (component_bytes mode s.y) (component_bytes mode s.cb) (component_bytes mode s.cr) (alpha_bytes alpha s.alpha) rest

blocks-are : (s : CodedSlice) → HasBlocks s → IsWritableSlice s → AreBlocks s.y × AreBlocks s.cb × AreBlocks s.cr
blocks-are s has small = (
  writable-blocks s.y (λ i lt. has.y i [] lt) small.y,
  writable-blocks s.cb (λ i lt. has.cb i [] lt) small.cb,
  writable-blocks s.cr (λ i lt. has.cr i [] lt) small.cr,
)

parts-written : (h : FrameHeader) (place : SlicePlace) (s : CodedSlice) (k : ℕ) (rest : List ℕ) → HasBlocksOf h place → IsCodedSlice h place s → HasBlocks s → IsWritableSlice s
    → components_at h place (slice_header_of h.interlace h.alpha s, record { place = k; bytes = component_bytes h.interlace s.y ++ (component_bytes h.interlace s.cb ++ (component_bytes h.interlace s.cr ++ (alpha_bytes h.alpha s.alpha ++ rest))) })
    ≡ Ok (s, record { place = k + length (component_bytes h.interlace s.y) + length (component_bytes h.interlace s.cb) + length (component_bytes h.interlace s.cr) + alpha_size h.alpha s.alpha; bytes = rest })
unfolding components_at
parts-written h place s k rest have is has small =
    let mode = h.interlace in
    let scan = scan_of mode in
    let y = component_bytes mode s.y in
    let cb = component_bytes mode s.cb in
    let cr = component_bytes mode s.cr in
    let l = alpha_bytes h.alpha s.alpha in
    let are = blocks-are s has small in
    bind-step _ _ (blocks-written scan s.y (block_count h place Y) k (cb ++ (cr ++ (l ++ rest))) (scan-is mode) are.0 is.y (have.few Y))
    ∙ bind-step _ _ (blocks-written scan s.cb (block_count h place Cb) (k + length y) (cr ++ (l ++ rest)) (scan-is mode) are.1 is.cb (have.few Cb))
    ∙ bind-step _ _ (blocks-written scan s.cr (block_count h place Cr) (k + length y + length cb) (l ++ rest) (scan-is mode) are.2 is.cr (have.few Cr))
    ∙ bind-step _ _ (alpha-written h.alpha s.alpha (alpha_count h.alpha place) (k + length y + length cb + length cr) rest (ready-alpha h place s have is) is.alpha)

-- without alpha there are no bytes of it
none-written : (kind : AlphaKind) (l : List ℕ) → (if has_alpha kind then 0 else alpha_size kind l) ≡ 0
none-written Absent l = refl
none-written Eight l = refl
none-written Sixteen l = refl

slice-written : (h : FrameHeader) (place : SlicePlace) (s : CodedSlice) (k : ℕ) (rest : List ℕ) → HasBlocksOf h place → IsCodedSlice h place s → HasBlocks s → IsWritableSlice s
    → coded_slice_at h place (slice_length h.interlace h.alpha s) (record { place = k; bytes = slice_bytes h.interlace h.alpha s ++ rest })
    ≡ Ok (s, record { place = k + slice_length h.interlace h.alpha s; bytes = rest })
slice-written h place s k rest have is has small =
    let mode = h.interlace in
    let alpha = has_alpha h.alpha in
    let r = slice_header_of mode h.alpha s in
    let y = component_bytes mode s.y in
    let cb = component_bytes mode s.cb in
    let cr = component_bytes mode s.cr in
    let l = alpha_bytes h.alpha s.alpha in
    let least = least_slice_header alpha in
    let body = y ++ (cb ++ (cr ++ (l ++ rest))) in
    let size = slice_length mode h.alpha s in
    let short : size < 65535 = slice-short h place s have is small in
    let whole : least + length y + length cb + length cr + length l ≡ size = sym (with-size h.alpha s.alpha (least + length y + length cb + length cr)) in
    let low : least ≤ 8 = alpha-least alpha in
    let head : slice_at size alpha (record { place = k; bytes = slice_header_bytes r alpha ++ body }) ≡ Ok (r, record { place = k + least; bytes = body }) =
    slice-again size k alpha r body (record { least = omega arith; most = omega (arith, low); index_from = is.index_from; index_to = is.index_to; whole = whole }) (omega (arith, short)) refl (none-written h.alpha s.alpha) in
    let end : k + least + length y + length cb + length cr + length l ≡ k + size = omega (arith, whole) in
    ap (λ b. coded_slice_at h place size (record { place = k; bytes = b })) (slice-bytes-are mode h.alpha s rest)
    ∙ coded-is h place size (record { place = k; bytes = slice_header_bytes r alpha ++ body }) r (record { place = k + least; bytes = body }) head
    ∙ parts-written h place s (k + least) rest have is has small
    ∙ ap (λ n. Ok (s, record { place = n; bytes = rest })) end

-- ---- slices

slices-written : (h : FrameHeader) (places : List SlicePlace) (xs : List CodedSlice) (k : ℕ) (rest : List ℕ) → AllHave h places → AreCodedSlices h places xs → All HasBlocks xs → All IsWritableSlice xs
    → coded_slices_at h places (map (slice_length h.interlace h.alpha) xs) (record { place = k; bytes = flat_map (slice_bytes h.interlace h.alpha) xs ++ rest })
    ≡ Ok (xs, record { place = k + sum (map (slice_length h.interlace h.alpha) xs); bytes = rest })
unfolding coded_slices_at
slices-written h [] [] k rest have are has small = let e : k ≡ k + 0 = omega arith in ap (λ n. Ok ([], record { place = n; bytes = rest })) e
slices-written h [] (x ∷ xs) k rest have are has small = absurd are
slices-written h (p ∷ places) [] k rest have are has small = absurd are
slices-written h (p ∷ places) (x ∷ xs) k rest have are has small =
    let mode = h.interlace in
    let f = slice_length mode h.alpha in
    let more = flat_map (slice_bytes mode h.alpha) xs in
    let first = slice-written h p x k (more ++ rest) have.0 are.0 (All-head HasBlocks x xs has) (All-head IsWritableSlice x xs small) in
    let others = slices-written h places xs (k + f x) rest have.1 are.1 (All-tail HasBlocks x xs has) (All-tail IsWritableSlice x xs small) in
    let end : k + f x + sum (map f xs) ≡ k + sum (f x ∷ map f xs) = omega (arith, sum-front (f x) (map f xs)) in
    bind-step _ _ (ap (λ l. coded_slice_at h p (f x) (record { place = k; bytes = l })) (append_assoc (slice_bytes mode h.alpha x) more rest) ∙ first)
    ∙ bind-step _ _ others ∙ ap (λ n. Ok (x ∷ xs, record { place = n; bytes = rest })) end

-- ---- a picture

picture-bytes-are : (mode : Interlace) (alpha : AlphaKind) (x : CodedPicture) (rest : List ℕ) → picture_bytes mode alpha x ++ rest
    ≡ picture_header_bytes (picture_length mode alpha x) (length x.slices) x.log2 ++ (sizes_bytes (slice_lengths mode alpha x) ++ (flat_map (slice_bytes mode alpha) x.slices ++ rest))
unfolding picture_bytes
picture-bytes-are mode alpha x rest =
    let a = picture_header_bytes (picture_length mode alpha x) (length x.slices) x.log2 in
    let b = sizes_bytes (slice_lengths mode alpha x) in
    let c = flat_map (slice_bytes mode alpha) x.slices in
    append_assoc (a ++ b) c rest ∙ append_assoc a b (c ++ rest)

same-count : (h : FrameHeader) (places : List SlicePlace) (xs : List CodedSlice) → AreCodedSlices h places xs → length xs ≡ length places
same-count h [] [] are = refl
same-count h [] (x ∷ xs) are = absurd are
same-count h (p ∷ places) [] are = absurd are
same-count h (p ∷ places) (x ∷ xs) are = ap suc (same-count h places xs are.1)

short-sizes : (f : CodedSlice → ℕ) (xs : List CodedSlice) → All (λ s. f s < 65535) xs → All (λ size. size < 2 ^ 16) (map f xs)
short-sizes f [] all = All-nil (λ size. size < 2 ^ 16)
short-sizes f (x ∷ xs) all = All-cons (λ size. size < 2 ^ 16) (f x) (map f xs) (omega (arith, All-head (λ s. f s < 65535) x xs all)) (short-sizes f xs (All-tail (λ s. f s < 65535) x xs all))

picture-written : (F : ℕ) (h : FrameHeader) (x : CodedPicture) (k : ℕ) (rest : List ℕ) → IsCodedPicture h x → All HasBlocks x.slices → IsWritablePicture x
    → k + picture_length h.interlace h.alpha x ≤ F → F < 2 ^ 32
    → coded_picture_at F h (record { place = k; bytes = picture_bytes h.interlace h.alpha x ++ rest }) ≡ Ok (x, record { place = k + picture_length h.interlace h.alpha x; bytes = rest })
unfolding coded_picture_at
picture-written F h x k rest is has small within less =
    let mode = h.interlace in
    let f = slice_length mode h.alpha in
    let sizes = slice_lengths mode h.alpha x in
    let size = picture_length mode h.alpha x in
    let body = flat_map (slice_bytes mode h.alpha) x.slices in
    let table = sizes_bytes sizes in
    let r : PictureHeader = record { header = 8; size = size; log2 = x.log2 } in
    let places = places_in h x.log2 in
    let have = places-have h x.log2 is.layout.size in
    let count : length x.slices ≡ slices_in h r = same-count h places x.slices is.slices ∙ sym (count-places h r) in
    let many : length sizes ≡ length x.slices = length-lengths mode h.alpha x.slices in
    let short = short-sizes f x.slices (slices-short h places x.slices have is.slices small) in
    let head = picture-again F k h size (length x.slices) x.log2 (table ++ (body ++ rest)) (omega arith) within (omega arith) is.layout.size (few-slices h x is) in
    let read0 = sizes-again r (k + 8) sizes (body ++ rest) short (omega (arith, many)) in
    let read : table_at r (slices_in h r) (record { place = k + 8; bytes = table ++ (body ++ rest) }) ≡ Ok (sizes, record { place = k + 8 + 2 * length sizes; bytes = body ++ rest }) =
    subst (λ n. table_at r n (record { place = k + 8; bytes = table ++ (body ++ rest) }) ≡ Ok (sizes, record { place = k + 8 + 2 * length sizes; bytes = body ++ rest })) (many ∙ count) read0 in
    let slices = slices-written h places x.slices (k + 8 + 2 * length sizes) rest have is.slices has small in
    let whole : ahead size (record { place = k; bytes = picture_bytes mode h.alpha x ++ rest }) ≡ record { place = k + size; bytes = rest } = behind k size (picture_bytes mode h.alpha x) rest (length-picture mode h.alpha x) in
    bind-step _ _ (ap (λ l. picture_at F h (record { place = k; bytes = l })) (picture-bytes-are mode h.alpha x rest) ∙ head)
    ∙ bind-step _ _ read ∙ bind-step _ _ slices ∙ ap (λ (t : Rest). Ok (x, t)) whole

-- ---- pictures

pictures-written : (F : ℕ) (h : FrameHeader) (xs : List CodedPicture) (k : ℕ) → All (IsCodedPicture h) xs → All (λ (x : CodedPicture). All HasBlocks x.slices) xs → All IsWritablePicture xs
    → k + sum (map (picture_length h.interlace h.alpha) xs) ≤ F → F < 2 ^ 32
    → (t : Rest) × (coded_pictures_at (length xs) F h (record { place = k; bytes = flat_map (picture_bytes h.interlace h.alpha) xs }) ≡ Ok (xs, t))
unfolding coded_pictures_at
pictures-written F h [] k is has small within less = (record { place = k; bytes = [] }, refl)
pictures-written F h (x ∷ xs) k is has small within less =
    let mode = h.interlace in
    let f = picture_length mode h.alpha in
    let front = sum-front (f x) (map f xs) in
    let first = picture-written F h x k (flat_map (picture_bytes mode h.alpha) xs) (All-head (IsCodedPicture h) x xs is) (All-head (λ (p : CodedPicture). All HasBlocks p.slices) x xs has) (All-head IsWritablePicture x xs small) (omega (arith, front, within)) less in
    let others = pictures-written F h xs (k + f x) (All-tail (IsCodedPicture h) x xs is) (All-tail (λ (p : CodedPicture). All HasBlocks p.slices) x xs has) (All-tail IsWritablePicture x xs small) (omega (arith, front, within)) less in
    (others.0, bind-step _ _ first ∙ bind-step _ _ others.1)

-- ---- a frame

version-small : (c : Chroma) (a : AlphaKind) → version_of c a ≤ 1
version-small C422 Absent = omega arith
version-small C422 Eight = omega arith
version-small C422 Sixteen = omega arith
version-small C444 a = omega arith

header-is : (f : CodedFrame) → HasArrays f.header → CanBeWritten f → IsHeader f.header
header-is f has w = record {
  version = omega (arith, w.writable.header.version, version-small f.header.chroma f.header.alpha);
  encoder = has.encoder;
  layout = w.writable.coded.layout;
  aspect = w.writable.header.aspect;
  rate = w.writable.header.rate;
  luma = has.luma;
  chroma_weights = has.chroma_weights;
}

pub frame-written : (f : CodedFrame) → HasShape f → CanBeWritten f → frame_of (coded_bytes f) ≡ Ok f
unfolding frame_of frame_at coded_bytes
frame-written f has w =
    let h = f.header in
    let size = frame_length_of f in
    let pics = flat_map (picture_bytes h.interlace h.alpha) f.pictures in
    let n = length (frame_header_bytes h size ++ pics) in
    let n-is : n ≡ size = length-written f has.header in
    let head = frame-again h size n pics (header-is f has.header w) (omega arith) (omega (arith, n-is)) w.short in
    let read = pictures-written size h f.pictures 156 w.writable.coded.pictures has.blocks w.writable.values (omega arith) w.short in
    let t = read.0 in
    let moved : coded_pictures_at (pictures_of h.interlace) size h (record { place = 156; bytes = pics }) ≡ Ok (f.pictures, t) =
    subst (λ c. coded_pictures_at c size h (record { place = 156; bytes = pics }) ≡ Ok (f.pictures, t)) w.writable.coded.number
    read.1 in
    bind-step _ _ (bind-step _ _ head ∙ bind-step _ _ moved)
