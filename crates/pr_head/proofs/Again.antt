-- What was written is read again.
use Rattle.std.proofs.Common.{◌≡◌, ℕ, suc, ◌+◌, ◌-◌, ◌*◌, ◌/◌, ◌%◌, ◌^◌, ◌<◌, ◌≤◌, Bool, true, false, not, ◌==◌, nat_lt, if◌then◌else◌, List, [], ◌∷◌, ◌++◌, length, take, drop, get_or, replicate, sum, Ok, refl, sym, ap, ◌∙◌, subst, arith, length-append, append_assoc, lit<, lit≤}
use Rattle.std.specs.Int.{w16, w32, to_be_bytes}
use Rattle.std.specs.List.{All}
use Rattle.std.proofs.lemmas.List.Elements.{All-head, All-tail}
use Rattle.std.proofs.lemmas.Nat.{from_be_bytes-to_be_bytes_2, from_be_bytes-to_be_bytes_4}
use Rattle.std.proofs.lemmas.Bool.{le-ltb, ne_eqb, or_from}
use Rattle.pw_planes.specs.declared.kinds.Chroma.{Chroma}
use Rattle.pw_planes.specs.declared.kinds.Chroma.TheVariants.{C422, C444}
use Rattle.pw_planes.specs.declared.kinds.AlphaKind.{AlphaKind}
use Rattle.pw_planes.specs.declared.kinds.AlphaKind.TheVariants.{Absent, Eight, Sixteen}
use Rattle.pw_planes.specs.declared.kinds.Interlace.{Interlace}
use Rattle.pw_planes.specs.declared.kinds.Interlace.TheVariants.{Progressive, TopFirst, BottomFirst}
use Rattle.pw_planes.specs.declared.plane.TheConstants.{MAX_WIDTH, MAX_HEIGHT}
use Rattle.pr_geom.specs.declared.places.TheConstants.{MAX_SLICES}
use Rattle.pr_geom.specs.Slices.{pictures_of}
use Rattle.pr_head.specs.declared.frame.FrameHeader.{FrameHeader}
use Rattle.pr_head.specs.declared.start.Start.{Start}
use Rattle.pr_head.specs.declared.picture.PictureHeader.{PictureHeader}
use Rattle.pr_head.specs.declared.slice.SliceHeader.{SliceHeader}
use Rattle.pr_head.specs.Bytes.{number16, number32}
use Rattle.pr_head.specs.Header.{icpf, chroma_code, interlace_code, alpha_code, chroma_of, interlace_of, alpha_of, start_of, chroma_bits, interlace_bits, alpha_bits, loads_luma, loads_chroma, matrix_size, matrix_at, header_of, Opened, opened_of, size_fault, form_fault, header_at, HasSizes, HasForm, IsHeader, frame_header_bytes}
use Rattle.pr_head.specs.Picture.{slices_in, picture_of, picture_fault, picture_at, picture_header_bytes, sizes_of, table_at}
use Rattle.pr_head.specs.Slice.{least_slice_header, slice_size, stated_of, with_last, slice_fault, slice_at, slice_header_bytes}
use Rattle.pr_head.specs.Laws.{FrameHeaderIsReadAgain, PictureHeaderIsReadAgain, sizes_bytes, SliceSizesAreReadAgain, SliceHeaderIsReadAgain}
use Rattle.pr_head.proofs.Places.{take_front, drop_front}
use Rattle.pw_outside.proofs.Steps.{bind-step, refuse-step}

-- ---- the codes

chroma_back : (c : Chroma) → chroma_of (chroma_code c) ≡ c
chroma_back C422 = refl
chroma_back C444 = refl

interlace_back : (i : Interlace) → interlace_of (interlace_code i) ≡ i
interlace_back Progressive = refl
interlace_back TopFirst = refl
interlace_back BottomFirst = refl

alpha_back : (a : AlphaKind) → alpha_of (alpha_code a) ≡ a
alpha_back Absent = refl
alpha_back Eight = refl
alpha_back Sixteen = refl

interlace_small : (i : Interlace) → interlace_code i < 3
interlace_small Progressive = lit< tt
interlace_small TopFirst = lit< tt
interlace_small BottomFirst = lit< tt

alpha_small : (a : AlphaKind) → alpha_code a < 3
alpha_small Absent = lit< tt
alpha_small Eight = lit< tt
alpha_small Sixteen = lit< tt

chroma_range : (c : Chroma) → (2 ≤ chroma_code c) × (chroma_code c < 4)
chroma_range C422 = (lit≤ tt, lit< tt)
chroma_range C444 = (lit≤ tt, lit< tt)

-- ---- none of the faults

sizes-none : (n : ℕ) (r : Start) → r.mark ≡ icpf → HasSizes n r → size_fault n r ≡ Ok tt
unfolding size_fault
sizes-none n r mark h =
    refuse-step _ _ _ _ (ap (λ m. not (m == icpf)) mark)
    ∙ refuse-step _ _ _ _ (le-ltb _ _ h.least)
    ∙ refuse-step _ _ _ _ (le-ltb _ _ h.most)
    ∙ refuse-step _ _ _ _ (le-ltb _ _ h.header)
    ∙ refuse-step _ _ _ _ (le-ltb _ _ h.within)

form-none : (r : Start) → 2 ≤ chroma_bits r → interlace_bits r < 3 → alpha_bits r < 3 → HasForm r → form_fault r ≡ Ok tt
unfolding form_fault
form-none r chroma interlace alpha h =
    refuse-step _ _ _ _ (le-ltb _ _ h.version)
    ∙ refuse-step _ _ _ _ (le-ltb _ _ chroma)
    ∙ refuse-step _ _ _ _ (ne_eqb _ _ (λ e. omega arith))
    ∙ refuse-step _ _ _ _ (le-ltb _ _ (omega arith))
    ∙ refuse-step _ _ _ _ (or_from (r.width == 0) (r.height == 0) (ne_eqb _ _ (λ e. omega (arith, h.some_columns))) (ne_eqb _ _ (λ e. omega (arith, h.some_rows))))
    ∙ refuse-step _ _ _ _ (or_from (nat_lt MAX_WIDTH r.width) (nat_lt MAX_HEIGHT r.height) (le-ltb _ _ h.columns) (le-ltb _ _ h.rows))
    ∙ refuse-step _ _ _ _ (le-ltb _ _ (let e : r.height % pictures_of (interlace_of (interlace_bits r)) ≡ 0 = h.whole in omega (arith, e)))

-- ---- the frame

-- the bytes of a header with an identifier of four bytes
with_encoder : FrameHeader → ℕ → List ℕ → List ℕ → List ℕ
with_encoder h size encoder rest =
    (to_be_bytes w32 size ++ to_be_bytes w32 icpf ++ to_be_bytes w16 148 ++ (0 ∷ h.version ∷ []) ++ encoder ++ to_be_bytes w16 h.width ++ to_be_bytes w16 h.height
    ++ ((chroma_code h.chroma * 64 + interlace_code h.interlace * 4) ∷ (h.aspect * 16 + h.rate) ∷ h.primaries ∷ h.transfer ∷ h.matrix ∷ alpha_code h.alpha ∷ 0 ∷ 3 ∷ [])
    ++ h.luma ++ h.chroma_weights) ++ rest

-- the fields of these bytes
start_again : FrameHeader → ℕ → List ℕ → Start
start_again h size encoder = record {
  size = size;
  mark = icpf;
  header = 148;
  version = h.version;
  encoder = encoder;
  width = h.width;
  height = h.height;
  forms = chroma_code h.chroma * 64 + interlace_code h.interlace * 4;
  rates = h.aspect * 16 + h.rate;
  primaries = h.primaries;
  transfer = h.transfer;
  matrix = h.matrix;
  alpha = alpha_code h.alpha;
  loads = 3;
}

start-is : (h : FrameHeader) (size a b c d : ℕ) (rest : List ℕ) → IsHeader h → size < 2 ^ 32
    → start_of (with_encoder h size (a ∷ b ∷ c ∷ d ∷ []) rest) ≡ start_again h size (a ∷ b ∷ c ∷ d ∷ [])
unfolding start_of with_encoder start_again number16 number32
start-is h size a b c d rest is small =
    let e0 = from_be_bytes-to_be_bytes_4 size small in
    let e1 = from_be_bytes-to_be_bytes_2 h.width (omega (arith, is.layout.columns)) in
    let e2 = from_be_bytes-to_be_bytes_2 h.height (omega (arith, is.layout.rows)) in
    λ j. record {
      size = e0 j;
      mark = icpf;
      header = 148;
      version = h.version;
      encoder = a ∷ b ∷ c ∷ d ∷ [];
      width = e1 j;
      height = e2 j;
      forms = chroma_code h.chroma * 64 + interlace_code h.interlace * 4;
      rates = h.aspect * 16 + h.rate;
      primaries = h.primaries;
      transfer = h.transfer;
      matrix = h.matrix;
      alpha = alpha_code h.alpha;
      loads = 3;
    }

form-again : (h : FrameHeader) (size : ℕ) (encoder : List ℕ) → IsHeader h → form_fault (start_again h size encoder) ≡ Ok tt
unfolding start_again
form-again h size encoder is =
    let ch = chroma_range h.chroma in
    let il = interlace_small h.interlace in
    let al = alpha_small h.alpha in
    let mode : (chroma_code h.chroma * 64 + interlace_code h.interlace * 4) / 4 % 4 ≡ interlace_code h.interlace = omega arith in
    form-none (start_again h size encoder) (omega arith) (omega arith) (omega arith) (record {
      version = is.version;
      some_columns = is.layout.some_columns;
      some_rows = is.layout.some_rows;
      columns = is.layout.columns;
      rows = is.layout.rows;
      whole = ap (λ m. h.height % pictures_of (interlace_of m)) mode ∙ ap (λ i. h.height % pictures_of i) (interlace_back h.interlace) ∙ is.layout.whole;
    })

frame_sizes-again : (h : FrameHeader) (size n : ℕ) (encoder : List ℕ) → 156 ≤ size → size ≤ n → size_fault n (start_again h size encoder) ≡ Ok tt
unfolding start_again
frame_sizes-again h size n encoder least most = sizes-none n (start_again h size encoder) refl (record { least = omega arith; most = most; header = lit≤ tt; within = least })

-- what a header that was opened has, as a function of the fields
opened_with : Start → List ℕ → Opened
opened_with r s = record {
  header = header_of r (matrix_at (loads_luma r) (replicate 64 4) (drop 28 s)) (matrix_at (loads_chroma r) (matrix_at (loads_luma r) (replicate 64 4) (drop 28 s)) (drop (28 + matrix_size (loads_luma r)) s));
  taken = 8 + r.header;
  size = r.size;
}

header-again : (h : FrameHeader) (size : ℕ) (encoder s : List ℕ) → IsHeader h → h.encoder ≡ encoder → take 64 (drop 28 s) ≡ h.luma → take 64 (drop 92 s) ≡ h.chroma_weights
    → opened_with (start_again h size encoder) s ≡ record { header = h; taken = 156; size = size }
unfolding opened_with start_again
header-again h size encoder s is e luma chroma =
    let ch = chroma_range h.chroma in
    let il = interlace_small h.interlace in
    let code : (chroma_code h.chroma * 64 + interlace_code h.interlace * 4) / 64 ≡ chroma_code h.chroma = omega arith in
    let mode : (chroma_code h.chroma * 64 + interlace_code h.interlace * 4) / 4 % 4 ≡ interlace_code h.interlace = omega arith in
    let al = alpha_small h.alpha in
    let kind : alpha_code h.alpha % 16 ≡ alpha_code h.alpha = omega arith in
    let aspect : (h.aspect * 16 + h.rate) / 16 ≡ h.aspect = omega (arith, is.aspect, is.rate) in
    let rate : (h.aspect * 16 + h.rate) % 16 ≡ h.rate = omega (arith, is.aspect, is.rate) in
    let c = ap chroma_of code ∙ chroma_back h.chroma in
    let i = ap interlace_of mode ∙ interlace_back h.interlace in
    let a = ap alpha_of kind ∙ alpha_back h.alpha in
    let enc = sym e in
    λ j. record {
      header = record {
        version = h.version;
        encoder = enc j;
        width = h.width;
        height = h.height;
        chroma = c j;
        interlace = i j;
        aspect = aspect j;
        rate = rate j;
        primaries = h.primaries;
        transfer = h.transfer;
        matrix = h.matrix;
        alpha = a j;
        luma = luma j;
        chroma_weights = chroma j;
      };
      taken = 156;
      size = size;
    }

luma-again : (h : FrameHeader) (size a b c d : ℕ) (rest : List ℕ) → IsHeader h → take 64 (drop 28 (with_encoder h size (a ∷ b ∷ c ∷ d ∷ []) rest)) ≡ h.luma
unfolding with_encoder
luma-again h size a b c d rest is = ap (take 64) (append_assoc h.luma h.chroma_weights rest) ∙ take_front h.luma (h.chroma_weights ++ rest) 64 is.luma

chroma-again : (h : FrameHeader) (size a b c d : ℕ) (rest : List ℕ) → IsHeader h → take 64 (drop 92 (with_encoder h size (a ∷ b ∷ c ∷ d ∷ []) rest)) ≡ h.chroma_weights
unfolding with_encoder
chroma-again h size a b c d rest is = ap (λ l. take 64 (drop 64 l)) (append_assoc h.luma h.chroma_weights rest) ∙ ap (take 64) (drop_front h.luma (h.chroma_weights ++ rest) 64 is.luma) ∙ take_front h.chroma_weights rest 64 is.chroma_weights

rest-again : (h : FrameHeader) (size a b c d : ℕ) (rest : List ℕ) → IsHeader h → drop 156 (with_encoder h size (a ∷ b ∷ c ∷ d ∷ []) rest) ≡ rest
unfolding with_encoder
rest-again h size a b c d rest is = drop_front (h.luma ++ h.chroma_weights) rest 128 (omega (arith, length-append h.luma h.chroma_weights, is.luma, is.chroma_weights))

with-again : (h : FrameHeader) (size n a b c d : ℕ) (rest : List ℕ) → IsHeader h → h.encoder ≡ a ∷ b ∷ c ∷ d ∷ [] → 156 ≤ size → size ≤ n → size < 2 ^ 32
    → header_at n (with_encoder h size (a ∷ b ∷ c ∷ d ∷ []) rest) ≡ Ok (record { header = h; taken = 156; size = size }, record { place = 156; bytes = rest })
unfolding header_at opened_with
with-again h size n a b c d rest is e least most small =
    let s = with_encoder h size (a ∷ b ∷ c ∷ d ∷ []) rest in
    let r = start_again h size (a ∷ b ∷ c ∷ d ∷ []) in
    let same : start_of s ≡ r = start-is h size a b c d rest is small in
    let open-is : opened_of s ≡ record { header = h; taken = 156; size = size } =
    ap (λ (q : Start). opened_with q s) same ∙ header-again h size (a ∷ b ∷ c ∷ d ∷ []) s is e (luma-again h size a b c d rest is) (chroma-again h size a b c d rest is) in
    let rest-is = rest-again h size a b c d rest is in
    refuse-step _ _ _ _ (le-ltb n 28 (omega arith))
    ∙ bind-step _ _ (ap (size_fault n) same ∙ frame_sizes-again h size n (a ∷ b ∷ c ∷ d ∷ []) least most)
    ∙ bind-step _ _ (ap form_fault same ∙ form-again h size (a ∷ b ∷ c ∷ d ∷ []) is)
    ∙ ap (λ (o : Opened). Ok (o, record { place = o.taken; bytes = drop o.taken s })) open-is
    ∙ ap (λ (l : List ℕ). Ok (record { header = h; taken = 156; size = size }, record { place = 156; bytes = l })) rest-is

four : (l : List ℕ) → length l ≡ 4 → l ≡ get_or l 0 0 ∷ get_or l 1 0 ∷ get_or l 2 0 ∷ get_or l 3 0 ∷ []
four (a ∷ b ∷ c ∷ d ∷ []) e = refl
four [] e = absurd (omega arith)
four (a ∷ []) e = absurd (omega arith)
four (a ∷ b ∷ []) e = absurd (omega arith)
four (a ∷ b ∷ c ∷ []) e = absurd (omega arith)
four (a ∷ b ∷ c ∷ d ∷ x ∷ l) e = absurd (omega arith)

pub frame-again : FrameHeaderIsReadAgain
unfolding with_encoder frame_header_bytes
frame-again h size n rest is least most small =
    let e = four h.encoder is.encoder in
    let w = with-again h size n (get_or h.encoder 0 0) (get_or h.encoder 1 0) (get_or h.encoder 2 0) (get_or h.encoder 3 0) rest is e least most small in
    subst (λ enc. header_at n (with_encoder h size enc rest) ≡ Ok (record { header = h; taken = 156; size = size }, record { place = 156; bytes = rest })) (sym e) w

-- ---- a picture

picture-is : (size slices log2 : ℕ) (rest : List ℕ) → size < 2 ^ 32 → log2 ≤ 3 → picture_of (picture_header_bytes size slices log2 ++ rest) ≡ record { header = 8; size = size; log2 = log2 }
unfolding picture_of picture_header_bytes number32
picture-is size slices log2 rest small le =
    let e = from_be_bytes-to_be_bytes_4 size small in
    let f : log2 * 16 / 16 % 4 ≡ log2 = omega arith in
    λ j. record { header = 8; size = e j; log2 = f j }

picture-rest : (size slices log2 : ℕ) (rest : List ℕ) → drop 8 (picture_header_bytes size slices log2 ++ rest) ≡ rest
unfolding picture_header_bytes
picture-rest size slices log2 rest = refl

picture-none : (F at : ℕ) (h : FrameHeader) (r : PictureHeader) → 8 ≤ r.header → r.header ≤ r.size → at + r.size ≤ F → slices_in h r ≤ MAX_SLICES → picture_fault F h at r ≡ Ok tt
unfolding picture_fault
picture-none F at h r least whole within few =
    refuse-step _ _ _ _ (le-ltb _ _ least)
    ∙ refuse-step _ _ _ _ (le-ltb _ _ whole)
    ∙ refuse-step _ _ _ _ (le-ltb _ _ within)
    ∙ refuse-step _ _ _ _ (le-ltb _ _ few)

pub picture-again : PictureHeaderIsReadAgain
unfolding picture_at
picture-again F at h size slices log2 rest least within small le few =
    let s = picture_header_bytes size slices log2 ++ rest in
    let same = picture-is size slices log2 rest small le in
    let r : PictureHeader = record { header = 8; size = size; log2 = log2 } in
    refuse-step _ _ _ _ (le-ltb F (at + 8) (omega arith))
    ∙ bind-step _ _ (ap (picture_fault F h at) same ∙ picture-none F at h r (lit≤ tt) least within few)
    ∙ ap (λ (q : PictureHeader). Ok (q, record { place = at + q.header; bytes = drop q.header s })) same
    ∙ ap (λ (l : List ℕ). Ok (r, record { place = at + 8; bytes = l })) (picture-rest size slices log2 rest)

numbers-again : (sizes rest : List ℕ) → All (λ size. size < 2 ^ 16) sizes → sizes_of (length sizes) (sizes_bytes sizes ++ rest) ≡ sizes
unfolding sizes_of number16
numbers-again [] rest small = refl
numbers-again (size ∷ sizes) rest small =
    let e = from_be_bytes-to_be_bytes_2 size (All-head (λ n. n < 2 ^ 16) size sizes small) in
    let f = numbers-again sizes rest (All-tail (λ n. n < 2 ^ 16) size sizes small) in
    λ j. e j ∷ f j

numbers-rest : (sizes rest : List ℕ) → drop (2 * length sizes) (sizes_bytes sizes ++ rest) ≡ rest
numbers-rest [] rest = refl
numbers-rest (size ∷ sizes) rest =
    let count : 2 * suc (length sizes) ≡ suc (suc (2 * length sizes)) = omega arith in
    ap (λ n. drop n (sizes_bytes (size ∷ sizes) ++ rest)) count ∙ numbers-rest sizes rest

pub sizes-again : SliceSizesAreReadAgain
unfolding table_at
sizes-again r at sizes rest small within =
    let s = sizes_bytes sizes ++ rest in
    let same = numbers-again sizes rest small in
    refuse-step _ _ _ _ (le-ltb r.size (r.header + 2 * length sizes) (omega arith))
    ∙ refuse-step _ _ _ _ (ap (λ l. nat_lt r.size (r.header + 2 * length sizes + sum l)) same ∙ le-ltb r.size (r.header + 2 * length sizes + sum sizes) within)
    ∙ (let d = numbers-rest sizes rest in λ j. Ok (same j, record { place = at + 2 * length sizes; bytes = d j }))

-- ---- a slice

-- the stated fields of a header
stated_again : Bool → SliceHeader → SliceHeader
stated_again alpha r = record { header = r.header; index = r.index; y = r.y; cb = r.cb; cr = if alpha then r.cr else 0; alpha = 0 }

slice-is : (alpha : Bool) (r : SliceHeader) (rest : List ℕ) → r.y < 2 ^ 16 → r.cb < 2 ^ 16 → r.cr < 2 ^ 16
    → stated_of alpha (slice_header_bytes r alpha ++ rest) ≡ stated_again alpha r
unfolding stated_of slice_header_bytes number16 stated_again
slice-is true r rest y cb cr =
    let e0 : r.header * 8 / 8 ≡ r.header = omega arith in
    let e1 = from_be_bytes-to_be_bytes_2 r.y y in
    let e2 = from_be_bytes-to_be_bytes_2 r.cb cb in
    let e3 = from_be_bytes-to_be_bytes_2 r.cr cr in
    λ j. record { header = e0 j; index = r.index; y = e1 j; cb = e2 j; cr = e3 j; alpha = 0 }
slice-is false r rest y cb cr =
    let e0 : r.header * 8 / 8 ≡ r.header = omega arith in
    let e1 = from_be_bytes-to_be_bytes_2 r.y y in
    let e2 = from_be_bytes-to_be_bytes_2 r.cb cb in
    λ j. record { header = e0 j; index = r.index; y = e1 j; cb = e2 j; cr = 0; alpha = 0 }

slice-rest : (alpha : Bool) (r : SliceHeader) (rest : List ℕ) → r.header ≡ least_slice_header alpha → drop r.header (slice_header_bytes r alpha ++ rest) ≡ rest
unfolding slice_header_bytes
slice-rest true r rest e = ap (λ n. drop n (slice_header_bytes r true ++ rest)) e
slice-rest false r rest e = ap (λ n. drop n (slice_header_bytes r false ++ rest)) e

last-again : (size : ℕ) (alpha : Bool) (r : SliceHeader) → slice_size r ≡ size → (if alpha then 0 else r.alpha) ≡ 0 → with_last size alpha (stated_again alpha r) ≡ r
unfolding stated_again
last-again size true r whole none =
    let e : size - (r.header + r.y + r.cb + r.cr + 0) ≡ r.alpha = omega arith in
    λ j. record { header = r.header; index = r.index; y = r.y; cb = r.cb; cr = r.cr; alpha = e j }
last-again size false r whole none =
    let e : size - (r.header + r.y + r.cb + 0 + 0) ≡ r.cr = omega arith in
    let f = sym none in
    λ j. record { header = r.header; index = r.index; y = r.y; cb = r.cb; cr = e j; alpha = f j }

stated-small : (alpha : Bool) (r : SliceHeader) → slice_size (stated_again alpha r) ≤ slice_size r
unfolding stated_again
stated-small true r = omega arith
stated-small false r = omega arith

slice-none : (size at : ℕ) (alpha : Bool) (r : SliceHeader) → least_slice_header alpha ≤ r.header → r.header ≤ size → 1 ≤ r.index → r.index ≤ 224 → slice_size r ≤ size → slice_fault size alpha at r ≡ Ok tt
unfolding slice_fault
slice-none size at alpha r least most from to within =
    refuse-step _ _ _ _ (le-ltb _ _ least)
    ∙ refuse-step _ _ _ _ (le-ltb _ _ most)
    ∙ refuse-step _ _ _ _ (or_from (r.index == 0) (nat_lt 224 r.index) (ne_eqb _ _ (λ e. omega arith)) (le-ltb _ _ to))
    ∙ refuse-step _ _ _ _ (le-ltb _ _ within)

fields-again : (alpha : Bool) (r : SliceHeader) → ((stated_again alpha r).header ≡ r.header) × ((stated_again alpha r).index ≡ r.index)
unfolding stated_again
fields-again alpha r = (refl, refl)

pub slice-again : SliceHeaderIsReadAgain
unfolding slice_at
slice-again size at alpha r rest is small e none =
    let s = slice_header_bytes r alpha ++ rest in
    let same = slice-is alpha r rest (omega (arith, is.whole)) (omega (arith, is.whole)) (omega (arith, is.whole)) in
    let q = stated_again alpha r in
    let fields = fields-again alpha r in
    let within = stated-small alpha r in
    refuse-step _ _ _ _ (le-ltb size (least_slice_header alpha) (omega (arith, is.least, is.whole)))
    ∙ bind-step _ _ (ap (slice_fault size alpha at) same
    ∙ slice-none size at alpha q (subst (λ n. least_slice_header alpha ≤ n) (sym fields.0) is.least) (subst (λ n. n ≤ size) (sym fields.0) (omega (arith, is.whole))) (subst (λ n. 1 ≤ n) (sym fields.1) is.index_from) (subst (λ n. n ≤ 224) (sym fields.1) is.index_to) (omega (arith, is.whole, within)))
    ∙ ap (λ (v : SliceHeader). Ok (with_last size alpha v, record { place = at + v.header; bytes = drop v.header s })) same
    ∙ ap (λ n. Ok (with_last size alpha q, record { place = at + n; bytes = drop n s })) fields.0
    ∙ (let l = last-again size alpha r is.whole none in let d = slice-rest alpha r rest e in λ j. Ok (l j, record { place = at + r.header; bytes = d j }))
