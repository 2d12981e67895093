-- If all bytes are there, reading step by step is the definition by offsets.
use Rattle.std.proofs.Common.{◌≡◌, ℕ, zero, suc, ◌+◌, ◌-◌, ◌*◌, ◌/◌, ◌%◌, ◌≤◌, Bool, true, false, if◌then◌else◌, List, [], ◌∷◌, length, take, drop, replicate, Ok, refl, sym, ap, ◌∙◌, arith, length-drop}
use Rattle.std.proofs.lemmas.Bool.{le-ltb, ltb-false}
use Rattle.std.proofs.lemmas.List.{drop-drop, get_or-take}
use Rattle.pw_outside.specs.Reading.{Rest}
use Rattle.pr_head.specs.declared.fault.FrameKind.{FrameKind}
use Rattle.pr_head.specs.declared.fault.FrameKind.TheVariants as kinds
use Rattle.pr_head.specs.declared.frame.FrameHeader.{FrameHeader}
use Rattle.pr_head.specs.declared.start.Start.{Start}
use Rattle.pr_head.specs.declared.picture.PictureHeader.{PictureHeader}
use Rattle.pr_head.specs.declared.slice.SliceHeader.{SliceHeader}
use Rattle.pr_head.specs.Bytes.{number16}
use Rattle.pr_head.specs.Header.{start_of, loads_luma, loads_chroma, matrix_size, matrices_size, matrix_at, luma_of, size_fault, header_at, HasSizes}
use Rattle.pr_head.specs.Picture.{picture_of, picture_fault, picture_at, sizes_of, table_at}
use Rattle.pr_head.specs.Slice.{least_slice_header, stated_of, slice_fault, with_last, slice_at}
use Rattle.pr_head.specs.inner.Steps.{piece_at, matrix_in, start_in, matrices_in, header_in, picture_in, size_in, sizes_in, table_in, stated_in, cr_in, slice_in}
use Rattle.pr_head.proofs.Places.{front_piece, number16-front, number32-front, number16-drop}
use Rattle.pr_head.proofs.Passing.{ahead, same_rest, ahead-ahead, ahead-none, passed-whole}
use Rattle.pw_outside.proofs.Steps.{bind-step, bind-first, bind-same, bind-ok, bind-bind, refuse-ok}

piece-whole : (kind : FrameKind) (at n : ℕ) (s : Rest) → n ≤ length s.bytes → piece_at kind at n s ≡ Ok (take n s.bytes, ahead n s)
piece-whole kind at n s h = rw (le-ltb (length s.bytes) n h) refl

matrix-whole : (loaded : Bool) (other : List ℕ) (s : Rest) → matrix_size loaded ≤ length s.bytes
    → matrix_in loaded other s ≡ Ok (matrix_at loaded other s.bytes, ahead (matrix_size loaded) s)
unfolding matrix_in
matrix-whole true other s h = piece-whole kinds.FrameSize 0 64 s h
matrix-whole false other s h = ap (λ (r : Rest). Ok (other, r)) (sym (ahead-none s))

-- ---- the frame

start-front : (l : List ℕ) → start_of (take 28 l) ≡ start_of l
unfolding start_of
start-front l = λ j. record {
  size = number32-front 28 0 l (omega arith) j;
  mark = number32-front 28 4 l (omega arith) j;
  header = number16-front 28 8 l (omega arith) j;
  version = get_or-take 28 l 11 0 (omega arith) j;
  encoder = front_piece 4 12 28 l (omega arith) j;
  width = number16-front 28 16 l (omega arith) j;
  height = number16-front 28 18 l (omega arith) j;
  forms = get_or-take 28 l 20 0 (omega arith) j;
  rates = get_or-take 28 l 21 0 (omega arith) j;
  primaries = get_or-take 28 l 22 0 (omega arith) j;
  transfer = get_or-take 28 l 23 0 (omega arith) j;
  matrix = get_or-take 28 l 24 0 (omega arith) j;
  alpha = get_or-take 28 l 25 0 (omega arith) j;
  loads = get_or-take 28 l 27 0 (omega arith) j;
}

pub sizes-found : (n : ℕ) (r : Start) {x : Unit {0}} → size_fault n r ≡ Ok x → HasSizes n r
unfolding size_fault
sizes-found n r e =
    let e1 = bind-ok _ _ e in
    let e2 = bind-ok _ _ e1.2 in
    let e3 = bind-ok _ _ e2.2 in
    let e4 = bind-ok _ _ e3.2 in
    let e5 = bind-ok _ _ e4.2 in
    record {
      least = ltb-false _ _ (refuse-ok _ _ _ e2.1);
      most = ltb-false _ _ (refuse-ok _ _ _ e3.1);
      header = ltb-false _ _ (refuse-ok _ _ _ e4.1);
      within = ltb-false _ _ (refuse-ok _ _ _ e5.1);
    }

matrices-whole : (r : Start) (s : Rest) (l : List ℕ) → r ≡ start_of l → s.bytes ≡ drop 28 l → s.place ≡ 28 → 20 + matrices_size r ≤ r.header → 8 + r.header ≤ length l
    → matrices_in r s ≡ Ok ((luma_of l, matrix_at (loads_chroma r) (luma_of l) (drop (28 + matrix_size (loads_luma r)) l)), record { place = 8 + r.header; bytes = drop (8 + r.header) l })
unfolding matrices_in
matrices-whole r s l er es ep least whole =
    let a = matrix_size (loads_luma r) in
    let b = matrix_size (loads_chroma r) in
    let k = r.header - (20 + (a + b)) in
    let n0 : length s.bytes + 28 ≡ length l = omega (arith, ap length es, length-drop 28 l) in
    let n1 : length (drop a s.bytes) + (28 + a) ≡ length l = omega (arith, length-drop a s.bytes) in
    let n2 : length (drop b (drop a s.bytes)) + (28 + (a + b)) ≡ length l = omega (arith, length-drop b (drop a s.bytes)) in
    let luma-is : matrix_at (loads_luma r) (replicate 64 4) s.bytes ≡ luma_of l = ap (λ v. matrix_at (loads_luma r) (replicate 64 4) v) es ∙ ap (λ (q : Start). matrix_at (loads_luma q) (replicate 64 4) (drop 28 l)) er in
    let next-is : drop a s.bytes ≡ drop (28 + a) l = ap (drop a) es ∙ drop-drop a 28 l in
    let place-is : (8 + r.header) ≡ s.place + a + b + k = omega arith in
    let rest-is : ahead k (ahead b (ahead a s)) ≡ record { place = 8 + r.header; bytes = drop (8 + r.header) l } =
    let count : 28 + a + b + k ≡ 8 + r.header = omega arith in
    same_rest _ _ (sym place-is) (ap (λ v. drop k (drop b v)) next-is ∙ ap (drop k) (drop-drop b (28 + a) l) ∙ drop-drop k (28 + a + b) l ∙ ap (λ m. drop m l) count) in
    bind-step _ _ (matrix-whole (loads_luma r) (replicate 64 4) s (omega arith))
    ∙ bind-step _ _ (matrix-whole (loads_chroma r) (matrix_at (loads_luma r) (replicate 64 4) s.bytes) (ahead a s) (omega arith))
    ∙ bind-step _ _ (passed-whole kinds.FrameSize 0 k (ahead b (ahead a s)) (omega arith))
    ∙ (λ j. Ok ((luma-is j, matrix_at (loads_chroma r) (luma-is j) (next-is j)), rest-is j))

pub header-same : (n : ℕ) (s : Rest) → s.place ≡ 0 → n ≤ length s.bytes → header_in n s ≡ header_at n s.bytes
unfolding header_in start_in header_at
header-same n s p enough =
    let l = s.bytes in
    bind-bind _ _ _ ∙ bind-same _ _ _ (λ _ h1.
    let some : 28 ≤ n = ltb-false _ _ (refuse-ok _ _ _ h1) in
    let first : 28 ≤ length l = omega arith in
    bind-first _ _ _ (bind-step _ _ (piece-whole kinds.FrameShort 0 28 s first))
    ∙ rw (start-front l) (bind-bind _ _ _ ∙ bind-same _ _ _ (λ _ h2.
    let sizes = sizes-found n (start_of l) h2 in
    bind-bind _ _ _ ∙ bind-same _ _ _ (λ _ h3.
    bind-step _ _ refl
    ∙ bind-step _ _ (matrices-whole (start_of l) (ahead 28 s) l refl refl (omega arith) (omega arith) (omega arith))))))

-- ---- a picture

picture-front : (l : List ℕ) → picture_of (take 8 l) ≡ picture_of l
unfolding picture_of
picture-front l = λ j. record {
  header = ap (λ b. b / 8) (get_or-take 8 l 0 0 (omega arith)) j;
  size = number32-front 8 1 l (omega arith) j;
  log2 = ap (λ b. b / 16 % 4) (get_or-take 8 l 7 0 (omega arith)) j;
}

picture-found : (F at : ℕ) (h : FrameHeader) (r : PictureHeader) {x : Unit {0}} → picture_fault F h at r ≡ Ok x → (8 ≤ r.header) × (r.header ≤ r.size) × (at + r.size ≤ F)
unfolding picture_fault
picture-found F at h r e =
    let e1 = bind-ok _ _ e in
    let e2 = bind-ok _ _ e1.2 in
    let e3 = bind-ok _ _ e2.2 in
    (ltb-false _ _ (refuse-ok _ _ _ e1.1), ltb-false _ _ (refuse-ok _ _ _ e2.1), ltb-false _ _ (refuse-ok _ _ _ e3.1))

pub picture-same : (F : ℕ) (h : FrameHeader) (s : Rest) → F ≤ s.place + length s.bytes → picture_in F h s ≡ picture_at F h s
unfolding picture_in picture_at
picture-same F h s enough =
    let l = s.bytes in
    bind-same _ _ _ (λ _ h1.
    let some : s.place + 8 ≤ F = ltb-false _ _ (refuse-ok _ _ _ h1) in
    let first : 8 ≤ length l = omega arith in
    bind-step _ _ (piece-whole kinds.PictureHeader s.place 8 s first)
    ∙ rw (picture-front l) (bind-same _ _ _ (λ _ h2.
    let found = picture-found F s.place h (picture_of l) h2 in
    let k = (picture_of l).header - 8 in
    let count : 8 + k ≡ (picture_of l).header = omega (arith, found.0) in
    let enough2 : k ≤ length (drop 8 l) = omega (arith, length-drop 8 l, found.0, found.1, found.2) in
    bind-step _ _ (passed-whole kinds.PictureHeader s.place k (ahead 8 s) enough2)
    ∙ ap (λ (r : Rest). Ok (picture_of l, r)) (ahead-ahead k 8 s ∙ ap (λ m. ahead m s) count))))

sizes-whole : (at slices : ℕ) (s : Rest) → 2 * slices ≤ length s.bytes → sizes_in at slices s ≡ Ok (sizes_of slices s.bytes, ahead (2 * slices) s)
unfolding sizes_in size_in sizes_of
sizes-whole at zero s h = ap (λ (r : Rest). Ok ([], r)) (sym (ahead-none s))
sizes-whole at (suc slices) s h =
    let one : size_in at s ≡ Ok (number16 s.bytes 0, ahead 2 s) = bind-step _ _ (piece-whole kinds.SliceTable at 2 s (omega arith)) ∙ ap (λ m. Ok (m, ahead 2 s)) (number16-drop 0 s.bytes) in
    let count : 2 + 2 * slices ≡ 2 * suc slices = omega arith in
    bind-step _ _ one
    ∙ bind-step _ _ (sizes-whole at slices (ahead 2 s) (omega (arith, length-drop 2 s.bytes)))
    ∙ ap (λ (r : Rest). Ok (number16 s.bytes 0 ∷ sizes_of slices (drop 2 s.bytes), r)) (ahead-ahead (2 * slices) 2 s ∙ ap (λ m. ahead m s) count)

pub table-same : (r : PictureHeader) (slices : ℕ) (s : Rest) → r.size ≤ r.header + length s.bytes → table_in r slices s ≡ table_at r slices s
unfolding table_in table_at
table-same r slices s enough = bind-same _ _ _ (λ _ h1.
    let some : r.header + 2 * slices ≤ r.size = ltb-false _ _ (refuse-ok _ _ _ h1) in
    bind-step _ _ (sizes-whole s.place slices s (omega arith)))

-- ---- a slice

cr-whole : (stated : Bool) (at : ℕ) (s : Rest) → least_slice_header stated ≤ 6 + length s.bytes → (cr : List ℕ) × (cr_in at stated s ≡ Ok (cr, ahead (least_slice_header stated - 6) s)) × (number16 cr 0 ≡ (if stated then number16 s.bytes 0 else 0))
unfolding cr_in number16
cr-whole true at s h = (take 2 s.bytes, piece-whole kinds.SliceHeader at 2 s (omega arith), number16-drop 0 s.bytes)
cr-whole false at s h = (replicate 2 0, ap (λ (r : Rest). Ok (replicate 2 0, r)) (sym (ahead-none s)), refl)

number16-further : (k : ℕ) (l : List ℕ) → number16 (drop k l) 0 ≡ number16 l k
unfolding number16
number16-further k l = refl

stated-whole : (alpha : Bool) (l cr : List ℕ) → number16 cr 0 ≡ (if alpha then number16 (drop 6 l) 0 else 0) → stated_in (take 6 l) cr ≡ stated_of alpha l
unfolding stated_in stated_of
stated-whole alpha l cr e = λ j. record {
  header = ap (λ b. b / 8) (get_or-take 6 l 0 0 (omega arith)) j;
  index = get_or-take 6 l 1 0 (omega arith) j;
  y = number16-front 6 2 l (omega arith) j;
  cb = number16-front 6 4 l (omega arith) j;
  cr = (e ∙ ap (λ n. if alpha then n else 0) (number16-further 6 l)) j;
  alpha = 0;
}

slice-found : (size at : ℕ) (alpha : Bool) (r : SliceHeader) {x : Unit {0}} → slice_fault size alpha at r ≡ Ok x → (least_slice_header alpha ≤ r.header) × (r.header ≤ size)
unfolding slice_fault
slice-found size at alpha r e =
    let e1 = bind-ok _ _ e in
    let e2 = bind-ok _ _ e1.2 in
    (ltb-false _ _ (refuse-ok _ _ _ e1.1), ltb-false _ _ (refuse-ok _ _ _ e2.1))

least-is : (alpha : Bool) → 6 ≤ least_slice_header alpha
least-is true = omega arith
least-is false = omega arith

pub slice-same : (size : ℕ) (alpha : Bool) (s : Rest) → size ≤ length s.bytes → slice_in size alpha s ≡ slice_at size alpha s
unfolding slice_in slice_at
slice-same size alpha s enough =
    let l = s.bytes in
    let n = least_slice_header alpha in
    let six = least-is alpha in
    bind-same _ _ _ (λ _ h1.
    let some : n ≤ size = ltb-false _ _ (refuse-ok _ _ _ h1) in
    let cr = cr-whole alpha s.place (ahead 6 s) (omega (arith, length-drop 6 l)) in
    let same = stated-whole alpha l cr.0 cr.2 in
    bind-step _ _ (piece-whole kinds.SliceHeader s.place 6 s (omega arith))
    ∙ bind-step _ _ cr.1
    ∙ rw same (bind-same _ _ _ (λ _ h2.
    let found = slice-found size s.place alpha (stated_of alpha l) h2 in
    let k = (stated_of alpha l).header - n in
    let rest = ahead (n - 6) (ahead 6 s) in
    let count : 6 + (n - 6) + k ≡ (stated_of alpha l).header = omega (arith, found.0) in
    let enough2 : k ≤ length (drop (n - 6) (drop 6 l)) = omega (arith, length-drop (n - 6) (drop 6 l), length-drop 6 l, found.0, found.1) in
    bind-step _ _ (passed-whole kinds.SliceHeader s.place k rest enough2)
    ∙ ap (λ (r : Rest). Ok (with_last size alpha (stated_of alpha l), r)) (ap (ahead k) (ahead-ahead (n - 6) 6 s) ∙ ahead-ahead k (6 + (n - 6)) s ∙ ap (λ m. ahead m s) count))))
