-- Slices, pictures and frames, written piece by piece.
use Rattle.std.proofs.Common.{◌≡◌, ℕ, zero, suc, ◌+◌, ◌<◌, ◌≤◌, Bool, List, [], ◌∷◌, ◌++◌, length, take, drop, get_or, map, sum, Result, Ok, Err, refl, sym, ap, ◌∙◌, subst, arith, append_assoc}
use Rattle.std.specs.Prelude.{OnOk, OnErr}
use Rattle.std.specs.List.{flat_map}
use Rattle.std.specs.Int.{w16, to_be_bytes}
use Rattle.std.proofs.lemmas.List.{take_more, append-nil, take_all, take-append-drop}
use Rattle.pw_outside.specs.Writing.{SinkState, Puts, PutsFront, PutsPart}
use Rattle.pw_outside.proofs.Puts.{puts_then, part_front, front_more, then_front}
use Rattle.pw_planes.specs.declared.kinds.AlphaKind.{AlphaKind}
use Rattle.pw_planes.specs.declared.kinds.Interlace.{Interlace}
use Rattle.pr_coeff.specs.Component.{Block}
use Rattle.pr_head.specs.declared.slice.SliceHeader.{SliceHeader}
use Rattle.pr_head.specs.Header.{frame_header_bytes}
use Rattle.pr_head.specs.Picture.{picture_header_bytes}
use Rattle.pr_head.specs.Slice.{slice_header_bytes}
use Rattle.pr_head.specs.Laws.{sizes_bytes}
use Rattle.pr_frame.specs.declared.coded.CodedSlice.{CodedSlice}
use Rattle.pr_frame.specs.declared.coded.CodedPicture.{CodedPicture}
use Rattle.pr_frame.specs.declared.coded.CodedFrame.{CodedFrame}
use Rattle.pr_frame.proofs.SliceLoop.{sum-front}
use Rattle.pr_frame.specs.Forms.{has_alpha}
use Rattle.pr_frame.specs.Written.{component_bytes, alpha_bytes, slice_header_of, slice_bytes, slice_length, picture_length, picture_bytes, frame_length_of, coded_bytes}

-- ---- a slice

module _ (mode : Interlace) (alpha : AlphaKind) (s : CodedSlice) (head : SliceHeader) (flag : Bool) (head_is : head ≡ slice_header_of mode alpha s) (flag_is : flag ≡ has_alpha alpha) where
  all : slice_header_bytes head flag ++ component_bytes mode s.y ++ component_bytes mode s.cb ++ component_bytes mode s.cr ++ alpha_bytes alpha s.alpha ≡ slice_bytes mode alpha s
  unfolding slice_bytes
  all = λ j. slice_header_bytes (head_is j) (flag_is j) ++ component_bytes mode s.y ++ component_bytes mode s.cb ++ component_bytes mode s.cr ++ alpha_bytes alpha s.alpha

  pub slice-puts : {a b c d e f : SinkState} → Puts a b (slice_header_bytes head flag) → Puts b c (component_bytes mode s.y) → Puts c d (component_bytes mode s.cb) → Puts d e (component_bytes mode s.cr) → Puts e f (alpha_bytes alpha s.alpha) → Puts a f (slice_bytes mode alpha s)
  slice-puts {a} {b} {c} {d} {e} {f} p q r t u = subst (Puts a f) all (puts_then (puts_then (puts_then (puts_then p q) r) t) u)

  pub slice-head : {a b : SinkState} → PutsPart a b (slice_header_bytes head flag) → PutsFront a b (slice_bytes mode alpha s)
  slice-head {a} {b} p = subst (PutsFront a b) all (front_more (alpha_bytes alpha s.alpha) (front_more (component_bytes mode s.cr) (front_more (component_bytes mode s.cb) (front_more (component_bytes mode s.y) (part_front p)))))

  pub slice-y : {a b c : SinkState} → Puts a b (slice_header_bytes head flag) → PutsFront b c (component_bytes mode s.y) → PutsFront a c (slice_bytes mode alpha s)
  slice-y {a} {b} {c} p q = subst (PutsFront a c) all (front_more (alpha_bytes alpha s.alpha) (front_more (component_bytes mode s.cr) (front_more (component_bytes mode s.cb) (then_front p q))))

  pub slice-cb : {a b c d : SinkState} → Puts a b (slice_header_bytes head flag) → Puts b c (component_bytes mode s.y) → PutsFront c d (component_bytes mode s.cb) → PutsFront a d (slice_bytes mode alpha s)
  slice-cb {a} {b} {c} {d} p q r = subst (PutsFront a d) all (front_more (alpha_bytes alpha s.alpha) (front_more (component_bytes mode s.cr) (then_front (puts_then p q) r)))

  pub slice-cr : {a b c d e : SinkState} → Puts a b (slice_header_bytes head flag) → Puts b c (component_bytes mode s.y) → Puts c d (component_bytes mode s.cb) → PutsFront d e (component_bytes mode s.cr) → PutsFront a e (slice_bytes mode alpha s)
  slice-cr {a} {b} {c} {d} {e} p q r t = subst (PutsFront a e) all (front_more (alpha_bytes alpha s.alpha) (then_front (puts_then (puts_then p q) r) t))

  pub slice-alpha : {a b c d e f : SinkState} → Puts a b (slice_header_bytes head flag) → Puts b c (component_bytes mode s.y) → Puts c d (component_bytes mode s.cb) → Puts d e (component_bytes mode s.cr) → PutsFront e f (alpha_bytes alpha s.alpha) → PutsFront a f (slice_bytes mode alpha s)
  slice-alpha {a} {b} {c} {d} {e} {f} p q r t u = subst (PutsFront a f) all (then_front (puts_then (puts_then (puts_then p q) r) t) u)

-- a slice of these parts
pub slice-of : (mode : Interlace) (alpha : AlphaKind) (s : CodedSlice) (y cb cr : List Block) (l : List ℕ) → y ≡ s.y → cb ≡ s.cb → cr ≡ s.cr → l ≡ s.alpha
    → slice_bytes mode alpha (record { index = s.index; y = y; cb = cb; cr = cr; alpha = l }) ≡ slice_bytes mode alpha s
slice-of mode alpha s y cb cr l a b c d = λ j. slice_bytes mode alpha (record { index = s.index; y = a j; cb = b j; cr = c j; alpha = d j })

-- ---- three pieces, as a picture has

module _ (x y z whole : List ℕ) (is : x ++ y ++ z ≡ whole) where
  pub three-puts : {a b c d : SinkState} → Puts a b x → Puts b c y → Puts c d z → Puts a d whole
  three-puts {a} {b} {c} {d} p q r = subst (Puts a d) is (puts_then (puts_then p q) r)

  pub three-first : {a b : SinkState} → PutsPart a b x → PutsFront a b whole
  three-first {a} {b} p = subst (PutsFront a b) is (front_more z (front_more y (part_front p)))

  pub three-second : {a b c : SinkState} → Puts a b x → PutsFront b c y → PutsFront a c whole
  three-second {a} {b} {c} p q = subst (PutsFront a c) is (front_more z (then_front p q))

  pub three-third : {a b c d : SinkState} → Puts a b x → Puts b c y → PutsFront c d z → PutsFront a d whole
  three-third {a} {b} {c} {d} p q r = subst (PutsFront a d) is (then_front (puts_then p q) r)

pub picture-whole : (mode : Interlace) (alpha : AlphaKind) (p : CodedPicture) (size count : ℕ) (slices : List CodedSlice) → size ≡ picture_length mode alpha p → count ≡ length p.slices → slices ≡ p.slices
    → picture_header_bytes size count p.log2 ++ sizes_bytes (map (slice_length mode alpha) slices) ++ flat_map (slice_bytes mode alpha) slices ≡ picture_bytes mode alpha p
unfolding picture_bytes
picture-whole mode alpha p size count slices e f g = λ j. picture_header_bytes (e j) (f j) p.log2 ++ sizes_bytes (map (slice_length mode alpha) (g j)) ++ flat_map (slice_bytes mode alpha) (g j)

-- ---- a list in order

flat-more : {X : Type 0} (f : X → List ℕ) (xs : List X) (x : X) → flat_map f (xs ++ x ∷ []) ≡ flat_map f xs ++ f x
flat-more f [] x = append-nil (f x)
flat-more f (y ∷ xs) x = ap (λ l. f y ++ l) (flat-more f xs x) ∙ sym (append_assoc (f y) (flat_map f xs) (f x))

flat-append : {X : Type 0} (f : X → List ℕ) (xs ys : List X) → flat_map f (xs ++ ys) ≡ flat_map f xs ++ flat_map f ys
flat-append f [] ys = refl
flat-append f (x ∷ xs) ys = ap (λ l. f x ++ l) (flat-append f xs ys) ∙ sym (append_assoc (f x) (flat_map f xs) (flat_map f ys))

module _ {X : Type 0} (f : X → List ℕ) (xs : List X) (i : ℕ) (x : X) (lt : i < length xs) (is : x ≡ get_or xs i x) where
  next-is : flat_map f (take (i + 1) xs) ≡ flat_map f (take i xs) ++ f x
  next-is = ap (flat_map f) (take_more xs i x lt) ∙ flat-more f (take i xs) (get_or xs i x) ∙ ap (λ v. flat_map f (take i xs) ++ f v) (sym is)

  pub list-more : {a b c : SinkState} → Puts a b (flat_map f (take i xs)) → Puts b c (f x) → Puts a c (flat_map f (take (i + 1) xs))
  list-more {a} {b} {c} p q = subst (Puts a c) (sym next-is) (puts_then p q)

  pub list-front : {a b c : SinkState} → Puts a b (flat_map f (take i xs)) → PutsFront b c (f x) → PutsFront a c (flat_map f xs)
  list-front {a} {b} {c} p q =
      let e : flat_map f xs ≡ flat_map f (take (i + 1) xs) ++ flat_map f (drop (i + 1) xs) = ap (flat_map f) (sym (take-append-drop (i + 1) xs)) ∙ flat-append f (take (i + 1) xs) (drop (i + 1) xs) in
      subst (PutsFront a c) (sym e) (front_more (flat_map f (drop (i + 1) xs)) (subst (PutsFront a c) (sym next-is) (then_front p q)))

pub list-all : {X : Type 0} (f : X → List ℕ) (xs : List X) (i : ℕ) {a b : SinkState} → length xs ≤ i → Puts a b (flat_map f (take i xs)) → Puts a b (flat_map f xs)
list-all f xs i {a} {b} le p = subst (λ l. Puts a b (flat_map f l)) (take_all i xs le) p

-- the table is a list of two bytes a slice
abbrev size_bytes : (CodedSlice → ℕ) → CodedSlice → List ℕ
size_bytes f s = to_be_bytes w16 (f s)

table-flat : (f : CodedSlice → ℕ) (xs : List CodedSlice) → sizes_bytes (map f xs) ≡ flat_map (size_bytes f) xs
table-flat f [] = refl
table-flat f (x ∷ xs) = ap (λ l. to_be_bytes w16 (f x) ++ l) (table-flat f xs)

module _ (f : CodedSlice → ℕ) (xs : List CodedSlice) (i : ℕ) where
  pub table-more : {a b c : SinkState} (x : CodedSlice) → i < length xs → x ≡ get_or xs i x → Puts a b (sizes_bytes (map f (take i xs))) → Puts b c (to_be_bytes w16 (f x)) → Puts a c (sizes_bytes (map f (take (i + 1) xs)))
  table-more {a} {b} {c} x lt is p q = subst (Puts a c) (sym (table-flat f (take (i + 1) xs))) (list-more (size_bytes f) xs i x lt is (subst (Puts a b) (table-flat f (take i xs)) p) q)

  pub table-front : {a b c : SinkState} (x : CodedSlice) → i < length xs → x ≡ get_or xs i x → Puts a b (sizes_bytes (map f (take i xs))) → PutsFront b c (to_be_bytes w16 (f x)) → PutsFront a c (sizes_bytes (map f xs))
  table-front {a} {b} {c} x lt is p q = subst (PutsFront a c) (sym (table-flat f xs)) (list-front (size_bytes f) xs i x lt is (subst (Puts a b) (table-flat f (take i xs)) p) q)

  pub table-all : {a b : SinkState} → length xs ≤ i → Puts a b (sizes_bytes (map f (take i xs))) → Puts a b (sizes_bytes (map f xs))
  table-all {a} {b} le p = subst (Puts a b) (sym (table-flat f xs)) (list-all (size_bytes f) xs i le (subst (Puts a b) (table-flat f (take i xs)) p))

-- ---- a frame

module _ (f : CodedFrame) (size : ℕ) (pictures : List CodedPicture) (size_is : size ≡ frame_length_of f) (pictures_is : pictures ≡ f.pictures) where
  pub frame-whole : frame_header_bytes f.header size ++ flat_map (picture_bytes f.header.interlace f.header.alpha) pictures ≡ coded_bytes f
  unfolding coded_bytes
  frame-whole = λ j. frame_header_bytes f.header (size_is j) ++ flat_map (picture_bytes f.header.interlace f.header.alpha) (pictures_is j)

  pub frame-puts : {a b c : SinkState} → Puts a b (frame_header_bytes f.header size) → Puts b c (flat_map (picture_bytes f.header.interlace f.header.alpha) pictures) → Puts a c (coded_bytes f)
  frame-puts {a} {b} {c} p q = subst (Puts a c) frame-whole (puts_then p q)

  pub frame-head : {a b : SinkState} → PutsPart a b (frame_header_bytes f.header size) → PutsFront a b (coded_bytes f)
  frame-head {a} {b} p = subst (PutsFront a b) frame-whole (front_more (flat_map (picture_bytes f.header.interlace f.header.alpha) pictures) (part_front p))

  pub frame-pictures : {a b c : SinkState} → Puts a b (frame_header_bytes f.header size) → PutsFront b c (flat_map (picture_bytes f.header.interlace f.header.alpha) pictures) → PutsFront a c (coded_bytes f)
  frame-pictures {a} {b} {c} p q = subst (PutsFront a c) frame-whole (then_front p q)

-- one of several lengths is at most their sum
pub one-length : (f : CodedPicture → ℕ) (xs : List CodedPicture) (i : ℕ) (x : CodedPicture) → i < length xs → x ≡ get_or xs i x → f x ≤ sum (map f xs)
one-length f [] i x lt is = absurd (omega arith)
one-length f (y ∷ xs) zero x lt is = omega (arith, ap f is, sum-front (f y) (map f xs))
one-length f (y ∷ xs) (suc i) x lt is = omega (arith, one-length f xs i x (omega arith) is, sum-front (f y) (map f xs))
