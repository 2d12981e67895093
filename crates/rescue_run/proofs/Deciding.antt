-- Whether an offset holds a frame of the form of the first.
use Rattle.std.proofs.Common.{◌≡◌, refl, ℕ, zero, suc, ◌+◌, ◌≤◌, ◌<◌, List, [], ◌∷◌, length, arith, ap, sym, subst, ◌∙◌, inl, inr}
use Rattle.std.specs.Prelude.{◌⊎◌, codes, Option, Some, None}
use Rattle.pw_outside.specs.Reading.{Fault}
use Rattle.pw_planes.specs.declared.kinds.Chroma.{Chroma}
use Rattle.pw_planes.specs.declared.kinds.Chroma.TheVariants.{C422, C444}
use Rattle.pw_planes.specs.declared.kinds.AlphaKind.{AlphaKind}
use Rattle.pw_planes.specs.declared.kinds.AlphaKind.TheVariants.{Absent, Eight, Sixteen}
use Rattle.pw_planes.specs.declared.kinds.Interlace.{Interlace}
use Rattle.pw_planes.specs.declared.kinds.Interlace.TheVariants.{Progressive, TopFirst, BottomFirst}
use Rattle.qt_atoms.specs.Atoms.{bytes_in}
use Rattle.pr_head.specs.declared.fault.FrameKind.{FrameKind}
use Rattle.pr_frame.specs.declared.coded.CodedFrame.{CodedFrame}
use Rattle.pr_frame.specs.Stands.{FrameStands}
use Rattle.pr_frame.specs.Reading.{frame_fault}
use Rattle.pr_frame.specs.Laws.{OneFrame, FrameOrFault, FrameHasNoFault}
use Rattle.rescue_run.specs.declared.form.FrameForm.{FrameForm}
use Rattle.rescue_run.specs.Chain.{HoldsFrame, HasMark, IsLike, form_of, size_at}
use Rattle.rescue_run.specs.inner.Steps.{HoldsNone}
use Rattle.rescue_run.proofs.Following.{below_or}

-- it is so, or not
abbrev Decided : Type 0 → Type 0
Decided P = P ⊎ (P → ⊥)

-- ---- numbers, letters

shift : (a b : ℕ) → Decided (a ≡ b) → Decided (suc a ≡ suc b)
shift a b (inl e) = inl (ap suc e)
shift a b (inr other) = inr (λ e. other (omega (arith, e)))

numbers : (a b : ℕ) → Decided (a ≡ b)
numbers zero zero = inl refl
numbers zero (suc b) = inr (λ e. omega (arith, e))
numbers (suc a) zero = inr (λ e. omega (arith, e))
numbers (suc a) (suc b) = shift a b (numbers a b)

head_same : (x y : ℕ) (xs ys : List ℕ) → x ∷ xs ≡ y ∷ ys → x ≡ y
head_same x y xs ys e = cc

tail_same : (x y : ℕ) (xs ys : List ℕ) → x ∷ xs ≡ y ∷ ys → xs ≡ ys
tail_same x y xs ys e = cc

both_same : (x y : ℕ) (xs ys : List ℕ) → Decided (x ≡ y) → Decided (xs ≡ ys) → Decided (x ∷ xs ≡ y ∷ ys)
both_same x y xs ys (inl e) (inl f) = inl (ap (λ z. z ∷ xs) e ∙ ap (λ l. y ∷ l) f)
both_same x y xs ys (inl e) (inr other) = inr (λ h. other (tail_same x y xs ys h))
both_same x y xs ys (inr other) f = inr (λ h. other (head_same x y xs ys h))

lists : (xs ys : List ℕ) → Decided (xs ≡ ys)
lists [] [] = inl refl
lists [] (y ∷ ys) = inr (λ e. let n : 0 ≡ length (y ∷ ys) = ap length e in omega (arith, n))
lists (x ∷ xs) [] = inr (λ e. let n : length (x ∷ xs) ≡ 0 = ap length e in omega (arith, n))
lists (x ∷ xs) (y ∷ ys) = both_same x y xs ys (numbers x y) (lists xs ys)

at_most : (a b : ℕ) → Decided (a ≤ b)
at_most a b = by (below_or b a)
  where
    by : (b < a) ⊎ (a ≤ b) → Decided (a ≤ b)
    by (inl h) = inr (λ k. omega (arith, h, k))
    by (inr h) = inl h

-- ---- forms

chroma_code : Chroma → ℕ
chroma_code C422 = 0
chroma_code C444 = 1

interlace_code : Interlace → ℕ
interlace_code Progressive = 0
interlace_code TopFirst = 1
interlace_code BottomFirst = 2

alpha_code : AlphaKind → ℕ
alpha_code Absent = 0
alpha_code Eight = 1
alpha_code Sixteen = 2

third : {A : Type 0} → A → A → A → ℕ → A
third x y z zero = x
third x y z (suc zero) = y
third x y z (suc (suc n)) = z

chroma_same : (a : Chroma) → third C422 C444 C444 (chroma_code a) ≡ a
unfolding chroma_code third
chroma_same C422 = refl
chroma_same C444 = refl

interlace_same : (a : Interlace) → third Progressive TopFirst BottomFirst (interlace_code a) ≡ a
unfolding interlace_code third
interlace_same Progressive = refl
interlace_same TopFirst = refl
interlace_same BottomFirst = refl

alpha_same : (a : AlphaKind) → third Absent Eight Sixteen (alpha_code a) ≡ a
unfolding alpha_code third
alpha_same Absent = refl
alpha_same Eight = refl
alpha_same Sixteen = refl

by_code : {A : Type 0} (code : A → ℕ) (back : ℕ → A) → ((a : A) → back (code a) ≡ a) → (a b : A) → Decided (code a ≡ code b) → Decided (a ≡ b)
by_code code back same a b (inl e) = inl (sym (same a) ∙ ap back e ∙ same b)
by_code code back same a b (inr other) = inr (λ e. other (ap code e))

forms_by : (a b : FrameForm) → Decided (a.width ≡ b.width) → Decided (a.height ≡ b.height) → Decided (a.chroma ≡ b.chroma) → Decided (a.interlace ≡ b.interlace) → Decided (a.alpha ≡ b.alpha) → Decided (a ≡ b)
forms_by a b (inr differs) h c i l = inr (λ e. differs (ap (λ (f : FrameForm). f.width) e))
forms_by a b (inl w) (inr differs) c i l = inr (λ e. differs (ap (λ (f : FrameForm). f.height) e))
forms_by a b (inl w) (inl h) (inr differs) i l = inr (λ e. differs (ap (λ (f : FrameForm). f.chroma) e))
forms_by a b (inl w) (inl h) (inl c) (inr differs) l = inr (λ e. differs (ap (λ (f : FrameForm). f.interlace) e))
forms_by a b (inl w) (inl h) (inl c) (inl i) (inr differs) = inr (λ e. differs (ap (λ (f : FrameForm). f.alpha) e))
forms_by a b (inl w) (inl h) (inl c) (inl i) (inl l) = inl (
    ap (λ x. record { width = x; height = a.height; chroma = a.chroma; interlace = a.interlace; alpha = a.alpha }) w
    ∙ ap (λ x. record { width = b.width; height = x; chroma = a.chroma; interlace = a.interlace; alpha = a.alpha }) h
    ∙ ap (λ x. record { width = b.width; height = b.height; chroma = x; interlace = a.interlace; alpha = a.alpha }) c
    ∙ ap (λ x. record { width = b.width; height = b.height; chroma = b.chroma; interlace = x; alpha = a.alpha }) i
    ∙ ap (λ x. record { width = b.width; height = b.height; chroma = b.chroma; interlace = b.interlace; alpha = x }) l
    )

forms : (a b : FrameForm) → Decided (a ≡ b)
forms a b = forms_by a b (numbers a.width b.width) (numbers a.height b.height)
    (by_code chroma_code (third C422 C444 C444) chroma_same a.chroma b.chroma (numbers (chroma_code a.chroma) (chroma_code b.chroma)))
    (by_code interlace_code (third Progressive TopFirst BottomFirst) interlace_same a.interlace b.interlace (numbers (interlace_code a.interlace) (interlace_code b.interlace)))
    (by_code alpha_code (third Absent Eight Sixteen) alpha_same a.alpha b.alpha (numbers (alpha_code a.alpha) (alpha_code b.alpha)))

like : (first : Option FrameForm) (frame : CodedFrame) → Decided (IsLike first frame)
like None frame = inl tt
like (Some form) frame = forms form (form_of frame.header)

-- ---- an offset

-- the offset holds this frame, which has the form of the first
pub record HoldsOne (file : List ℕ) (place : ℕ) (first : Option FrameForm) : Type 0 where
  pub frame : CodedFrame
  pub holds : HoldsFrame file place frame
  pub like : IsLike first frame

not_both : (fault : Fault FrameKind) (x : Option (Fault FrameKind)) → x ≡ None → x ≡ Some fault → ⊥
not_both fault x e f = cc

module _ (one : OneFrame) (judged : FrameOrFault) (no_fault : FrameHasNoFault) (file : List ℕ) (place : ℕ) (first : Option FrameForm) where
  by_form : (frame : CodedFrame) → HoldsFrame file place frame → Decided (IsLike first frame) → HoldsOne file place first ⊎ HoldsNone file place first
  by_form frame holds (inl is) = inl (record { frame = frame; holds = holds; like = is })
  by_form frame holds (inr differs) = inr (λ g h l. differs (subst (IsLike first) (one (bytes_in (size_at file place) file place) g frame h.stands holds.stands) l))

  by_bytes : HasMark file place → 28 ≤ size_at file place → size_at file place ≤ 4294967286 → place + size_at file place ≤ length file
      → (((f : CodedFrame) × FrameStands (bytes_in (size_at file place) file place) f) ⊎ ((fault : Fault FrameKind) × (frame_fault (bytes_in (size_at file place) file place) ≡ Some fault)))
      → HoldsOne file place first ⊎ HoldsNone file place first
  by_bytes mark least most inside (inl f) = by_form f.0 (record { mark = mark; least = least; most = most; inside = inside; stands = f.1 }) (like first f.0)
  by_bytes mark least most inside (inr fault) = inr (λ g h l. not_both fault.0 (frame_fault (bytes_in (size_at file place) file place)) (no_fault (bytes_in (size_at file place) file place) g h.stands) fault.1)

  by_fields : Decided (HasMark file place) → Decided (28 ≤ size_at file place) → Decided (size_at file place ≤ 4294967286) → Decided (place + size_at file place ≤ length file)
      → HoldsOne file place first ⊎ HoldsNone file place first
  by_fields (inr differs) least most inside = inr (λ g h l. differs h.mark)
  by_fields (inl mark) (inr differs) most inside = inr (λ g h l. differs h.least)
  by_fields (inl mark) (inl least) (inr differs) inside = inr (λ g h l. differs h.most)
  by_fields (inl mark) (inl least) (inl most) (inr differs) = inr (λ g h l. differs h.inside)
  by_fields (inl mark) (inl least) (inl most) (inl inside) = by_bytes mark least most inside (judged (bytes_in (size_at file place) file place))

  pub one_or_none : HoldsOne file place first ⊎ HoldsNone file place first
  one_or_none = by_fields (lists (bytes_in 4 file (place + 4)) (codes "icpf")) (at_most 28 (size_at file place)) (at_most (size_at file place) 4294967286) (at_most (place + size_at file place) (length file))
