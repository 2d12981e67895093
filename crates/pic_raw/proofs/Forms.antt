-- Raw planar pictures that are read have the head's form, and are at most `MAX_FRAMES`.
use Rattle.std.proofs.Common.{◌≡◌, ◌≢◌, ℕ, zero, suc, ◌+◌, ◌^◌, ◌<◌, ◌≤◌, Bool, true, false, eqb, if◌then◌else◌, ◌==◌, List, length, Option, Some, None, Ok, Err, refl, sym, ap, ◌∙◌, subst, arith}
use Rattle.std.specs.Prelude.{IfSome, is_some}
use Rattle.std.specs.List.{All}
use Rattle.std.specs.Option.{option_map}
use Rattle.std.proofs.lemmas.Bool.{eqb-false}
use Rattle.std.proofs.lemmas.List.Elements.{All-nil, All-cons}
use Rattle.pw_outside.specs.Reading.{Rest, Read, bad}
use Rattle.pw_planes.specs.declared.kinds.AlphaKind.{AlphaKind}
use Rattle.pw_planes.specs.declared.kinds.AlphaKind.TheVariants.{Absent}
use Rattle.pw_planes.specs.declared.picture.Picture.{Picture}
use Rattle.pw_planes.specs.Plane.{IsSized}
use Rattle.pw_planes.specs.Samples.{sample_bits}
use Rattle.pic_y4m.specs.declared.fault.PictureKind.{PictureKind}
use Rattle.pic_y4m.specs.declared.fault.PictureKind.TheVariants as kinds
use Rattle.pic_y4m.specs.declared.head.Head.{Head}
use Rattle.pic_y4m.specs.declared.head.TheConstants.{MAX_FRAMES}
use Rattle.pic_y4m.specs.declared.samples.SampleSize.TheVariants.{Pair}
use Rattle.pic_y4m.specs.Frames.{AreBelow, HasForm, has_alpha, first_and}
use Rattle.pic_y4m.proofs.Chain.{answer, bind-ok, ok-first, some-same, none-some}
use Rattle.pic_y4m.proofs.Forms.{passed-below}
use Rattle.pic_raw.specs.Raw.{State, IsPicture, alpha_limit, alpha_at, alpha_in_range, plane_of, picture_of, picture_behind, frame_behind, frame_at, advanced, next_at, pictures_in}

mapped-some : {X Y : Type 0} (f : X → Y) (a : Option X) → is_some (option_map f a) ≡ is_some a
mapped-some f None = refl
mapped-some f (Some x) = refl

pub mapped-if : {X Y : Type 0} (f : X → Y) (P : Y → Type 0) (a : Option X) → IfSome a (λ x. P (f x)) → IfSome (option_map f a) P
mapped-if f P None h = tt
mapped-if f P (Some x) h = h

-- a picture whose samples are within their bit depths has the form
pub picture_form : (h : Head) (y cb cr : List ℕ) (alpha : Option (List ℕ)) → is_some alpha ≡ has_alpha h.alpha → AreBelow h.depth y → AreBelow h.depth cb → AreBelow h.depth cr
    → IfSome alpha (All (λ s. s < alpha_limit h.alpha)) → IsPicture h (picture_of h y cb cr alpha)
picture_form h y cb cr alpha there luma blue red within = record {
  form = record {
    size = record { luma = (refl, refl); cb = (refl, refl); cr = (refl, refl); alpha = sized alpha };
    chroma = refl;
    depth = refl;
    alpha = mapped-some (plane_of h.width h.height) alpha ∙ there;
    luma = luma;
    cb = blue;
    cr = red;
  };
  alpha = mapped-if (plane_of h.width h.height) (λ a. All (λ s. s < alpha_limit h.alpha) a.samples) alpha within;
}
  where
    sized : (a : Option (List ℕ)) → IfSome (option_map (plane_of h.width h.height) a) (λ a. IsSized a h.width h.height)
    sized None = tt
    sized (Some a) = (refl, refl)

-- the same for samples that a call returned
pub given_form : {X : Type 0} (view : X → List ℕ) (h : Head) (y cb cr : List ℕ) (alpha : Option X) (there : Bool) → is_some alpha ≡ there → there ≡ has_alpha h.alpha → AreBelow h.depth y → AreBelow h.depth cb → AreBelow h.depth cr
    → IfSome alpha (λ v. All (λ s. s < alpha_limit h.alpha) (view v)) → IsPicture h (picture_of h y cb cr (option_map view alpha))
given_form view h y cb cr alpha there given same luma blue red within =
    picture_form h y cb cr (option_map view alpha) (mapped-some view alpha ∙ given ∙ same) luma blue red (mapped-if view (All (λ s. s < alpha_limit h.alpha)) alpha within)

-- a Y4M picture has no alpha
pub y4m-picture : (h : Head) (p : Picture) → h.alpha ≡ Absent → HasForm h p → IsPicture h p
y4m-picture h p alpha form = record { form = form; alpha = none (λ a. All (λ s. s < alpha_limit h.alpha) a.samples) p.alpha (form.alpha ∙ ap has_alpha alpha) }
  where
    none : {X : Type 0} (P : X → Type 0) (a : Option X) → is_some a ≡ false → IfSome a P
    none P None e = tt
    none P (Some x) e = absurd cc

alpha-there : (there : Bool) (count : ℕ) (s t : Rest) (alpha : Option (List ℕ)) → alpha_at there count s ≡ Ok (alpha, t) → is_some alpha ≡ there
alpha-there false count s t alpha e = ap is_some (sym (ok-first e))
alpha-there true count s t alpha e =
    let samples = bind-ok _ _ e in
    ap is_some (sym (ok-first samples.2))

alpha-below : (kind : AlphaKind) (alpha : Option (List ℕ)) (place : ℕ) {x : Unit {0}} → alpha_in_range kind alpha place ≡ Ok x → IfSome alpha (All (λ s. s < alpha_limit kind))
alpha-below kind None place e = tt
alpha-below kind (Some a) place e = passed-below Pair (alpha_limit kind) a place e

behind-form : (h : Head) (place : ℕ) (y : List ℕ) (s after : Rest) (p : Picture) → picture_behind h place y s ≡ Ok (p, after) → IsPicture h p
unfolding picture_behind
behind-form h place y s after p e =
    let cb = bind-ok _ _ e in
    let cr = bind-ok _ _ cb.2 in
    let alpha = bind-ok _ _ cr.2 in
    let r1 = bind-ok _ _ alpha.2 in
    let r2 = bind-ok _ _ r1.2 in
    let r3 = bind-ok _ _ r2.2 in
    let r4 = bind-ok _ _ r3.2 in
    let same : picture_of h y cb.0.0 cr.0.0 alpha.0.0 ≡ p = ok-first r4.2 in
    let limit = 2 ^ sample_bits h.depth in
    subst (IsPicture h) same (picture_form h y cb.0.0 cr.0.0 alpha.0.0 (alpha-there (has_alpha h.alpha) _ _ _ alpha.0.0 alpha.1)
    (passed-below Pair limit y _ r1.1) (passed-below Pair limit cb.0.0 _ r2.1) (passed-below Pair limit cr.0.0 _ r3.1) (alpha-below h.alpha alpha.0.0 _ r4.1))

frame-form : (h : Head) (s after : Rest) (p : Picture) → frame_at h s ≡ Ok (Some p, after) → IsPicture h p
unfolding frame_at
frame-form h s after p e =
    let y = bind-ok _ _ e in
    behind y.0.0 y.0.1 y.2
  where
    behind : (y : Option (List ℕ)) (t : Rest) → frame_behind h s.place y t ≡ Ok (Some p, after) → IsPicture h p
    behind None t e = absurd (none-some p t after e)
    behind (Some y) t e =
        let planes = bind-ok _ _ e in
        let same : Some planes.0.0 ≡ Some p = ok-first planes.2 in
        behind-form h s.place y t planes.0.1 p (planes.1 ∙ ap (λ q. Ok (q, planes.0.1)) (some-same planes.0.0 p (Some p) (sym same) refl))

next-form : (r : State) (s after : Rest) (p : Picture) → next_at r s ≡ Ok (Some p, after) → (r.frames ≢ MAX_FRAMES) × IsPicture r.head p
unfolding next_at
next-form r s after p e = by (eqb r.frames MAX_FRAMES) refl e
  where
    ended : (b : Bool) → (if b then answer None s else bad kinds.TooManyFrames s.place) ≡ answer (Some p) after → ⊥
    ended true e = none-some p s after e
    ended false e = absurd cc

    by : (b : Bool) → eqb r.frames MAX_FRAMES ≡ b → (if b then (if length s.bytes == 0 then Ok (None, s) else bad kinds.TooManyFrames s.place) else frame_at r.head s) ≡ Ok (Some p, after)
        → (r.frames ≢ MAX_FRAMES) × IsPicture r.head p
    by true t e = absurd (ended (length s.bytes == 0) e)
    by false f e = (eqb-false r.frames MAX_FRAMES f, frame-form r.head s after p e)

pub left-form : (n : ℕ) (r : State) (s : Rest) → r.frames ≤ MAX_FRAMES
    → All (IsPicture r.head) (pictures_in n r s).pictures × (r.frames + length (pictures_in n r s).pictures ≤ MAX_FRAMES)
unfolding pictures_in
left-form zero r s few = (All-nil (IsPicture r.head), omega arith)
left-form (suc n) r s few = one (λ rest more. left-form n (advanced r rest.place) rest more) (next_at r s) refl
  where
    one : ((rest : Rest) → r.frames + 1 ≤ MAX_FRAMES → All (IsPicture r.head) (pictures_in n (advanced r rest.place) rest).pictures × (r.frames + 1 + length (pictures_in n (advanced r rest.place) rest).pictures ≤ MAX_FRAMES))
        → (read : Read PictureKind (Option Picture)) → next_at r s ≡ read
        → All (IsPicture r.head) (first_and read (λ rest. pictures_in n (advanced r rest.place) rest)).pictures
        × (r.frames + length (first_and read (λ rest. pictures_in n (advanced r rest.place) rest)).pictures ≤ MAX_FRAMES)
    one others (Err fault) e = (All-nil (IsPicture r.head), omega arith)
    one others (Ok (None, rest)) e = (All-nil (IsPicture r.head), omega arith)
    one others (Ok (Some p, rest)) e =
        let first = next-form r s rest p e in
        let more = others rest (omega (arith, first.0)) in
        (All-cons (IsPicture r.head) p _ first.1 more.0, omega (arith, more.1))
