-- The pictures that are read have the head's form, and are at most `MAX_FRAMES`.
use Rattle.std.proofs.Common.{◌≡◌, ◌≢◌, if◌then◌else◌, ◌==◌, ℕ, zero, suc, ◌+◌, ◌-◌, ◌^◌, ◌<◌, ◌≤◌, Bool, true, false, not, eqb, ltb, List, length, Option, Some, None, Result, Ok, Err, refl, sym, ap, ◌∙◌, subst, arith}
use Rattle.std.specs.List.{All, position_or_len}
use Rattle.std.proofs.lemmas.Bool.{ltb-false, leb-false, eqb-false}
use Rattle.std.proofs.lemmas.List.Elements.{All-nil, All-cons}
use Rattle.std.proofs.lemmas.List.Sums.{prefix_len_passes}
use Rattle.pw_outside.specs.Reading.{Fault, Rest, Read, bad}
use Rattle.pw_planes.specs.declared.kinds.AlphaKind.{AlphaKind}
use Rattle.pw_planes.specs.declared.kinds.AlphaKind.TheVariants.{Absent}
use Rattle.pw_planes.specs.declared.picture.Picture.{Picture}
use Rattle.pic_y4m.specs.declared.fault.PictureKind.{PictureKind}
use Rattle.pic_y4m.specs.declared.fault.PictureKind.TheVariants as kinds
use Rattle.pic_y4m.specs.declared.head.Head.{Head}
use Rattle.pic_y4m.specs.declared.head.TheConstants.{MAX_FRAMES}
use Rattle.pic_y4m.specs.declared.head_line.Stream.{Stream}
use Rattle.pic_y4m.specs.declared.parameters.Parameters.{Parameters}
use Rattle.pic_y4m.specs.HeadLine.{stream_of, text_stream, stream_at}
use Rattle.pic_y4m.specs.Frames.{HasForm, picture_of, planes_at, frame_behind, frame_at, State, Pictures, advanced, first_and, started, start_at, next_at, pictures_in, pictures_left, pictured}
use Rattle.pic_y4m.specs.declared.samples.SampleSize.{SampleSize}
use Rattle.pic_y4m.specs.Samples.{size_of, in_range, is_past}
use Rattle.pw_planes.specs.Samples.{sample_bits}
use Rattle.pic_y4m.proofs.Chain.{answer, bind-ok, refuse-ok, ok-same, ok-first, some-same, none-some}
use Rattle.pic_y4m.proofs.Planes.{picture_form}

not-false : (b : Bool) → not b ≡ true → b ≡ false
not-false true h = absurd cc
not-false false h = refl

-- samples without a fault are below the limit
pub passed-below : (size : SampleSize) (limit : ℕ) (samples : List ℕ) (place : ℕ) {x : Unit {0}} → in_range size limit samples place ≡ Ok x → All (λ s. s < limit) samples
unfolding in_range
passed-below size limit samples place e =
    let none = refuse-ok (ltb (position_or_len (is_past limit) samples) (length samples)) kinds.SampleRange _ e in
    let ge : length samples ≤ position_or_len (is_past limit) samples = ltb-false _ _ none in
    λ k d lt. leb-false _ _ (not-false _ (prefix_len_passes (λ s. not (is_past limit s)) samples k d (omega arith)))

planes-form : (form : Stream) (s after : Rest) (p : Picture) → form.head.alpha ≡ Absent → planes_at form s ≡ Ok (p, after) → HasForm form.head p
unfolding planes_at
planes-form form s after p alpha e =
    let y = bind-ok _ _ e in
    let cb = bind-ok _ _ y.2 in
    let cr = bind-ok _ _ cb.2 in
    let r1 = bind-ok _ _ cr.2 in
    let r2 = bind-ok _ _ r1.2 in
    let r3 = bind-ok _ _ r2.2 in
    let same : picture_of form y.0.0 cb.0.0 cr.0.0 ≡ p = ok-first r3.2 in
    subst (HasForm form.head) same (picture_form form y.0.0 cb.0.0 cr.0.0 alpha (passed-below (size_of form.head.depth) (2 ^ sample_bits form.head.depth) y.0.0 _ r1.1) (passed-below (size_of form.head.depth) (2 ^ sample_bits form.head.depth) cb.0.0 _ r2.1) (passed-below (size_of form.head.depth) (2 ^ sample_bits form.head.depth) cr.0.0 _ r3.1))

frame-form : (form : Stream) (s after : Rest) (p : Picture) → form.head.alpha ≡ Absent → frame_at form s ≡ Ok (Some p, after) → HasForm form.head p
unfolding frame_at
frame-form form s after p alpha e =
    let line = bind-ok _ _ e in
    behind line.0.0 line.0.1 line.2
  where
    behind : (line : Option (List ℕ)) (t : Rest) → frame_behind form s.place line t ≡ Ok (Some p, after) → HasForm form.head p
    behind None t e = absurd (none-some p t after e)
    behind (Some line) t e =
        let word = bind-ok _ _ e in
        let planes = bind-ok _ _ word.2 in
        let same : Some planes.0.0 ≡ Some p = ok-first planes.2 in
        planes-form form t planes.0.1 p alpha (planes.1 ∙ ap (λ q. Ok (q, planes.0.1)) (some-same planes.0.0 p (Some p) (sym same) refl))

next-form : (r : State) (s after : Rest) (p : Picture) → r.form.head.alpha ≡ Absent → next_at r s ≡ Ok (Some p, after) → (r.frames ≢ MAX_FRAMES) × HasForm r.form.head p
unfolding next_at
next-form r s after p alpha e = by (eqb r.frames MAX_FRAMES) refl e
  where
    ended : (b : Bool) → (if b then answer None s else bad kinds.TooManyFrames s.place) ≡ answer (Some p) after → ⊥
    ended true e = none-some p s after e
    ended false e = absurd cc

    by : (b : Bool) → eqb r.frames MAX_FRAMES ≡ b → (if b then (if length s.bytes == 0 then Ok (None, s) else bad kinds.TooManyFrames s.place) else frame_at r.form s) ≡ Ok (Some p, after)
        → (r.frames ≢ MAX_FRAMES) × HasForm r.form.head p
    by true t e = absurd (ended (length s.bytes == 0) e)
    by false f e = (eqb-false r.frames MAX_FRAMES f, frame-form r.form s after p alpha e)

pub left-form : (n : ℕ) (r : State) (s : Rest) → r.form.head.alpha ≡ Absent → r.frames ≤ MAX_FRAMES
    → All (HasForm r.form.head) (pictures_in n r s).pictures × (r.frames + length (pictures_in n r s).pictures ≤ MAX_FRAMES)
unfolding pictures_in
left-form zero r s alpha few = (All-nil (HasForm r.form.head), omega arith)
left-form (suc n) r s alpha few = one (λ rest more. left-form n (advanced r rest.place) rest alpha more) (next_at r s) refl
  where
    one : ((rest : Rest) → r.frames + 1 ≤ MAX_FRAMES → All (HasForm r.form.head) (pictures_in n (advanced r rest.place) rest).pictures × (r.frames + 1 + length (pictures_in n (advanced r rest.place) rest).pictures ≤ MAX_FRAMES))
        → (read : Read PictureKind (Option Picture)) → next_at r s ≡ read
        → All (HasForm r.form.head) (first_and read (λ rest. pictures_in n (advanced r rest.place) rest)).pictures
        × (r.frames + length (first_and read (λ rest. pictures_in n (advanced r rest.place) rest)).pictures ≤ MAX_FRAMES)
    one others (Err fault) e = (All-nil (HasForm r.form.head), omega arith)
    one others (Ok (None, rest)) e = (All-nil (HasForm r.form.head), omega arith)
    one others (Ok (Some p, rest)) e =
        let first = next-form r s rest p alpha e in
        let more = others rest (omega (arith, first.0)) in
        (All-cons (HasForm r.form.head) p _ first.1 more.0, omega (arith, more.1))

-- the head of a new reader has no alpha
stream-alpha : (p : Parameters) (form : Stream) → stream_of p ≡ Ok form → form.head.alpha ≡ Absent
unfolding stream_of
stream-alpha p form e =
    let mode = bind-ok _ _ e in
    let width = bind-ok _ _ mode.2 in
    let height = bind-ok _ _ width.2 in
    ap (λ r. alpha-of r) (sym height.2)
  where
    alpha-of : Result Stream (Fault PictureKind) → AlphaKind
    alpha-of (Ok s) = s.head.alpha
    alpha-of (Err _) = Absent

text-alpha : (text : List ℕ) (form : Stream) → text_stream text ≡ Ok form → form.head.alpha ≡ Absent
unfolding text_stream
text-alpha text form e =
    let space = bind-ok _ _ e in
    let words = bind-ok _ _ space.2 in
    stream-alpha words.0 form words.2

pub started-form : (s : Rest) (r : State) (after : Rest) → start_at s ≡ Ok (r, after) → (r.form.head.alpha ≡ Absent) × (r.frames ≡ 0)
unfolding start_at stream_at
started-form s r after e =
    let stream = bind-ok _ _ e in
    let magic = bind-ok _ _ stream.1 in
    let line = bind-ok _ _ magic.2 in
    let text = bind-ok _ _ line.2 in
    let form = bind-ok _ _ text.2 in
    let read : form.0 ≡ stream.0.0 = ok-first form.2 in
    let same : started stream.0.0 stream.0.1.place ≡ r = ok-first stream.2 in
    subst (λ q. (q.form.head.alpha ≡ Absent) × (q.frames ≡ 0)) same (ap (λ q. q.head.alpha) (sym read) ∙ text-alpha text.0 form.0 form.1, refl)

pub pictured-form : (bytes : List ℕ) (head : Head) (ps : Pictures) → pictured bytes ≡ Ok (head, ps) → All (HasForm head) ps.pictures × (length ps.pictures ≤ MAX_FRAMES)
unfolding pictured pictures_left
pictured-form bytes head ps e =
    let start = bind-ok _ _ e in
    let r = start.0.0 in
    let form = started-form _ r start.0.1 start.1 in
    let left = left-form (MAX_FRAMES + 1 - r.frames) r start.0.1 form.0 (omega (arith, form.1)) in
    let h : r.form.head ≡ head = ap (λ q. q.0) (ok-same _ (head, ps) start.2) in
    let l : pictures_in (MAX_FRAMES + 1 - r.frames) r start.0.1 ≡ ps = ap (λ q. q.1) (ok-same _ (head, ps) start.2) in
    (subst (λ x. All (HasForm x) ps.pictures) h (subst (λ x. All (HasForm r.form.head) x.pictures) l left.0), subst (λ x. length x.pictures ≤ MAX_FRAMES) l (omega (arith, left.1)))
