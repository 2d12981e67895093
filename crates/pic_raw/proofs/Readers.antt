-- Readers of any format.
use Rattle.std.proofs.Common.{◌≡◌, suc, ◌+◌, ◌-◌, ◌≤◌, length, Option, None, Some, Result, Ok, Err, refl, subst, arith}
use Rattle.std.specs.List.{All}
use Rattle.pw_outside.specs.Reading.{Fault, Rest, bind}
use Rattle.pic_y4m.specs.declared.fault.PictureKind.{PictureKind}
use Rattle.pic_y4m.specs.declared.head.Head.{Head}
use Rattle.pic_y4m.specs.declared.head.TheConstants.{MAX_FRAMES}
use Rattle.pic_y4m.specs.Frames as y4m
use Rattle.pic_y4m.specs.Frames.{Pictures, HasForm, first_and, pictured, start_at, pictures_left}
use Rattle.pic_y4m.proofs.Chain.{bind-ok, ok-same, ok-first}
use Rattle.pic_y4m.proofs.Forms as y4m-forms
use Rattle.pic_raw.specs.Raw as raw
use Rattle.pic_raw.specs.Raw.{IsPicture}
use Rattle.pic_raw.specs.Any.{left_of, head_of, start_of, pictures_of, NextIsFirst, LeftHaveForm, PicturesHaveForm, Y4mIsMeant}
use Rattle.pic_raw.specs.declared.any.AnyReader.{AnyReader}
use Rattle.pic_raw.specs.declared.any.AnyReader.TheVariants.{Y4m, Raw}
use Rattle.pic_raw.proofs.Forms.{y4m-picture, left-form}

pub next-first : NextIsFirst
unfolding y4m.pictures_left y4m.pictures_in raw.pictures_left raw.pictures_in
next-first (Y4m r) s few =
    let one : MAX_FRAMES + 1 - r.frames ≡ suc (MAX_FRAMES + 1 - (r.frames + 1)) = omega arith in
    rw one refl
next-first (Raw r) s few =
    let one : MAX_FRAMES + 1 - r.frames ≡ suc (MAX_FRAMES + 1 - (r.frames + 1)) = omega arith in
    rw one refl

pub left-has-form : LeftHaveForm
unfolding y4m.pictures_left raw.pictures_left
left-has-form (Y4m r) s is =
    let left = y4m-forms.left-form (MAX_FRAMES + 1 - r.frames) r s is.form.alpha is.few in
    (λ k d lt. y4m-picture r.form.head _ is.form.alpha (left.0 k d lt), left.1)
left-has-form (Raw r) s is = left-form (MAX_FRAMES + 1 - r.frames) r s is.few

-- the initial reader of an input
started-left : (form : Option Head) (s after : Rest) (r : AnyReader) → start_of form s ≡ Ok (r, after) → All (IsPicture (head_of r)) (left_of r after).pictures × (length (left_of r after).pictures ≤ MAX_FRAMES)
unfolding y4m.pictures_left raw.pictures_left
started-left (Some head) s after r e =
    let same : Raw (raw.started head) ≡ r = ok-first e in
    let left = left-form (MAX_FRAMES + 1) (raw.started head) after (omega arith) in
    subst (λ q. All (IsPicture (head_of q)) (left_of q after).pictures × (length (left_of q after).pictures ≤ MAX_FRAMES)) same (left.0, omega (arith, left.1))
started-left None s after r e =
    let start = bind-ok _ _ e in
    let q = start.0.0 in
    let form = y4m-forms.started-form s q start.0.1 start.1 in
    let left = y4m-forms.left-form (MAX_FRAMES + 1 - q.frames) q after form.0 (omega (arith, form.1)) in
    let same : Y4m q ≡ r = ok-first start.2 in
    subst (λ q. All (IsPicture (head_of q)) (left_of q after).pictures × (length (left_of q after).pictures ≤ MAX_FRAMES)) same (λ k d lt. y4m-picture q.form.head _ form.0 (left.0 k d lt), omega (arith, left.1))

pub pictures-form : PicturesHaveForm
unfolding pictures_of
pictures-form form bytes head ps e =
    let start = bind-ok _ _ e in
    let r = start.0.0 in
    let left = started-left form _ start.0.1 r start.1 in
    let pair : (head_of r, left_of r start.0.1) ≡ (head, ps) = ok-same _ _ start.2 in
    subst (λ q. All (IsPicture q.0) q.1.pictures × (length q.1.pictures ≤ MAX_FRAMES)) pair left

abbrev any-start : y4m.State × Rest → Result (AnyReader × Rest) (Fault PictureKind)
any-start r = Ok (Y4m r.0, r.1)

abbrev any-meaning : AnyReader × Rest → Result (Head × Pictures) (Fault PictureKind)
any-meaning start = Ok (head_of start.0, left_of start.0 start.1)

abbrev y4m-meaning : y4m.State × Rest → Result (Head × Pictures) (Fault PictureKind)
y4m-meaning start = Ok (start.0.form.head, pictures_left start.0 start.1)

same-meaning : (r : Result (y4m.State × Rest) (Fault PictureKind)) → bind (bind r any-start) any-meaning ≡ bind r y4m-meaning
unfolding bind
same-meaning (Ok x) = refl
same-meaning (Err f) = refl

pub y4m-meant : Y4mIsMeant
unfolding pictures_of pictured
y4m-meant bytes = same-meaning (start_at (record { place = 0; bytes = bytes }))
