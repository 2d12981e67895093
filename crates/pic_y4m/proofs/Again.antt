-- What was written is read back.
use Rattle.std.proofs.Common.{◌≡◌, ℕ, zero, suc, ◌+◌, ◌-◌, ◌*◌, ◌^◌, ◌<◌, ◌≤◌, lit<, Bool, false, eqb, List, [], ◌∷◌, ◌++◌, length, Some, None, Ok, refl, sym, ap, ◌∙◌, arith, ⊎_elim, length-append, append_assoc}
use Rattle.std.proofs.lemmas.Bool.{cases_Bool, eqb-true}
use Rattle.std.specs.Prelude.{codes}
use Rattle.pw_outside.specs.Reading.{bind}
use Rattle.pw_planes.specs.declared.picture.Picture.{Picture}
use Rattle.pw_planes.specs.Plane.{Raster, IsPlane}
use Rattle.pw_planes.specs.Samples.{sample_bits, chroma_width}
use Rattle.pic_y4m.specs.declared.fault.PictureKind.TheVariants as kinds
use Rattle.pic_y4m.specs.declared.head.TheConstants.{MAX_FRAMES}
use Rattle.pic_y4m.specs.declared.head_line.Stream.{Stream}
use Rattle.pic_y4m.specs.Line.{next_line}
use Rattle.pic_y4m.specs.Samples.{size_of, plane_bytes}
use Rattle.pic_y4m.specs.Frames.{picture_of, chroma_plane, planes_at, frame_at, next_at, State, advanced, pictures_in, pictures_left, luma_count, chroma_count}
use Rattle.pic_y4m.specs.Writing.{frame_bytes, frames_bytes, IsWhole, AreWhole}
use Rattle.pic_y4m.proofs.SamplesAgain.{plane-again, range-again}
use Rattle.pic_y4m.proofs.Lines.{line-ends}

-- the picture of its own planes
pub same-raster : (a : Raster) (width height : ℕ) → a.width ≡ width → a.height ≡ height → record { width = width; height = height; samples = a.samples } ≡ a
same-raster a width height e f = let m = sym e in let n = sym f in λ i. record { width = m i; height = n i; samples = a.samples }

same-chroma : (shares : Bool) (a : Raster) (width height : ℕ) → shares ≡ false → a.width ≡ width → a.height ≡ height → chroma_plane shares width height a.samples ≡ a
same-chroma shares a width height none e f = rw none (same-raster a width height e f)

same-picture : (form : Stream) (p : Picture) → form.shares_rows ≡ false → IsWhole form.head p → picture_of form p.y.samples p.cb.samples p.cr.samples ≡ p
same-picture form p none w =
    let wide : chroma_width p.chroma form.head.width ≡ chroma_width form.head.chroma form.head.width = ap (λ c. chroma_width c form.head.width) w.form.chroma in
    let luma = same-raster p.y form.head.width form.head.height w.form.size.luma.0 w.form.size.luma.1 in
    let blue = same-chroma form.shares_rows p.cb (chroma_width form.head.chroma form.head.width) form.head.height none (w.form.size.cb.0 ∙ wide) w.form.size.cb.1 in
    let red = same-chroma form.shares_rows p.cr (chroma_width form.head.chroma form.head.width) form.head.height none (w.form.size.cr.0 ∙ wide) w.form.size.cr.1 in
    let alpha = sym w.alpha in
    let chroma = sym w.form.chroma in
    let depth = sym w.form.depth in
    λ i. record { y = luma i; cb = blue i; cr = red i; alpha = alpha i; chroma = chroma i; depth = depth i }

pub plane-count : (a : Raster) (width height : ℕ) → IsPlane a → a.width ≡ width → a.height ≡ height → length a.samples ≡ height * width
plane-count a width height w e f = w.whole ∙ ap (λ k. k * a.width) f ∙ ap (λ k. height * k) e

chroma-many : (form : Stream) (p : Picture) (a : Raster) → form.shares_rows ≡ false → IsPlane a → p.chroma ≡ form.head.chroma → a.width ≡ chroma_width p.chroma form.head.width → a.height ≡ form.head.height
    → length a.samples ≡ chroma_count form
chroma-many form p a none w chroma e f =
    rw none (plane-count a (chroma_width form.head.chroma form.head.width) form.head.height w (e ∙ ap (λ c. chroma_width c form.head.width) chroma) f)

planes-again : (form : Stream) (p : Picture) (rest : List ℕ) (place end : ℕ) → form.shares_rows ≡ false → IsWhole form.head p
    → end ≡ place + length (plane_bytes (size_of form.head.depth) p.y.samples) + length (plane_bytes (size_of form.head.depth) p.cb.samples) + length (plane_bytes (size_of form.head.depth) p.cr.samples)
    → planes_at form (record { place = place; bytes = plane_bytes (size_of form.head.depth) p.y.samples ++ (plane_bytes (size_of form.head.depth) p.cb.samples ++ (plane_bytes (size_of form.head.depth) p.cr.samples ++ rest)) })
    ≡ Ok (p, record { place = end; bytes = rest })
unfolding planes_at bind
planes-again form p rest place end none w behind =
    let size = size_of form.head.depth in
    let limit = 2 ^ sample_bits form.head.depth in
    let y = plane-again size p.y.samples (plane_bytes size p.cb.samples ++ (plane_bytes size p.cr.samples ++ rest)) (luma_count form) place (plane-count p.y form.head.width form.head.height w.luma w.form.size.luma.0 w.form.size.luma.1) in
    let cb = plane-again size p.cb.samples (plane_bytes size p.cr.samples ++ rest) (chroma_count form) (place + length (plane_bytes size p.y.samples)) (chroma-many form p p.cb none w.cb w.form.chroma w.form.size.cb.0 w.form.size.cb.1) in
    let cr = plane-again size p.cr.samples rest (chroma_count form) (place + length (plane_bytes size p.y.samples) + length (plane_bytes size p.cb.samples)) (chroma-many form p p.cr none w.cr w.form.chroma w.form.size.cr.0 w.form.size.cr.1) in
    let r1 = range-again size limit p.y.samples place w.form.luma in
    let r2 = range-again size limit p.cb.samples (place + length (plane_bytes size p.y.samples)) w.form.cb in
    let r3 = range-again size limit p.cr.samples (place + length (plane_bytes size p.y.samples) + length (plane_bytes size p.cb.samples)) w.form.cr in
    rw (y, cb, cr, r1, r2, r3, behind) (ap (λ (q : Picture). Ok (q, record { place = place + length (plane_bytes size p.y.samples) + length (plane_bytes size p.cb.samples) + length (plane_bytes size p.cr.samples); bytes = rest })) (same-picture form p none w))

-- the line before a frame is read
line-again : (place after : ℕ) (all rest : List ℕ) → all ≡ codes "FRAME\n" ++ rest → after ≡ place + 6
    → next_line 256 kinds.FrameLine place (record { place = place; bytes = all }) ≡ Ok (Some (codes "FRAME"), record { place = after; bytes = rest })
line-again place after all rest e behind =
    line-ends 256 place place after kinds.FrameLine all (codes "FRAME") (10 ∷ rest) rest (Some 10) 10 (lit< tt) refl e refl refl refl behind

pub frame-parts : (f y cb cr rest : List ℕ) → f ++ y ++ cb ++ cr ++ rest ≡ f ++ (y ++ (cb ++ (cr ++ rest)))
frame-parts f y cb cr rest = simp append_assoc

pub frame-length : (f y cb cr : List ℕ) → length (f ++ y ++ cb ++ cr) ≡ length f + length y + length cb + length cr
frame-length f y cb cr = simp length-append

pub eqb-less : (a b : ℕ) → a < b → eqb a b ≡ false
eqb-less a b h = ⊎_elim (λ t. let e : a ≡ b = eqb-true a b t in absurd (omega arith)) (λ f. f) (cases_Bool (eqb a b))

pub picture-again : (r : State) (p : Picture) (rest : List ℕ) → r.form.shares_rows ≡ false → r.frames < MAX_FRAMES → IsWhole r.form.head p
    → next_at r (record { place = r.place; bytes = frame_bytes r.form.head.depth p ++ rest })
    ≡ Ok (Some p, record { place = r.place + length (frame_bytes r.form.head.depth p); bytes = rest })
unfolding next_at frame_at frame_bytes bind
picture-again r p rest none few w =
    let size = size_of r.form.head.depth in
    let y = plane_bytes size p.y.samples in
    let cb = plane_bytes size p.cb.samples in
    let cr = plane_bytes size p.cr.samples in
    let more : eqb r.frames MAX_FRAMES ≡ false = eqb-less r.frames MAX_FRAMES few in
    let line = line-again r.place (r.place + 6) (codes "FRAME\n" ++ y ++ cb ++ cr ++ rest) (y ++ (cb ++ (cr ++ rest))) (frame-parts (codes "FRAME\n") y cb cr rest) refl in
    let planes = planes-again r.form p rest (r.place + 6) (r.place + length (codes "FRAME\n" ++ y ++ cb ++ cr)) none w (omega (arith, frame-length (codes "FRAME\n") y cb cr)) in
    rw (more, line, planes) refl

-- nothing follows the last frame
end-again : (r : State) → next_at r (record { place = r.place; bytes = [] }) ≡ Ok (None, record { place = r.place; bytes = [] })
unfolding next_at frame_at next_line bind
end-again r = ⊎_elim (λ t. rw t refl) (λ f. rw f refl) (cases_Bool (eqb r.frames MAX_FRAMES))

pictures-in : (n : ℕ) (r : State) (ps : List Picture) → length ps < n → r.form.shares_rows ≡ false → r.frames + length ps ≤ MAX_FRAMES → AreWhole r.form.head ps
    → pictures_in n r (record { place = r.place; bytes = frames_bytes r.form.head.depth ps }) ≡ record { pictures = ps; fault = None }
unfolding pictures_in
pictures-in zero r ps lt none few w = absurd (omega arith)
pictures-in (suc n) r [] lt none few w = rw (end-again r) refl
pictures-in (suc n) r (p ∷ ps) lt none few w =
    let first = picture-again r p (frames_bytes r.form.head.depth ps) none (omega arith) w.0 in
    let after : State = advanced r (r.place + length (frame_bytes r.form.head.depth p)) in
    let others = pictures-in n after ps (omega arith) none (omega arith) w.1 in
    rw (first, others) refl

pub pictures-again : (r : State) (ps : List Picture) → r.form.shares_rows ≡ false → r.frames + length ps ≤ MAX_FRAMES → AreWhole r.form.head ps
    → pictures_left r (record { place = r.place; bytes = frames_bytes r.form.head.depth ps }) ≡ record { pictures = ps; fault = None }
unfolding pictures_left
pictures-again r ps none few w = pictures-in (MAX_FRAMES + 1 - r.frames) r ps (omega arith) none few w
