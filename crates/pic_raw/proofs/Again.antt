-- What was written is read back.
use Rattle.std.proofs.Common.{◌≡◌, ℕ, zero, suc, ◌+◌, ◌-◌, ◌*◌, ◌^◌, ◌<◌, ◌≤◌, Bool, true, false, eqb, List, [], ◌∷◌, ◌++◌, length, Option, Some, None, Ok, refl, sym, ap, ◌∙◌, arith, ⊎_elim, length-append}
use Rattle.std.proofs.lemmas.Bool.{cases_Bool}
use Rattle.std.specs.Prelude.{IfSome, is_some}
use Rattle.std.specs.List.{All}
use Rattle.std.specs.Option.{option_map}
use Rattle.pw_outside.specs.Reading.{bind}
use Rattle.pw_planes.specs.declared.kinds.AlphaKind.{AlphaKind}
use Rattle.pw_planes.specs.declared.picture.Picture.{Picture}
use Rattle.pw_planes.specs.Plane.{Raster, IsPlane, IsSized}
use Rattle.pw_planes.specs.Samples.{sample_bits, chroma_width}
use Rattle.pic_y4m.specs.declared.head.Head.{Head}
use Rattle.pic_y4m.specs.declared.head.TheConstants.{MAX_FRAMES}
use Rattle.pic_y4m.specs.declared.samples.SampleSize.TheVariants.{Pair}
use Rattle.pic_y4m.specs.Samples.{some_samples_at, plane_bytes}
use Rattle.pic_y4m.specs.Frames.{has_alpha}
use Rattle.pic_y4m.proofs.SamplesAgain.{plane-length, plane-again, range-again}
use Rattle.pic_y4m.proofs.Lines.{eqb-some}
use Rattle.pic_y4m.proofs.Again.{same-raster, plane-count, eqb-less, frame-parts, frame-length}
use Rattle.pic_raw.specs.Raw.{State, alpha_limit, alpha_at, alpha_in_range, plane_of, picture_of, picture_behind, frame_at, advanced, next_at, pictures_in, pictures_left, luma_count, chroma_count}
use Rattle.pic_raw.specs.Writing.{alpha_bytes, raw_bytes, frames_bytes, IsWhole, AreWhole}

-- ---- alpha

alpha-again : (there : Bool) (a : Option Raster) (count place : ℕ) (rest : List ℕ) → is_some a ≡ there → IfSome a (λ p. length p.samples ≡ count)
    → alpha_at there count (record { place = place; bytes = alpha_bytes a ++ rest }) ≡ Ok (option_map (λ p. p.samples) a, record { place = place + length (alpha_bytes a); bytes = rest })
unfolding bind
alpha-again true None count place rest e len = absurd cc
alpha-again false None count place rest e len = ap (λ n. Ok (None, record { place = n; bytes = rest })) (omega arith)
alpha-again true (Some p) count place rest e len = rw (plane-again Pair p.samples rest count place len) refl
alpha-again false (Some p) count place rest e len = absurd cc

alpha-good : (kind : AlphaKind) (a : Option Raster) (place : ℕ) → IfSome a (λ p. All (λ s. s < alpha_limit kind) p.samples) → alpha_in_range kind (option_map (λ p. p.samples) a) place ≡ Ok tt
alpha-good kind None place within = refl
alpha-good kind (Some p) place within = range-again Pair (alpha_limit kind) p.samples place within

same-alpha : (a : Option Raster) (width height : ℕ) → IfSome a (λ p. IsSized p width height) → option_map (plane_of width height) (option_map (λ p. p.samples) a) ≡ a
same-alpha None width height sized = refl
same-alpha (Some p) width height sized = ap Some (same-raster p width height sized.0 sized.1)

alpha-count : (a : Option Raster) (width height : ℕ) → IfSome a IsPlane → IfSome a (λ p. IsSized p width height) → IfSome a (λ p. length p.samples ≡ height * width)
alpha-count None width height whole sized = tt
alpha-count (Some p) width height whole sized = plane-count p width height whole sized.0 sized.1

-- ---- a picture

same-picture : (h : Head) (p : Picture) → IsWhole h p → picture_of h p.y.samples p.cb.samples p.cr.samples (option_map (λ a. a.samples) p.alpha) ≡ p
same-picture h p w =
    let f = w.picture.form in
    let wide : chroma_width p.chroma h.width ≡ chroma_width h.chroma h.width = ap (λ c. chroma_width c h.width) f.chroma in
    let luma = same-raster p.y h.width h.height f.size.luma.0 f.size.luma.1 in
    let blue = same-raster p.cb (chroma_width h.chroma h.width) h.height (f.size.cb.0 ∙ wide) f.size.cb.1 in
    let red = same-raster p.cr (chroma_width h.chroma h.width) h.height (f.size.cr.0 ∙ wide) f.size.cr.1 in
    let alpha = same-alpha p.alpha h.width h.height f.size.alpha in
    let chroma = sym f.chroma in
    let depth = sym f.depth in
    λ i. record { y = luma i; cb = blue i; cr = red i; alpha = alpha i; chroma = chroma i; depth = depth i }

luma-many : (h : Head) (p : Picture) → IsWhole h p → length p.y.samples ≡ luma_count h
luma-many h p w = plane-count p.y h.width h.height w.luma w.picture.form.size.luma.0 w.picture.form.size.luma.1

chroma-many : (h : Head) (p : Picture) (a : Raster) → IsPlane a → p.chroma ≡ h.chroma → IsSized a (chroma_width p.chroma h.width) h.height → length a.samples ≡ chroma_count h
chroma-many h p a w chroma sized = plane-count a (chroma_width h.chroma h.width) h.height w (sized.0 ∙ ap (λ c. chroma_width c h.width) chroma) sized.1

behind-again : (h : Head) (p : Picture) (rest : List ℕ) (first place end : ℕ) → IsWhole h p
    → end ≡ place + length (plane_bytes Pair p.cb.samples) + length (plane_bytes Pair p.cr.samples) + length (alpha_bytes p.alpha)
    → picture_behind h first p.y.samples (record { place = place; bytes = plane_bytes Pair p.cb.samples ++ (plane_bytes Pair p.cr.samples ++ (alpha_bytes p.alpha ++ rest)) })
    ≡ Ok (p, record { place = end; bytes = rest })
unfolding picture_behind bind
behind-again h p rest first place end w behind =
    let f = w.picture.form in
    let limit = 2 ^ sample_bits h.depth in
    let cr_at = place + length (plane_bytes Pair p.cb.samples) in
    let alpha_place = cr_at + length (plane_bytes Pair p.cr.samples) in
    let cb = plane-again Pair p.cb.samples (plane_bytes Pair p.cr.samples ++ (alpha_bytes p.alpha ++ rest)) (chroma_count h) place (chroma-many h p p.cb w.cb f.chroma f.size.cb) in
    let cr = plane-again Pair p.cr.samples (alpha_bytes p.alpha ++ rest) (chroma_count h) cr_at (chroma-many h p p.cr w.cr f.chroma f.size.cr) in
    let alpha = alpha-again (has_alpha h.alpha) p.alpha (luma_count h) alpha_place rest f.alpha (alpha-count p.alpha h.width h.height w.alpha f.size.alpha) in
    let r1 = range-again Pair limit p.y.samples first f.luma in
    let r2 = range-again Pair limit p.cb.samples place f.cb in
    let r3 = range-again Pair limit p.cr.samples cr_at f.cr in
    let r4 = alpha-good h.alpha p.alpha alpha_place w.picture.alpha in
    rw (cb, cr, alpha, r1, r2, r3, r4, behind) (ap (λ (q : Picture). Ok (q, record { place = alpha_place + length (alpha_bytes p.alpha); bytes = rest })) (same-picture h p w))

-- luma comes next, and has a sample
some-again : (ys rest : List ℕ) (count place : ℕ) → 1 ≤ count → length ys ≡ count
    → some_samples_at Pair count (record { place = place; bytes = plane_bytes Pair ys ++ rest }) ≡ Ok (Some ys, record { place = place + length (plane_bytes Pair ys); bytes = rest })
unfolding some_samples_at bind
some-again ys rest count place some len =
    let much : length (plane_bytes Pair ys ++ rest) ≡ length ys * 2 + length rest = length-append (plane_bytes Pair ys) rest ∙ ap (λ n. n + length rest) (plane-length Pair ys) in
    let there : eqb (length (plane_bytes Pair ys ++ rest)) 0 ≡ false = eqb-some (length (plane_bytes Pair ys ++ rest)) (omega (arith, much, len, some)) in
    rw (there, plane-again Pair ys rest count place len) refl

some-luma : (h : Head) (p : Picture) → IsWhole h p → 1 ≤ luma_count h
some-luma h p w =
    let e = luma-many h p w in
    let whole = w.luma.whole in
    omega (arith, e, whole, positive p.y.height p.y.width w.luma.some_rows w.luma.some_columns)
  where
    positive : (a b : ℕ) → 0 < a → 0 < b → 1 ≤ a * b
    positive a b x y = grind arith

pub picture-again : (r : State) (p : Picture) (rest : List ℕ) → r.frames < MAX_FRAMES → IsWhole r.head p
    → next_at r (record { place = r.place; bytes = raw_bytes p ++ rest }) ≡ Ok (Some p, record { place = r.place + length (raw_bytes p); bytes = rest })
unfolding next_at frame_at raw_bytes bind
picture-again r p rest few w =
    let y = plane_bytes Pair p.y.samples in
    let cb = plane_bytes Pair p.cb.samples in
    let cr = plane_bytes Pair p.cr.samples in
    let a = alpha_bytes p.alpha in
    let more : eqb r.frames MAX_FRAMES ≡ false = eqb-less r.frames MAX_FRAMES few in
    let luma = some-again p.y.samples (cb ++ (cr ++ (a ++ rest))) (luma_count r.head) r.place (some-luma r.head p w) (luma-many r.head p w) in
    let behind = behind-again r.head p rest r.place (r.place + length y) (r.place + length (y ++ cb ++ cr ++ a)) w (omega (arith, frame-length y cb cr a)) in
    rw (more, frame-parts y cb cr a rest, luma, behind) refl

-- nothing follows the last frame
end-again : (r : State) → next_at r (record { place = r.place; bytes = [] }) ≡ Ok (None, record { place = r.place; bytes = [] })
unfolding next_at frame_at some_samples_at bind
end-again r = ⊎_elim (λ t. rw t refl) (λ f. rw f refl) (cases_Bool (eqb r.frames MAX_FRAMES))

pictures-in : (n : ℕ) (r : State) (ps : List Picture) → length ps < n → r.frames + length ps ≤ MAX_FRAMES → AreWhole r.head ps
    → pictures_in n r (record { place = r.place; bytes = frames_bytes ps }) ≡ record { pictures = ps; fault = None }
unfolding pictures_in
pictures-in zero r ps lt few w = absurd (omega arith)
pictures-in (suc n) r [] lt few w = rw (end-again r) refl
pictures-in (suc n) r (p ∷ ps) lt few w =
    let first = picture-again r p (frames_bytes ps) (omega arith) w.0 in
    let after : State = advanced r (r.place + length (raw_bytes p)) in
    let others = pictures-in n after ps (omega arith) (omega arith) w.1 in
    rw (first, others) refl

pub pictures-again : (r : State) (ps : List Picture) → r.frames + length ps ≤ MAX_FRAMES → AreWhole r.head ps
    → pictures_left r (record { place = r.place; bytes = frames_bytes ps }) ≡ record { pictures = ps; fault = None }
unfolding pictures_left
pictures-again r ps few w = pictures-in (MAX_FRAMES + 1 - r.frames) r ps (omega arith) few w
