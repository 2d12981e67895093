-- The same of pictures and of frames.
use Rattle.std.proofs.Common.{◌≡◌, inl, inr, ℕ, zero, suc, ◌+◌, ◌-◌, ◌*◌, ◌%◌, ◌≤◌, Bool, true, false, not, ◌==◌, nat_lt, List, [], ◌∷◌, length, drop, sum, Some, Result, Ok, Err, refl, sym, ap, ◌∙◌, subst, arith}
use Rattle.std.specs.Prelude.{◌⊎◌}
use Rattle.std.specs.Result.{result_err}
use Rattle.std.proofs.lemmas.Bool.{le-ltb, or_from, or_parts, not-false, ltb-false, ne_eqb, eqb-false, eqb-true, eq-eqb}
use Rattle.pw_outside.specs.Reading.{Fault, Rest}
use Rattle.pw_planes.specs.declared.plane.TheConstants.{MAX_WIDTH, MAX_HEIGHT}
use Rattle.pr_geom.specs.declared.places.SlicePlace.{SlicePlace}
use Rattle.pr_geom.specs.declared.places.TheConstants.{MAX_SLICES}
use Rattle.pr_geom.specs.Slices.{pictures_of}
use Rattle.pr_head.specs.declared.fault.FrameKind.{FrameKind}
use Rattle.pr_head.specs.declared.frame.FrameHeader.{FrameHeader}
use Rattle.pr_head.specs.declared.picture.PictureHeader.{PictureHeader}
use Rattle.pr_head.specs.Header.{icpf, Opened, start_of, opened_of, interlace_bits, interlace_of, size_fault, form_fault, header_at}
use Rattle.pr_head.specs.Picture.{picture_of, slices_in, sizes_of, picture_size, picture_fault, picture_at, table_at}
use Rattle.pr_head.proofs.Chain.{bind-ok, bind-step, refuse-ok, refuse-step}
use Rattle.pr_head.proofs.Passing.{ahead-ahead, ahead-none}
use Rattle.pr_head.proofs.Whole.{sizes-found}
use Rattle.pr_frame.specs.declared.coded.CodedSlice.{CodedSlice}
use Rattle.pr_frame.specs.declared.coded.CodedPicture.{CodedPicture}
use Rattle.pr_frame.specs.declared.coded.CodedFrame.{CodedFrame}
use Rattle.pr_frame.specs.Forms.{places_in}
use Rattle.pr_frame.specs.Stands.{SlicesStand, table_of, behind_table, PictureStands, PicturesStand, HeaderStands, header_taken, FrameStands}
use Rattle.pr_frame.specs.Reading.{ahead, coded_slices_at, coded_picture_at, coded_pictures_at, frame_at, frame_of, frame_fault}
use Rattle.pr_frame.proofs.Rests.{ok-both, header-rest, picture-rest, table-rest, coded-rest}
use Rattle.pr_frame.proofs.SliceLoop.{sum-front}
use Rattle.pr_frame.proofs.Standing.{slice-found, slice-again}
use Rattle.pr_frame.proofs.Counts.{AllHave, places-have, length-sizes, count-places}

-- ---- slices

pub slices-found : (h : FrameHeader) (places : List SlicePlace) (sizes : List ℕ) (s t : Rest) (xs : List CodedSlice) → AllHave h places → length sizes ≡ length places
    → coded_slices_at h places sizes s ≡ Ok (xs, t) → SlicesStand h places sizes s.bytes xs
unfolding coded_slices_at
slices-found h [] [] s t xs have same e = subst (SlicesStand h [] [] s.bytes) (sym (ok-both e).0) tt
slices-found h [] (z ∷ sizes) s t xs have same e = absurd (omega arith)
slices-found h (p ∷ places) [] s t xs have same e = absurd (omega arith)
slices-found h (p ∷ places) (z ∷ sizes) s t xs have same e =
    let e1 = bind-ok _ _ e in
    let e2 = bind-ok _ _ e1.2 in
    let first = slice-found h p z s e1.0.1 e1.0.0 have.0 e1.1 in
    let rest = coded-rest h p z s e1.0.0 e1.0.1 e1.1 in
    let others = slices-found h places sizes e1.0.1 e2.0.1 e2.0.0 have.1 (omega arith) e2.1 in
    let moved : SlicesStand h places sizes (drop z s.bytes) e2.0.0 = subst (λ (v : Rest). SlicesStand h places sizes v.bytes e2.0.0) rest others in
    subst (SlicesStand h (p ∷ places) (z ∷ sizes) s.bytes) (sym (ok-both e2.2).0) (first, moved)

pub slices-again : (h : FrameHeader) (places : List SlicePlace) (sizes : List ℕ) (s : Rest) (xs : List CodedSlice) → AllHave h places
    → SlicesStand h places sizes s.bytes xs → coded_slices_at h places sizes s ≡ Ok (xs, ahead (sum sizes) s)
unfolding coded_slices_at
slices-again h [] [] s [] have stand = ap (λ (t : Rest). Ok ([], t)) (sym (ahead-none s))
slices-again h [] (z ∷ sizes) s xs have stand = absurd stand
slices-again h [] [] s (x ∷ xs) have stand = absurd stand
slices-again h (p ∷ places) [] s xs have stand = absurd stand
slices-again h (p ∷ places) (z ∷ sizes) s [] have stand = absurd stand
slices-again h (p ∷ places) (z ∷ sizes) s (x ∷ xs) have stand =
    let first = slice-again h p z s x have.0 stand.0 in
    let others = slices-again h places sizes (ahead z s) xs have.1 stand.1 in
    bind-step _ _ first ∙ bind-step _ _ others ∙ ap (λ (t : Rest). Ok (x ∷ xs, t)) (ahead-ahead (sum sizes) z s ∙ ap (λ n. ahead n s) (sym (sum-front z sizes)))

-- ---- a picture

picture-none : (F : ℕ) (h : FrameHeader) (s : Rest) (room : ℕ) (x : CodedPicture) → s.place + room ≡ F → PictureStands h room s.bytes x
    → picture_at F h s ≡ Ok (picture_of s.bytes, ahead (picture_of s.bytes).header s)
unfolding picture_at picture_fault
picture-none F h s room x e p =
    refuse-step _ _ _ _ (le-ltb F (s.place + 8) (omega (arith, p.fields)))
    ∙ bind-step _ _ (refuse-step _ _ _ _ (le-ltb (picture_of s.bytes).header 8 p.header)
    ∙ refuse-step _ _ _ _ (le-ltb (picture_of s.bytes).size (picture_of s.bytes).header p.whole)
    ∙ refuse-step _ _ _ _ (le-ltb F (s.place + (picture_of s.bytes).size) (omega (arith, p.within)))
    ∙ refuse-step _ _ _ _ (le-ltb MAX_SLICES (slices_in h (picture_of s.bytes)) p.few))

table-none : (r : PictureHeader) (count : ℕ) (s : Rest) → picture_size r (sizes_of count s.bytes) ≤ r.size → table_at r count s ≡ Ok (sizes_of count s.bytes, ahead (2 * count) s)
unfolding table_at
table-none r count s within =
    let n = length-sizes count s.bytes in
    refuse-step _ _ _ _ (le-ltb r.size (r.header + 2 * count) (omega (arith, n, within)))
    ∙ refuse-step _ _ _ _ (le-ltb r.size (r.header + 2 * count + sum (sizes_of count s.bytes)) (omega (arith, n, within)))

pub picture-again : (F : ℕ) (h : FrameHeader) (s : Rest) (room : ℕ) (x : CodedPicture) → s.place + room ≡ F → x.log2 ≤ 3 → PictureStands h room s.bytes x
    → coded_picture_at F h s ≡ Ok (x, ahead (picture_of s.bytes).size s)
unfolding coded_picture_at
picture-again F h s room x e small p =
    let r = picture_of s.bytes in
    let sizes = table_of h s.bytes in
    let t = ahead (2 * slices_in h r) (ahead r.header s) in
    let places : SlicesStand h (places_in h r.log2) sizes (behind_table h s.bytes) x.slices = subst (λ k. SlicesStand h (places_in h k) sizes (behind_table h s.bytes) x.slices) (sym p.log2) p.slices in
    let at : SlicesStand h (places_in h r.log2) sizes t.bytes x.slices = subst (λ (v : Rest). SlicesStand h (places_in h r.log2) sizes v.bytes x.slices) (sym (ahead-ahead (2 * slices_in h r) r.header s)) places in
    let low : r.log2 ≤ 3 = subst (λ k. k ≤ 3) (sym p.log2) small in
    let read = slices-again h (places_in h r.log2) sizes t x.slices (places-have h r.log2 low) at in
    let x-is : record { log2 = r.log2; slices = x.slices } ≡ x = λ j. record { log2 = p.log2 j; slices = x.slices } in
    bind-step _ _ (picture-none F h s room x e p) ∙ bind-step _ _ (table-none r (slices_in h r) (ahead r.header s) p.table) ∙ bind-step _ _ read
    ∙ ap (λ (y : CodedPicture). Ok (y, ahead r.size s)) x-is

log2-small : (b : List ℕ) → (picture_of b).log2 ≤ 3
unfolding picture_of
log2-small b = omega arith

-- the fields of a picture's header that was read
record IsJudged (F : ℕ) (h : FrameHeader) (s : Rest) (q : PictureHeader) : Type 0 where
  fields : s.place + 8 ≤ F
  header : 8 ≤ q.header
  whole : q.header ≤ q.size
  within : s.place + q.size ≤ F
  few : slices_in h q ≤ MAX_SLICES

picture-judged : (F : ℕ) (h : FrameHeader) (s t : Rest) (r : PictureHeader) → picture_at F h s ≡ Ok (r, t) → IsJudged F h s (picture_of s.bytes)
unfolding picture_at picture_fault
picture-judged F h s t r e =
    let e1 = bind-ok _ _ e in
    let e2 = bind-ok _ _ e1.2 in
    let f1 = bind-ok _ _ e2.1 in
    let f2 = bind-ok _ _ f1.2 in
    let f3 = bind-ok _ _ f2.2 in
    let f4 = bind-ok _ _ f3.2 in
    record {
      fields = ltb-false _ _ (refuse-ok _ _ _ e1.1);
      header = ltb-false _ _ (refuse-ok _ _ _ f1.1);
      whole = ltb-false _ _ (refuse-ok _ _ _ f2.1);
      within = ltb-false _ _ (refuse-ok _ _ _ f3.1);
      few = ltb-false _ _ (refuse-ok _ _ _ f4.1);
    }

table-judged : (r : PictureHeader) (count : ℕ) (s t : Rest) (sizes : List ℕ) → table_at r count s ≡ Ok (sizes, t) → picture_size r (sizes_of count s.bytes) ≤ r.size
unfolding table_at
table-judged r count s t sizes e =
    let e1 = bind-ok _ _ e in
    let e2 = bind-ok _ _ e1.2 in
    omega (arith, ltb-false _ _ (refuse-ok _ _ _ e2.1), length-sizes count s.bytes)

pub picture-found : (F : ℕ) (h : FrameHeader) (s t : Rest) (room : ℕ) (x : CodedPicture) → s.place + room ≡ F → coded_picture_at F h s ≡ Ok (x, t)
    → PictureStands h room s.bytes x × (t ≡ ahead (picture_of s.bytes).size s)
unfolding coded_picture_at
picture-found F h s t room x e read =
    let e1 = bind-ok _ _ read in
    let e2 = bind-ok _ _ e1.2 in
    let e3 = bind-ok _ _ e2.2 in
    let end = ok-both e3.2 in
    let head = picture-rest F h s e1.0.0 e1.0.1 e1.1 in
    let r = picture_of s.bytes in
    let r-is : e1.0.0 ≡ r = head.0 in
    let t1-is : e1.0.1 ≡ ahead r.header s = head.1 ∙ ap (λ (q : PictureHeader). ahead q.header s) r-is in
    let judged = picture-judged F h s e1.0.1 e1.0.0 e1.1 in
    let table0 : table_at r (slices_in h r) e1.0.1 ≡ Ok e2.0 = subst (λ (q : PictureHeader). table_at q (slices_in h q) e1.0.1 ≡ Ok e2.0) r-is e2.1 in
    let table1 : table_at r (slices_in h r) (ahead r.header s) ≡ Ok e2.0 = subst (λ (v : Rest). table_at r (slices_in h r) v ≡ Ok e2.0) t1-is table0 in
    let behind = table-rest r (slices_in h r) (ahead r.header s) e2.0.0 e2.0.1 table1 in
    let fits = table-judged r (slices_in h r) (ahead r.header s) e2.0.1 e2.0.0 table1 in
    let slices0 : coded_slices_at h (places_in h r.log2) e2.0.0 e2.0.1 ≡ Ok e3.0 = subst (λ (q : PictureHeader). coded_slices_at h (places_in h q.log2) e2.0.0 e2.0.1 ≡ Ok e3.0) r-is e3.1 in
    let same : length e2.0.0 ≡ length (places_in h r.log2) = ap length behind.0 ∙ length-sizes (slices_in h r) (drop r.header s.bytes) ∙ count-places h r in
    let found = slices-found h (places_in h r.log2) e2.0.0 e2.0.1 e3.0.1 e3.0.0 (places-have h r.log2 (log2-small s.bytes)) same slices0 in
    let t2-is : e2.0.1 ≡ ahead (r.header + 2 * slices_in h r) s = behind.1 ∙ ahead-ahead (2 * slices_in h r) r.header s in
    let moved : SlicesStand h (places_in h r.log2) (table_of h s.bytes) (behind_table h s.bytes) e3.0.0 =
    subst (λ zs. SlicesStand h (places_in h r.log2) zs (behind_table h s.bytes) e3.0.0) behind.0 (subst (λ (v : Rest). SlicesStand h (places_in h r.log2) e2.0.0 v.bytes e3.0.0) t2-is found) in
    let stands : PictureStands h room s.bytes (record { log2 = r.log2; slices = e3.0.0 }) = record {
      fields = omega (arith, judged.fields);
      header = judged.header;
      whole = judged.whole;
      within = omega (arith, judged.within);
      log2 = refl;
      few = judged.few;
      table = fits;
      slices = moved;
    } in
    let x-is : record { log2 = r.log2; slices = e3.0.0 } ≡ x = ap (λ (q : PictureHeader). record { log2 = q.log2; slices = e3.0.0 }) (sym r-is) ∙ sym end.0 in (
      subst (PictureStands h room s.bytes) x-is stands,
      end.1 ∙ ap (λ (q : PictureHeader). ahead q.size s) r-is,
    )

-- ---- pictures

pub pictures-found : (count F : ℕ) (h : FrameHeader) (s t : Rest) (room : ℕ) (xs : List CodedPicture) → s.place + room ≡ F → coded_pictures_at count F h s ≡ Ok (xs, t)
    → PicturesStand h room s.bytes xs × (length xs ≡ count)
unfolding coded_pictures_at
pictures-found zero F h s t room xs e read =
    let is = (ok-both read).0 in
    (subst (PicturesStand h room s.bytes) (sym is) tt, ap length is)
pictures-found (suc count) F h s t room xs e read =
    let e1 = bind-ok _ _ read in
    let e2 = bind-ok _ _ e1.2 in
    let x = e1.0.0 in
    let first = picture-found F h s e1.0.1 room x e e1.1 in
    let size = (picture_of s.bytes).size in
    let read2 : coded_pictures_at count F h (ahead size s) ≡ Ok e2.0 = subst (λ (v : Rest). coded_pictures_at count F h v ≡ Ok e2.0) first.1 e2.1 in
    let others = pictures-found count F h (ahead size s) e2.0.1 (room - size) e2.0.0 (omega (arith, e, first.0.within)) read2 in
    let is = (ok-both e2.2).0 in
    (subst (PicturesStand h room s.bytes) (sym is) (first.0, others.0), ap length is ∙ ap suc others.1)

pub pictures-again : (count F : ℕ) (h : FrameHeader) (s : Rest) (room : ℕ) (xs : List CodedPicture) → s.place + room ≡ F → length xs ≡ count
    → PicturesStand h room s.bytes xs → (t : Rest) × (coded_pictures_at count F h s ≡ Ok (xs, t))
unfolding coded_pictures_at
pictures-again zero F h s room [] e same stand = (s, refl)
pictures-again zero F h s room (x ∷ xs) e same stand = absurd (omega arith)
pictures-again (suc count) F h s room [] e same stand = absurd (omega arith)
pictures-again (suc count) F h s room (x ∷ xs) e same stand =
    let size = (picture_of s.bytes).size in
    let small : x.log2 ≤ 3 = subst (λ k. k ≤ 3) stand.0.log2 (log2-small s.bytes) in
    let first = picture-again F h s room x e small stand.0 in
    let others = pictures-again count F h (ahead size s) (room - size) xs (omega (arith, e, stand.0.within)) (omega arith) stand.1 in
    (others.0, bind-step _ _ first ∙ bind-step _ _ others.1)

-- ---- the header of a frame

pub header-found : (s : List ℕ) (o : Opened) (t : Rest) → header_at (length s) s ≡ Ok (o, t) → HeaderStands s o.header
unfolding header_at size_fault form_fault
header-found s o t e =
    let r = start_of s in
    let e1 = bind-ok _ _ e in
    let e2 = bind-ok _ _ e1.2 in
    let e3 = bind-ok _ _ e2.2 in
    let sizes = sizes-found (length s) r e2.1 in
    let mark = bind-ok _ _ e2.1 in
    let f1 = bind-ok _ _ e3.1 in
    let f2 = bind-ok _ _ f1.2 in
    let f3 = bind-ok _ _ f2.2 in
    let f4 = bind-ok _ _ f3.2 in
    let f5 = bind-ok _ _ f4.2 in
    let f6 = bind-ok _ _ f5.2 in
    let f7 = bind-ok _ _ f6.2 in
    let some = or_parts (r.width == 0) (r.height == 0) (refuse-ok _ _ _ f5.1) in
    let most = or_parts (nat_lt MAX_WIDTH r.width) (nat_lt MAX_HEIGHT r.height) (refuse-ok _ _ _ f6.1) in
    let even : r.height % pictures_of (interlace_of (interlace_bits r)) ≤ 0 = ltb-false _ _ (refuse-ok _ _ _ f7.1) in
    let is = header-rest (length s) s o t e in
    record {
      fields = ltb-false _ _ (refuse-ok _ _ _ e1.1);
      mark = eqb-true r.mark icpf (not-false (r.mark == icpf) (refuse-ok _ _ _ mark.1));
      sizes = sizes;
      form = record {
        version = ltb-false _ _ (refuse-ok _ _ _ f1.1);
        some_columns = omega (arith, eqb-false r.width 0 some.0);
        some_rows = omega (arith, eqb-false r.height 0 some.1);
        columns = ltb-false MAX_WIDTH r.width most.0;
        rows = ltb-false MAX_HEIGHT r.height most.1;
        whole = omega (arith, even);
      };
      chroma = ltb-false _ _ (refuse-ok _ _ _ f2.1);
      interlace = eqb-false (interlace_bits r) 3 (refuse-ok _ _ _ f3.1);
      alpha = ltb-false _ _ (refuse-ok _ _ _ f4.1);
      is = sym (ap (λ (q : Opened). q.header) is.0);
    }

pub header-again : (s : List ℕ) (h : FrameHeader) → HeaderStands s h → header_at (length s) s ≡ Ok (record { header = h; taken = header_taken s; size = (start_of s).size }, record { place = header_taken s; bytes = drop (header_taken s) s })
unfolding header_at size_fault form_fault
header-again s h p =
    let r = start_of s in
    let opened : opened_of s ≡ record { header = h; taken = header_taken s; size = r.size } = λ j. record { header = p.is j; taken = header_taken s; size = r.size } in
    let even : r.height % pictures_of (interlace_of (interlace_bits r)) ≡ 0 = p.form.whole in
    refuse-step _ _ _ _ (le-ltb (length s) 28 p.fields)
    ∙ bind-step _ _ (refuse-step _ _ _ _ (ap not (eq-eqb r.mark icpf p.mark))
    ∙ refuse-step _ _ _ _ (le-ltb _ _ p.sizes.least)
    ∙ refuse-step _ _ _ _ (le-ltb _ _ p.sizes.most)
    ∙ refuse-step _ _ _ _ (le-ltb _ _ p.sizes.header)
    ∙ refuse-step _ _ _ _ (le-ltb _ _ p.sizes.within))
    ∙ bind-step _ _ (refuse-step _ _ _ _ (le-ltb _ _ p.form.version)
    ∙ refuse-step _ _ _ _ (le-ltb _ _ p.chroma)
    ∙ refuse-step _ _ _ _ (ne_eqb _ _ p.interlace)
    ∙ refuse-step _ _ _ _ (le-ltb _ _ p.alpha)
    ∙ refuse-step _ _ _ _ (or_from (r.width == 0) (r.height == 0) (ne_eqb _ _ (λ e. omega (arith, p.form.some_columns))) (ne_eqb _ _ (λ e. omega (arith, p.form.some_rows))))
    ∙ refuse-step _ _ _ _ (or_from (nat_lt MAX_WIDTH r.width) (nat_lt MAX_HEIGHT r.height) (le-ltb _ _ p.form.columns) (le-ltb _ _ p.form.rows))
    ∙ refuse-step _ _ _ _ (le-ltb _ _ (omega (arith, even))))
    ∙ ap (λ (o : Opened). Ok (o, record { place = header_taken s; bytes = drop (header_taken s) s })) opened

-- ---- a frame

pub frame-found : (s : List ℕ) (f : CodedFrame) → frame_of s ≡ Ok f → FrameStands s f
unfolding frame_of frame_at
frame-found s f read =
    let e0 = bind-ok _ _ read in
    let e1 = bind-ok _ _ e0.1 in
    let e2 = bind-ok _ _ e1.2 in
    let o = e1.0.0 in
    let header = header-found s o e1.0.1 e1.1 in
    let rest = header-rest (length s) s o e1.0.1 e1.1 in
    let r = start_of s in
    let size-is : o.size ≡ r.size = ap (λ (q : Opened). q.size) rest.0 in
    let at : Rest = record { place = header_taken s; bytes = drop (header_taken s) s } in
    let read1 : coded_pictures_at (pictures_of o.header.interlace) o.size o.header at ≡ Ok e2.0 = subst (λ (v : Rest). coded_pictures_at (pictures_of o.header.interlace) o.size o.header v ≡ Ok e2.0) rest.1 e2.1 in
    let room : header_taken s + (r.size - header_taken s) ≡ o.size = omega (arith, header.sizes.within, size-is) in
    let found = pictures-found (pictures_of o.header.interlace) o.size o.header at e2.0.1 (r.size - header_taken s) e2.0.0 room read1 in
    let all : FrameStands s (record { header = o.header; pictures = e2.0.0 }) = record { header = header; number = found.1; pictures = found.0 } in
    let g-is = ok-both e2.2 in
    let f-is : e0.0.0 ≡ f = cc e0.2 in
    subst (FrameStands s) (sym g-is.0 ∙ f-is) all

pub frame-again : (s : List ℕ) (f : CodedFrame) → FrameStands s f → frame_of s ≡ Ok f
unfolding frame_of frame_at
frame-again s f p =
    let h = f.header in
    let r = start_of s in
    let at : Rest = record { place = header_taken s; bytes = drop (header_taken s) s } in
    let head = header-again s h p.header in
    let room : header_taken s + (r.size - header_taken s) ≡ r.size = omega (arith, p.header.sizes.within) in
    let found = pictures-again (pictures_of h.interlace) r.size h at (r.size - header_taken s) f.pictures room p.number p.pictures in
    bind-step _ _ (bind-step _ _ head ∙ bind-step _ _ found.1)

pub same-frame : (f g : CodedFrame) (r : Result CodedFrame (Fault FrameKind)) → r ≡ Ok f → r ≡ Ok g → f ≡ g
same-frame f g r d e = cc

or-fault : (s : List ℕ) (r : Result CodedFrame (Fault FrameKind)) → frame_of s ≡ r → ((f : CodedFrame) × FrameStands s f) ⊎ ((fault : Fault FrameKind) × (frame_fault s ≡ Some fault))
or-fault s (Ok f) e = inl (f, frame-found s f e)
or-fault s (Err fault) e = inr (fault, ap result_err e)

pub frame-or-fault : (s : List ℕ) → ((f : CodedFrame) × FrameStands s f) ⊎ ((fault : Fault FrameKind) × (frame_fault s ≡ Some fault))
frame-or-fault s = or-fault s (frame_of s) refl
