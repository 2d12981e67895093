use Rattle.std.proofs.Common.{◌≡◌, ◌+◌, ◌*◌, ◌-◌, ◌≤◌, sym, ap, subst, arith, Ok, length, sum, drop, refl, ◌∙◌}
use Rattle.std.proofs.lemmas.Result.{err_from_is_err_and}
use Rattle.pw_outside.specs.Reading.{Rest, rest_of, bytes_of, Fails}
use Rattle.pr_head.specs.Faults.{told_fault}
use Rattle.pr_head.specs.Picture.{table_at, slices_in}
use Rattle.pr_frame.specs.declared.coded.CodedPicture.{CodedPicture}
use Rattle.pr_frame.specs.Forms.{places_in}
use Rattle.pr_frame.specs.Coded.{IsCodedPicture}
use Rattle.pr_frame.specs.Reading.{ahead, coded_slices_at}
use Rattle.pr_frame.specs.inner.Output.{AreSlicesOf}
use Rattle.pr_frame.proofs.Rests.{picture-rest, table-rest}
use Rattle.pr_head.proofs.Passing.{ahead-ahead}
use Rattle.pr_frame.proofs.PictureSteps.{slices-rest, layout-places, layout-count, picture-fails, table-fails, slices-fails, picture-value, behind-table, picture-end, enough-table, enough-slices}
use Rattle.pr_frame.proofs.ShowSteps.{layout_allowed, output_written}
use Rattle.pr_frame.proofs.showing.show_picture.Goals as goal

pub returns-in_err-picture-clause-found : goal.returns-in_err-picture-clause-found
returns-in_err-picture-clause-found g c =
    let p = err_from_is_err_and c.from_residual.result c.from_residual.ensures.1 in
    rw (p.1, p.2) (λ enough h. picture-fails c.args.frame c.args.header.now (rest_of c.args.place.now (g.S.ByteSource.left c.args.source.now)) c.in_err-picture.field-0.0 ((c.in_err-picture.ensures.bytes enough).answer h))

pub returns-in_err-sizes-clause-found : goal.returns-in_err-sizes-clause-found
returns-in_err-sizes-clause-found g c =
    let p = err_from_is_err_and c.from_residual-in_err-sizes.result c.from_residual-in_err-sizes.ensures.1 in
    let F = c.args.frame in
    let hd = c.args.header.now in
    let r = c.in_ok-picture.picture in
    let s = rest_of c.args.place.now (g.S.ByteSource.left c.args.source.now) in
    let t1 = rest_of c.picture_header.new.place (g.S.ByteSource.left c.picture_header.new.source) in
    let count : c.slices.result ≡ slices_in hd r = c.slices.ensures.value ∙ layout-count c.in_ok-picture.layout hd r c.in_ok-picture.ensures.layout in
    let fault = c.in_err-sizes.field-0.0 in
    rw (p.1, p.2) (λ enough h.
    let first = c.in_ok-picture.ensures.bytes enough in
    let head = first.answer h in
    let e1 = enough-table F s t1 r (enough h) c.in_ok-picture.ensures.within (picture-rest F hd s r t1 head).1 in
    table-fails F hd s r t1 head fault (subst (λ n. Fails told_fault fault (table_at r n t1)) count ((c.in_err-sizes.ensures.bytes (λ k. e1)).answer (first.told h))))

pub returns-in_err-output-clause-found : goal.returns-in_err-output-clause-found
returns-in_err-output-clause-found g c =
    let p = err_from_is_err_and c.from_residual-in_err-output.result c.from_residual-in_err-output.ensures.1 in
    let F = c.args.frame in
    let hd = c.args.header.now in
    let r = c.in_ok-picture.picture in
    let sizes = c.in_ok-sizes.sizes.items in
    let s = rest_of c.args.place.now (g.S.ByteSource.left c.args.source.now) in
    let t1 = rest_of c.picture_header.new.place (g.S.ByteSource.left c.picture_header.new.source) in
    let t2 = rest_of c.slice_sizes.new.place (g.S.ByteSource.left c.slice_sizes.new.source) in
    let l = c.in_ok-picture.layout in
    let is = c.in_ok-picture.ensures.layout in
    let count : c.slices.result ≡ slices_in hd r = c.slices.ensures.value ∙ layout-count l hd r is in
    let fault = c.in_err-output.field-0.0 in
    let same : c.deref.result.now ≡ sizes = c.deref.ensures.value in
    rw (p.1, p.2) (λ enough h.
    let first = c.in_ok-picture.ensures.bytes enough in
    let head = first.answer h in
    let e1 = enough-table F s t1 r (enough h) c.in_ok-picture.ensures.within (picture-rest F hd s r t1 head).1 in
    let second = c.in_ok-sizes.ensures.bytes (λ k. e1) in
    let table0 = second.answer (first.told h) in
    let table = subst (λ n. table_at r n t1 ≡ Ok (sizes, t2)) count table0 in
    let e2 : sum sizes ≤ length t2.bytes = enough-slices r t1 t2 sizes c.slices.result e1 (table-rest r c.slices.result t1 sizes t2 table0).1 c.in_ok-sizes.ensures.count c.in_ok-sizes.ensures.within in
    let failed = c.in_err-output.ensures.found (λ k. subst (λ zs. sum zs ≤ length t2.bytes) (sym same) e2) (second.told (first.told h)) in
    slices-fails F hd s r t1 head sizes t2 table fault
    (subst (λ zs. Fails told_fault fault (coded_slices_at hd (places_in hd r.log2) zs t2)) same (subst (λ ps. Fails told_fault fault (coded_slices_at hd ps c.deref.result.now t2)) (layout-places l hd r.log2 is) failed)))

pub returns-clause-found : goal.returns-clause-found
returns-clause-found g c =
    let F = c.args.frame in
    let hd = c.args.header.now in
    let r = c.in_ok-picture.picture in
    let sizes = c.in_ok-sizes.sizes.items in
    let s = rest_of c.args.place.now (g.S.ByteSource.left c.args.source.now) in
    let t1 = rest_of c.picture_header.new.place (g.S.ByteSource.left c.picture_header.new.source) in
    let t2 = rest_of c.slice_sizes.new.place (g.S.ByteSource.left c.slice_sizes.new.source) in
    let t3 = rest_of c.show_slices.new.place (g.S.ByteSource.left c.show_slices.new.source) in
    let new = g.S.ByteSource.left c.pass_to.new.source in
    let l = c.in_ok-picture.layout in
    let is = c.in_ok-picture.ensures.layout in
    let count : c.slices.result ≡ slices_in hd r = c.slices.ensures.value ∙ layout-count l hd r is in
    let same : c.deref.result.now ≡ sizes = c.deref.ensures.value in
    let xs = c.in_ok-output.ensures.found.0 in
    let x : CodedPicture = record { log2 = r.log2; slices = xs } in
    let put = subst (λ ps. AreSlicesOf hd c.args.depth ps c.in_ok-output.output xs) (layout-places l hd r.log2 is) c.in_ok-output.ensures.found.1 in
    let coded : IsCodedPicture hd x = record { layout = layout_allowed l hd r.log2 is; slices = put.coded } in (
      x,
      record { coded = coded; is = put.is ∙ output_written hd c.args.depth x coded },
      λ enough h.
          let first = c.in_ok-picture.ensures.bytes enough in
          let head = first.answer h in
          let e1 : r.size ≤ r.header + length t1.bytes = enough-table F s t1 r (enough h) c.in_ok-picture.ensures.within (picture-rest F hd s r t1 head).1 in
          let second = c.in_ok-sizes.ensures.bytes (λ k. e1) in
          let table0 : table_at r c.slices.result t1 ≡ Ok (sizes, t2) = second.answer (first.told h) in
          let told2 = second.told (first.told h) in
          let e2 : sum sizes ≤ length t2.bytes = enough-slices r t1 t2 sizes c.slices.result e1 (table-rest r c.slices.result t1 sizes t2 table0).1 c.in_ok-sizes.ensures.count c.in_ok-sizes.ensures.within in
          let e3 : sum c.deref.result.now ≤ length t2.bytes = subst (λ zs. sum zs ≤ length t2.bytes) (sym same) e2 in
          let third = c.in_ok-output.ensures.found.2 (λ k. e3) told2 in
          let table = subst (λ n. table_at r n t1 ≡ Ok (sizes, t2)) count table0 in
          let read : coded_slices_at hd (places_in hd r.log2) sizes t2 ≡ Ok (xs, t3) =
          subst (λ zs. coded_slices_at hd (places_in hd r.log2) zs t2 ≡ Ok (xs, t3)) same (subst (λ ps. coded_slices_at hd ps c.deref.result.now t2 ≡ Ok (xs, t3)) (layout-places l hd r.log2 is) third.1) in
          let size : length sizes ≡ length (places_in hd r.log2) = c.in_ok-sizes.ensures.count ∙ c.slices.ensures.value ∙ ap length (layout-places l hd r.log2 is) in
          let rest = slices-rest hd (places_in hd r.log2) sizes t2 xs t3 size read
          ∙ ap (ahead (sum sizes)) (behind-table F hd s r t1 head sizes t2 table) ∙ ahead-ahead (sum sizes) (r.header + 2 * slices_in hd r) s in
          let end = picture-end s t3 (r.header + 2 * slices_in hd r + sum sizes) r.size c.show_slices.new.place (g.S.ByteSource.left c.show_slices.new.source) new rest refl
          (omega (arith, c.in_ok-sizes.ensures.within, c.in_ok-sizes.ensures.count, count)) (subst (λ z. bytes_of new ≡ drop (c.args.place.now + z - c.show_slices.new.place) (bytes_of (g.S.ByteSource.left c.show_slices.new.source))) c.from.ensures (c.in_ok-pass_to.ensures.bytes third.0)) in
          let place : c.pass_to.new.place ≡ c.args.place.now + r.size = c.in_ok-pass_to.ensures.place ∙ ap (λ n. c.args.place.now + n) c.from.ensures in
          (c.in_ok-pass_to.ensures.told third.0, picture-value F hd s r t1 head sizes t2 table xs t3 read ∙ ap (λ (t : Rest). Ok (x, t)) (sym end ∙ ap (λ n. rest_of n new) (sym place))),
    )
