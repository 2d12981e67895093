use Rattle.std.proofs.Common.{refl}
use Rattle.pic_y4m.specs.Samples.{plane_bytes}
use Rattle.pw_outside.proofs.Results.{on_ok_weaker, any_err}
use Rattle.pic_y4m.proofs.Written.{on-err, frame-whole, four-puts, four-first, four-second, four-third, four-fourth}
use Rattle.pic_y4m.proofs.writer.put_frame.Goals as goal

pub returns-in_err-put_all-clause-err : goal.returns-in_err-put_all-clause-err
returns-in_err-put_all-clause-err g c =
    let p = c.args.picture.now in
    let size = c.size_of-size.result in
    any_err c.from_residual.result (four-first _ (plane_bytes size p.y.samples) (plane_bytes size p.cb.samples) (plane_bytes size p.cr.samples) _ (frame-whole c.args.depth p c.size_of-size.result p.y.samples p.cb.samples p.cr.samples c.size_of-size.ensures refl refl refl) c.in_err-put_all.ensures.err)

pub returns-in_err-put_samples-clause-err : goal.returns-in_err-put_samples-clause-err
returns-in_err-put_samples-clause-err g c =
    let p = c.args.picture.now in
    any_err c.from_residual-in_err-put_samples.result (four-second _ _ _ _ _ (frame-whole c.args.depth p c.size_of-size.result c.samples.result.now p.cb.samples p.cr.samples c.size_of-size.ensures c.samples.ensures.samples refl refl)
    c.in_ok-put_all.ensures.ok c.in_err-put_samples.ensures.err)

pub returns-in_err-put_samples-2-clause-err : goal.returns-in_err-put_samples-2-clause-err
returns-in_err-put_samples-2-clause-err g c =
    let p = c.args.picture.now in
    any_err c.from_residual-in_err-put_samples-2.result (four-third _ _ _ _ _ (frame-whole c.args.depth p c.size_of-size.result c.samples.result.now c.samples-2.result.now p.cr.samples c.size_of-size.ensures c.samples.ensures.samples c.samples-2.ensures.samples refl)
    c.in_ok-put_all.ensures.ok c.in_ok-put_samples.ensures.ok c.in_err-put_samples-2.ensures.err)

pub returns-clause-ok : goal.returns-clause-ok
returns-clause-ok g c =
    on_ok_weaker c.put_samples-3.result (four-puts _ _ _ _ _ (frame-whole c.args.depth c.args.picture.now c.size_of-size.result c.samples.result.now c.samples-2.result.now c.samples-3.result.now c.size_of-size.ensures c.samples.ensures.samples c.samples-2.ensures.samples c.samples-3.ensures.samples)
    c.in_ok-put_all.ensures.ok c.in_ok-put_samples.ensures.ok c.in_ok-put_samples-2.ensures.ok) c.put_samples-3.ensures.ok

pub returns-clause-err : goal.returns-clause-err
returns-clause-err g c =
    on-err c.put_samples-3.result (four-fourth _ _ _ _ _ (frame-whole c.args.depth c.args.picture.now c.size_of-size.result c.samples.result.now c.samples-2.result.now c.samples-3.result.now c.size_of-size.ensures c.samples.ensures.samples c.samples-2.ensures.samples c.samples-3.ensures.samples)
    c.in_ok-put_all.ensures.ok c.in_ok-put_samples.ensures.ok c.in_ok-put_samples-2.ensures.ok) c.put_samples-3.ensures.err
