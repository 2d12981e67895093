use Rattle.std.proofs.Common.{refl}
use Rattle.pic_y4m.specs.declared.samples.SampleSize.TheVariants.{Pair}
use Rattle.pic_y4m.specs.Samples.{plane_bytes}
use Rattle.pw_outside.proofs.Results.{on_ok_weaker, any_err}
use Rattle.pic_y4m.proofs.Written.{on-err, four-puts, four-first, four-second, four-third, four-fourth}
use Rattle.pic_raw.specs.Writing.{alpha_bytes}
use Rattle.pic_raw.proofs.Pieces.{picture-whole}
use Rattle.pic_raw.proofs.writer.put_picture.Goals as goal

pub returns-in_err-put_samples-clause-err : goal.returns-in_err-put_samples-clause-err
returns-in_err-put_samples-clause-err g c =
    let p = c.args.picture.now in
    any_err c.from_residual.result (four-first _ (plane_bytes Pair p.cb.samples) (plane_bytes Pair p.cr.samples) (alpha_bytes p.alpha) _ (picture-whole p _ p.cb.samples p.cr.samples c.samples.ensures.samples refl refl) c.in_err-put_samples.ensures.err)

pub returns-in_err-put_samples-2-clause-err : goal.returns-in_err-put_samples-2-clause-err
returns-in_err-put_samples-2-clause-err g c =
    let p = c.args.picture.now in
    any_err c.from_residual-in_err-put_samples-2.result (four-second _ _ (plane_bytes Pair p.cr.samples) (alpha_bytes p.alpha) _ (picture-whole p _ _ p.cr.samples c.samples.ensures.samples c.samples-2.ensures.samples refl)
    c.in_ok-put_samples.ensures.ok c.in_err-put_samples-2.ensures.err)

pub returns-in_err-put_samples-3-clause-err : goal.returns-in_err-put_samples-3-clause-err
returns-in_err-put_samples-3-clause-err g c =
    let p = c.args.picture.now in
    any_err c.from_residual-in_err-put_samples-3.result (four-third _ _ _ (alpha_bytes p.alpha) _ (picture-whole p _ _ _ c.samples.ensures.samples c.samples-2.ensures.samples c.samples-3.ensures.samples)
    c.in_ok-put_samples.ensures.ok c.in_ok-put_samples-2.ensures.ok c.in_err-put_samples-3.ensures.err)

pub returns-clause-ok : goal.returns-clause-ok
returns-clause-ok g c =
    on_ok_weaker c.put_alpha.result (four-puts _ _ _ _ _ (picture-whole c.args.picture.now _ _ _ c.samples.ensures.samples c.samples-2.ensures.samples c.samples-3.ensures.samples)
    c.in_ok-put_samples.ensures.ok c.in_ok-put_samples-2.ensures.ok c.in_ok-put_samples-3.ensures.ok) c.put_alpha.ensures.ok

pub returns-clause-err : goal.returns-clause-err
returns-clause-err g c =
    on-err c.put_alpha.result (four-fourth _ _ _ _ _ (picture-whole c.args.picture.now _ _ _ c.samples.ensures.samples c.samples-2.ensures.samples c.samples-3.ensures.samples)
    c.in_ok-put_samples.ensures.ok c.in_ok-put_samples-2.ensures.ok c.in_ok-put_samples-3.ensures.ok) c.put_alpha.ensures.err
