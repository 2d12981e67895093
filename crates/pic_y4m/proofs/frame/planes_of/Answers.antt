use Rattle.pic_y4m.proofs.Planes.{picture_form, below-limit}
use Rattle.pic_y4m.proofs.frame.planes_of.Goals as goal

pub returns-clause-form : goal.returns-clause-form
returns-clause-form g c =
    let form = c.args.form.now in
    let depth = form.head.depth in
    let limit = c.limit_of-limit.ensures in
    rw c.in_ok-picture_of.ensures (picture_form form c.in_ok-y.y.items c.in_ok-cb.cb.items c.in_ok-cr.cr.items c.requires.stream.alpha
    (below-limit depth _ _ _ limit c.deref.ensures.value c.in_ok-check_range.ensures.below)
    (below-limit depth _ _ _ limit c.deref-2.ensures.value c.in_ok-check_range-2.ensures.below)
    (below-limit depth _ _ _ limit c.deref-3.ensures.value c.in_ok-check_range-3.ensures.below))
