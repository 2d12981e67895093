use Rattle.pic_y4m.proofs.Planes.{below-limit}
use Rattle.pic_raw.proofs.Forms.{given_form}
use Rattle.pic_raw.proofs.frame.picture_behind.Goals as goal

pub returns-clause-picture : goal.returns-clause-picture
returns-clause-picture g c =
    let h = c.args.head.now in
    let limit = c.limit_of-limit.ensures in
    rw c.picture_of.ensures (given_form (λ w. w.items) h c.args.y.items c.in_ok-cb.cb.items c.in_ok-cr.cr.items c.in_ok-alpha.alpha c.has_alpha-there.result c.in_ok-alpha.ensures.there c.has_alpha-there.ensures
    (below-limit h.depth _ _ _ limit c.deref.ensures.value c.in_ok-check_range.ensures.below)
    (below-limit h.depth _ _ _ limit c.deref-2.ensures.value c.in_ok-check_range-2.ensures.below)
    (below-limit h.depth _ _ _ limit c.deref-3.ensures.value c.in_ok-check_range-3.ensures.below)
    c.in_ok-check_alpha.ensures.below)
