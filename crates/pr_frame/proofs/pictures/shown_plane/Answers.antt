use Rattle.std.proofs.Common.{◌≡◌, sym, ◌∙◌, arith, rules}
use Rattle.pw_planes.specs.declared.kinds.Interlace.TheVariants.{Progressive}
use Rattle.pr_frame.proofs.ShownForm.{part_size, fields_fit}
use Rattle.pr_frame.proofs.pictures.shown_plane.Goals as goal

pub woven-requires-clause-columns : goal.woven-requires-clause-columns
woven-requires-clause-columns c =
    let h = c.args.frame.now.header in
    (part_size h c.args.depth c.args.part c.index-pictures-0.result c.in_ok-first.first c.in_ok-first.ensures).0
    ∙ sym (part_size h c.args.depth c.args.part c.index-pictures-1.result c.in_ok-second.second c.in_ok-second.ensures).0

pub woven-requires-clause-rows : goal.woven-requires-clause-rows
woven-requires-clause-rows c =
    let h = c.args.frame.now.header in
    (part_size h c.args.depth c.args.part c.index-pictures-0.result c.in_ok-first.first c.in_ok-first.ensures).1
    ∙ sym (part_size h c.args.depth c.args.part c.index-pictures-1.result c.in_ok-second.second c.in_ok-second.ensures).1

pub woven-requires-clause-limit : goal.woven-requires-clause-limit
woven-requires-clause-limit c =
    let h = c.args.frame.now.header in
    let two : h.interlace ≡ Progressive → ⊥ = search (rules, c.if-eq.ensures) in
    omega (arith, (part_size h c.args.depth c.args.part c.index-pictures-0.result c.in_ok-first.first c.in_ok-first.ensures).1, fields_fit h.interlace h.height two c.requires.layout.rows)
