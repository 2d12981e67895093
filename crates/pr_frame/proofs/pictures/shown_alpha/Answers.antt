use Rattle.std.proofs.Common.{◌≡◌, get_or, ap, sym, ◌∙◌, arith, rules}
use Rattle.pw_planes.specs.declared.kinds.AlphaKind.TheVariants.{Absent}
use Rattle.pw_planes.specs.declared.kinds.Interlace.TheVariants.{Progressive}
use Rattle.pr_frame.proofs.ShownForm.{alpha_size, alpha_of_fields, fields_fit}
use Rattle.pr_frame.proofs.pictures.shown_alpha.Goals as goal

pub woven-requires-clause-columns : goal.woven-requires-clause-columns
woven-requires-clause-columns c =
    let h = c.args.frame.now.header in
    (alpha_size h c.index-pictures-0.result c.in_ok-first.first c.in_ok-first.ensures).0 ∙ sym (alpha_size h c.index-pictures-1.result c.in_ok-second.second c.in_ok-second.ensures).0

pub woven-requires-clause-rows : goal.woven-requires-clause-rows
woven-requires-clause-rows c =
    let h = c.args.frame.now.header in
    (alpha_size h c.index-pictures-0.result c.in_ok-first.first c.in_ok-first.ensures).1 ∙ sym (alpha_size h c.index-pictures-1.result c.in_ok-second.second c.in_ok-second.ensures).1

pub woven-requires-clause-limit : goal.woven-requires-clause-limit
woven-requires-clause-limit c =
    let h = c.args.frame.now.header in
    let two : h.interlace ≡ Progressive → ⊥ = search (rules, c.if-eq-2.ensures) in
    omega (arith, (alpha_size h c.index-pictures-0.result c.in_ok-first.first c.in_ok-first.ensures).1, fields_fit h.interlace h.height two c.requires.layout.rows)

pub returns : goal.returns
returns c =
    let f = c.args.frame.now in
    let some : f.header.alpha ≡ Absent → ⊥ = search (rules, c.if-eq.ensures) in
    let two : f.header.interlace ≡ Progressive → ⊥ = search (rules, c.if-eq-2.ensures) in
    alpha_of_fields f c.in_ok-first.first c.in_ok-second.second c.in_ok-woven.field-0 c.index-pictures-0.result c.index-pictures-1.result two some c.requires.number
    (c.index-pictures-0.is ∙ ap (λ l. get_or l 0 c.index-pictures-0.result) c.as_slice-pictures.ensures)
    (c.index-pictures-1.is ∙ ap (λ l. get_or l 1 c.index-pictures-1.result) c.as_slice-pictures.ensures)
    c.in_ok-first.ensures c.in_ok-second.ensures c.in_ok-woven.ensures
