use Rattle.std.proofs.Common.{length, ap, sym, ◌∙◌, arith}
use Rattle.rate_cert.specs.Records.{Record, said_by}
use Rattle.run_look.proofs.Parts.{part_inside, choice_long, cut_long}
use Rattle.run_look.proofs.comparing.part_for.Goals as goal

pub returns-clause-number : goal.returns-clause-number
returns-clause-number c =
    let s = c.args.settings.now in
    let r = c.args.group.now in
    let n = c.frame_slices-count.result in
    let said = sym (ap (λ (x : Record). x.said) c.group.view_is) ∙ ap said_by c.in-Fits.is in
    let long = choice_long s r _ c.requires.good said in
    let inside = part_inside s r n c.args.k c.requires.good c.frame_slices-count.ensures.value c.frame_slices-count.ensures.some c.requires.there in
    let deref = ap length c.deref.ensures.value in
    ap length c.cut_choice.ensures ∙ cut_long n c.args.k c.deref.result.now (omega (arith, long, inside, deref)) ∙ c.frame_slices-count.ensures.value
