use Rattle.std.proofs.Common.{◌≡◌, to_z, of_z, w16, w32, ap, ◌∙◌, arith}
use Rattle.std.proofs.lemmas.Int.{to_z-of_z, fits_signed_from_abs}
use Rattle.pr_quant.specs.Quantised.{quantised}
use Rattle.run_look.proofs.coded.quantise_value.Goals as goal

pub returns-clause-value : goal.returns-clause-value
returns-clause-value c =
    let r = c.quantise-size.result in
    let small = c.quantise-size.ensures.small_from_two c.requires.multiplier.least in
    let wide : to_z w32 (of_z w32 r) ≡ r = to_z-of_z w32 r (fits_signed_from_abs w32 r (omega (arith, small))) in
    let short : to_z w16 (of_z w16 r) ≡ r = to_z-of_z w16 r (fits_signed_from_abs w16 r (omega (arith, small))) in
    let kept : to_z w16 (of_z w16 c.args.value) ≡ c.args.value = to_z-of_z w16 c.args.value (fits_signed_from_abs w16 c.args.value (omega (arith, c.requires.value))) in
    let read = ap (λ v. to_z w32 (of_z w32 v)) (c.from-value.ensures ∙ kept) ∙ to_z-of_z w32 c.args.value (fits_signed_from_abs w32 c.args.value (omega (arith, c.requires.value))) in
    ap (λ x. to_z w16 (of_z w16 x)) wide ∙ short ∙ c.quantise-size.ensures.value ∙ ap (λ v. quantised v c.args.multiplier) read
