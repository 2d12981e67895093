use Rattle.std.proofs.Common.{◌≡◌, ◌+◌, length, refl, sym, ap, subst, ◌∙◌, arith}
use Rattle.pr_frame.specs.Written.{frame_length_of}
use Rattle.std.proofs.lemmas.Result.{on_ok_weaker, on_err_weaker}
use Rattle.pw_outside.proofs.Results.{any_err}
use Rattle.pr_frame.proofs.PutSteps.{frame-puts, frame-head, frame-pictures}
use Rattle.rate_build.specs.Coefficients.{FrameCoefficients, AreOfLayout}
use Rattle.rate_build.specs.Coding.{coded_frame}
use Rattle.rate_build.specs.Tables.{fixed_bytes}
use Rattle.rate_build.proofs.Whole.{frame_slices}
use Rattle.rate_build.proofs.Straight.{chosen_reach, tables_number}
use Rattle.rate_build.proofs.Framed.{chosen, sum_is, length_is}
use Rattle.rate_build.proofs.writing.write_part.Goals as goal

pub sizes_together-requires-clause-few : goal.sizes_together-requires-clause-few
sizes_together-requires-clause-few g c =
    let v = c.args.coefficients.now in
    let h = c.args.header.now in
    let inside : FrameCoefficients = record { layout = c.coefficients.inside.layout; alpha = c.coefficients.inside.alpha; slices = c.coefficients.inside.slices } in
    let are = subst AreOfLayout c.coefficients.view_is c.coefficients.invariant in
    let few = (frame_slices inside c.coefficients.invariant c.fixed_size.ensures.some c.fixed_size.ensures.few).1 in
    omega (
      arith,
      few,
      ap (λ (v : FrameCoefficients). length v.slices) c.coefficients.view_is,
      tables_number _ _ _ _ _ _ (chosen v h c.args.slices.now c.args.choice.now are c.requires.header c.requires.tables c.requires.choice),
    )

pub sizes_together-requires-clause-each : goal.sizes_together-requires-clause-each
sizes_together-requires-clause-each g c =
    let are = subst AreOfLayout c.coefficients.view_is c.coefficients.invariant in
    chosen_reach _ _ _ _ _ _ (chosen c.args.coefficients.now c.args.header.now c.args.slices.now c.args.choice.now are c.requires.header c.requires.tables c.requires.choice)

pub overflow_add-size : goal.overflow_add-size
overflow_add-size g c =
    let are = subst AreOfLayout c.coefficients.view_is c.coefficients.invariant in
    let sum = sum_is c.args.coefficients.now c.args.header.now c.args.slices.now c.args.choice.now are c.requires.header c.requires.tables c.requires.choice in
    omega (arith, sum, c.requires.choice.small, c.sizes_together.ensures.value, c.from.ensures, c.fixed_size.ensures.small)

pub overflow_cast-size : goal.overflow_cast-size
overflow_cast-size g c =
    let are = subst AreOfLayout c.coefficients.view_is c.coefficients.invariant in
    let sum = sum_is c.args.coefficients.now c.args.header.now c.args.slices.now c.args.choice.now are c.requires.header c.requires.tables c.requires.choice in
    omega (arith, sum, c.requires.choice.small, c.sizes_together.ensures.value, c.from.ensures, c.fixed_size.ensures.small)

pub returns-in_err-write_frame_header-clause-err : goal.returns-in_err-write_frame_header-clause-err
returns-in_err-write_frame_header-clause-err g c =
    let v = c.args.coefficients.now in
    let h = c.args.header.now in
    let f = coded_frame v h c.args.choice.now in
    let are = subst AreOfLayout c.coefficients.view_is c.coefficients.invariant in
    let is = length_is v h c.args.slices.now c.args.choice.now are c.requires.header c.requires.tables c.requires.choice in
    let fixed = c.from.ensures ∙ c.fixed_size.ensures.value ∙ ap (λ (v : FrameCoefficients). fixed_bytes v.layout) c.coefficients.view_is in
    let size : c.from.result + c.sizes_together.result ≡ frame_length_of f = (λ j. fixed j + c.sizes_together.ensures.value j) ∙ sym is in
    any_err c.from_residual.result (frame-head f _ f.pictures size refl c.in_err-write_frame_header.ensures.err)

pub returns-clause-ok : goal.returns-clause-ok
returns-clause-ok g c =
    let v = c.args.coefficients.now in
    let h = c.args.header.now in
    let f = coded_frame v h c.args.choice.now in
    let are = subst AreOfLayout c.coefficients.view_is c.coefficients.invariant in
    let is = length_is v h c.args.slices.now c.args.choice.now are c.requires.header c.requires.tables c.requires.choice in
    let fixed = c.from.ensures ∙ c.fixed_size.ensures.value ∙ ap (λ (v : FrameCoefficients). fixed_bytes v.layout) c.coefficients.view_is in
    let size : c.from.result + c.sizes_together.result ≡ frame_length_of f = (λ j. fixed j + c.sizes_together.ensures.value j) ∙ sym is in
    on_ok_weaker c.write_pictures.result (frame-puts f _ f.pictures size refl c.in_ok-write_frame_header.ensures.ok) c.write_pictures.ensures.ok

pub returns-clause-err : goal.returns-clause-err
returns-clause-err g c =
    let v = c.args.coefficients.now in
    let h = c.args.header.now in
    let f = coded_frame v h c.args.choice.now in
    let are = subst AreOfLayout c.coefficients.view_is c.coefficients.invariant in
    let is = length_is v h c.args.slices.now c.args.choice.now are c.requires.header c.requires.tables c.requires.choice in
    let fixed = c.from.ensures ∙ c.fixed_size.ensures.value ∙ ap (λ (v : FrameCoefficients). fixed_bytes v.layout) c.coefficients.view_is in
    let size : c.from.result + c.sizes_together.result ≡ frame_length_of f = (λ j. fixed j + c.sizes_together.ensures.value j) ∙ sym is in
    on_err_weaker c.write_pictures.result (frame-pictures f _ f.pictures size refl c.in_ok-write_frame_header.ensures.ok) c.write_pictures.ensures.err
