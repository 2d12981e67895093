use Rattle.std.proofs.Common.{length, sym, subst, ap, ◌∙◌, arith}
use Rattle.std.specs.List.{All}
use Rattle.std.proofs.lemmas.List.{length-map}
use Rattle.rate_table.specs.Table.{IsSliceTable}
use Rattle.pr_frame.specs.Ready.{IsReadyAlpha}
use Rattle.rate_build.specs.declared.slices.SliceCoefficients.{SliceCoefficients}
use Rattle.rate_build.specs.Tables.{HasParts, entries_of}
use Rattle.rate_build.proofs.Whole.{parts_of, frame_slices, choice_error_small}
use Rattle.rate_build.proofs.Alphas.{alphas_of}
use Rattle.rate_build.proofs.tables.build_table.Goals as goal

pub slice_tables-requires-clause-parts : goal.slice_tables-requires-clause-parts
slice_tables-requires-clause-parts c = subst (All HasParts) (sym c.as_slice-slices.ensures) (parts_of _ _ _ _ c.coefficients.invariant)

pub slice_tables-requires-clause-alpha : goal.slice_tables-requires-clause-alpha
slice_tables-requires-clause-alpha c = subst (All (λ (s : SliceCoefficients). IsReadyAlpha c.coefficients.inside.alpha s.alpha)) (sym c.as_slice-slices.ensures) (alphas_of _ _ _ _ c.coefficients.invariant)

pub invariant_of-result : goal.invariant_of-result
invariant_of-result c =
    let v = c.in-Ok.ensures in
    let n = ap length (c.from_vec.ensures ∙ v.value) ∙ length-map c.as_slice-slices.result.now (entries_of c.coefficients.inside.layout.interlace c.coefficients.inside.alpha c.args.weights.now c.args.lo c.args.hi) ∙ ap length c.as_slice-slices.ensures in
    let number = frame_slices (record { layout = c.coefficients.inside.layout; alpha = c.coefficients.inside.alpha; slices = c.coefficients.inside.slices }) c.coefficients.invariant c.fixed_size.ensures.some c.fixed_size.ensures.few in
    record {
      some_budget = c.requires.some_budget;
      budget_limit = c.requires.budget;
      fixed_limit = c.fixed_size.ensures.small;
      some = omega (arith, n, number.0);
      few = omega (arith, n, number.1);
      each = subst (All IsSliceTable) (sym c.from_vec.ensures) v.slices;
    }

pub returns-in-Ok-clause-errors : goal.returns-in-Ok-clause-errors
returns-in-Ok-clause-errors c =
    let v = c.in-Ok.ensures in
    let n = ap length (c.from_vec.ensures ∙ v.value) ∙ length-map c.as_slice-slices.result.now (entries_of c.coefficients.inside.layout.interlace c.coefficients.inside.alpha c.args.weights.now c.args.lo c.args.hi) ∙ ap length c.as_slice-slices.ensures in
    let number = frame_slices (record { layout = c.coefficients.inside.layout; alpha = c.coefficients.inside.alpha; slices = c.coefficients.inside.slices }) c.coefficients.invariant c.fixed_size.ensures.some c.fixed_size.ensures.few in
    λ choice h. choice_error_small c.from_vec.result choice (subst (All IsSliceTable) (sym c.from_vec.ensures) v.slices) (omega (arith, n, number.1)) h
