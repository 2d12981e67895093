use Rattle.std.proofs.Common.{rules, arith, ◌^◌, ◌∙◌, ap, refl, pos, get_or, lit<, to_z-of_z, to_z, of_z, w32}
use mir.Val.{SFits}
use Rattle.pr_dct.specs.Transform.{cosines, rounded, flat}
use Rattle.pr_dct.proofs.PassLemmas.{turned_reach, first_within, second_within, all_passes, turned_pairs}
use Rattle.pr_dct.specs.inner.Passes.{turned}
use Rattle.pr_dct.proofs.SumLemmas.{kept32}
use Rattle.pr_dct.proofs.HalfLemmas.{flat_samples}
use Rattle.pr_dct.proofs.inverse.Goals as goal

pub rows_of_samples-sums-requires : goal.rows_of_samples-sums-requires
unfolding cosines
rows_of_samples-sums-requires c p l =
    omega (arith, first_within turned turned_reach (2 ^ 19) c.args.products.now c.requires c.widened-wide.result c.rows_of_samples-rows.result c.widened-wide.ensures c.rows_of_samples-rows.ensures p l)

pub rounded_each-requires : goal.rounded_each-requires
unfolding cosines
rounded_each-requires c p l =
    omega (arith, second_within turned turned_reach (2 ^ 19) c.args.products.now c.requires c.widened-wide.result c.rows_of_samples-rows.result c.rows_of_samples-sums.result c.widened-wide.ensures c.rows_of_samples-rows.ensures c.rows_of_samples-sums.ensures p l)

pub returns : goal.returns
unfolding cosines
returns c =
    all_passes turned turned_reach (2 ^ 19) c.args.products.now c.requires c.widened-wide.result c.rows_of_samples-rows.result c.rows_of_samples-sums.result c.rounded_each.result
    c.widened-wide.ensures c.rows_of_samples-rows.ensures c.rows_of_samples-sums.ensures c.rounded_each.ensures
    ∙ turned_pairs c.args.products.now

pub returns-then-is_flat : goal.returns-then-is_flat
returns-then-is_flat c =
    let d = c.args.products.now in
    let e = kept32 (get_or d 0 (pos 0)) (2 ^ 19) (c.requires 0 (lit< tt)) (lit< tt) in
    let f : SFits w32 c.flat_sample.result = search rules in
    flat_samples d (to_z w32 (of_z w32 c.flat_sample.result)) (c.if-is_flat.ensures refl) (to_z-of_z f ∙ c.flat_sample.ensures ∙ ap (λ z. rounded (flat z)) e)
