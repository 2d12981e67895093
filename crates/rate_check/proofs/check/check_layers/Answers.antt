use Rattle.std.proofs.Common.{◌≡◌, ◌-◌, ◌≤◌, [], length, get_or, refl, sym, ap, ◌∙◌, subst, arith, inl, inr}
use Rattle.std.specs.List.{All}
use Rattle.rate_table.specs.declared.entry.Pair.{Pair}
use Rattle.rate_check.proofs.Answered.{granted, denied}
use Rattle.rate_table.proofs.Vectors.{items_of, element}
use Rattle.rate_check.proofs.check.check_layers.Goals as goal

pub returns-then-not-none_is_below-clause-fails : goal.returns-then-not-none_is_below-clause-fails
returns-then-not-none_is_below-clause-fails c = λ choice size.
    let e = element c.args.layers.now 0 c.index-layers-0.result c.deref.result.now (omega (arith, c.requires)) c.index-layers-0.is c.deref.ensures.value in
    let f = element c.args.layers.now (length c.args.layers.now - 1) c.index-layers-layers.result c.deref-2.result.now (omega (arith, c.requires)) c.index-layers-layers.is c.deref-2.ensures.value in
    let last : length c.args.layers.now - 1 ≡ length c.args.table.now.slices = omega (arith, c.requires) in
    let g = f ∙ ap (λ k. get_or (items_of c.args.layers.now) k []) last in
    inr (
      sym e ∙ granted c.is_empty_pair.result c.is_empty_pair.ensures c.if-not-is_empty_pair.false,
      inr (
        granted c.are_in_order.result c.are_in_order.ensures c.if-not-are_in_order.false,
        inr (
          granted c.all_step.result (c.all_step.ensures choice size) c.if-not-all_step.false,
          inl (refl, λ h. denied c.none_is_below.result c.none_is_below.ensures c.if-not-none_is_below.true (subst (λ l. All (λ (p : Pair). c.args.error ≤ p.error) l) (sym g) h)),
        ),
      ),
    )
