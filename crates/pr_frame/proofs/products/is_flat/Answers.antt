use Rattle.std.proofs.Common.{rules, ap, to_z, of_z, w16, ◌≡◌, ◌≤◌, inl, inr, get_or, bit_or, pos, nat_abs, subst, sym, arith}
use Rattle.std.proofs.lemmas.Bool.{cases_eq}
use Rattle.std.proofs.lemmas.Nat.{le_or_l, le_or_r}
use Rattle.pr_frame.proofs.products.is_flat.Goals as goal

pub loop-place-preserved : goal.loop-place-preserved
loop-place-preserved c = λ k l some.
    let old = c.loop-place.any in
    let here = c.unsigned_abs-any.result in
    let value = get_or c.args.block.now c.loop-place.place (pos 0) in
    let kept : to_z w16 (of_z w16 value) ≡ value = search rules in
    elim (cases_eq k c.loop-place.place) [
      | inl same ↦ subst (λ j. nat_abs (get_or c.args.block.now j (pos 0)) ≤ bit_or old here) (sym same) (omega (arith, le_or_r old here, c.unsigned_abs-any.ensures, ap nat_abs kept))
      | inr other ↦ omega (arith, le_or_l old here, c.loop-place.invariant k (omega arith) some)
    ]
