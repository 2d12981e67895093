use Rattle.std.proofs.Common.{subst, sym, ap, ◌∙◌, ◌*◌, ◌≤◌, ◌<◌, lit≤, nat_abs, to_z-of_z, pos, ℤ, ◌≡◌, ℕ, ◌+◌}
use lib.Signed.{lt_z}
use Rattle.pr_quant.specs.Quantised.{IsNearest, distance, quantised, greatest_coefficient}
use Rattle.pr_quant.proofs.NearestLemmas.{machine_below, machine_above, quantised_nearest, quantised_half, quantised_within, within_small, within_bound}
use Rattle.pr_quant.proofs.quantise.Goals as goal

-- what the clauses say of a result that is the quantised value
module _ (c : ℤ) (m : ℕ) (q : ℤ) (e : q ≡ quantised c m) (s : nat_abs c ≤ greatest_coefficient) (h : 0 < m) where
  is_nearest : IsNearest c m q
  is_nearest = subst (IsNearest c m) (sym e) (quantised_nearest c m h)

  half : 2 * distance c m q ≤ m
  half = subst (λ z. 2 * distance c m z ≤ m) (sym e) (quantised_half c m h)

  small : nat_abs q ≤ nat_abs c
  small = subst (λ z. nat_abs z ≤ nat_abs c) (sym e) (within_small (nat_abs c) m _ h (quantised_within c m h))

  bound : (n b : ℕ) → n ≤ m → 2 * greatest_coefficient ≤ n * (2 * b + 1) → nat_abs q ≤ b
  bound n b l t = subst (λ z. nat_abs z ≤ b) (sym e) (within_bound (nat_abs c) m _ n b (quantised_within c m h) l s t)

pub returns-then-c-lt0-clause-value : goal.returns-then-c-lt0-clause-value
returns-then-c-lt0-clause-value c = machine_below c.args.c c.args.m c.unsigned_abs.result c.requires.coefficient c.requires.least (c.unsigned_abs.ensures.value ∙ ap nat_abs (to_z-of_z c.ranges.c)) (ap (λ z. lt_z z (pos 0)) (sym (to_z-of_z c.ranges.c)) ∙ c.if-c-lt0.true)

pub returns-then-c-lt0-clause-nearest : goal.returns-then-c-lt0-clause-nearest
returns-then-c-lt0-clause-nearest c = is_nearest c.args.c c.args.m _ (returns-then-c-lt0-clause-value c) c.requires.coefficient c.requires.least

pub returns-then-c-lt0-clause-half : goal.returns-then-c-lt0-clause-half
returns-then-c-lt0-clause-half c = half c.args.c c.args.m _ (returns-then-c-lt0-clause-value c) c.requires.coefficient c.requires.least

pub returns-then-c-lt0-clause-small : goal.returns-then-c-lt0-clause-small
returns-then-c-lt0-clause-small c = small c.args.c c.args.m _ (returns-then-c-lt0-clause-value c) c.requires.coefficient c.requires.least

pub returns-then-c-lt0-clause-small_from_two : goal.returns-then-c-lt0-clause-small_from_two
returns-then-c-lt0-clause-small_from_two c l = bound c.args.c c.args.m _ (returns-then-c-lt0-clause-value c) c.requires.coefficient c.requires.least 2 8191 l (lit≤ tt)

pub returns-then-c-lt0-clause-small_from_four : goal.returns-then-c-lt0-clause-small_from_four
returns-then-c-lt0-clause-small_from_four c l = bound c.args.c c.args.m _ (returns-then-c-lt0-clause-value c) c.requires.coefficient c.requires.least 4 4096 l (lit≤ tt)

pub returns-else-c-lt0-clause-value : goal.returns-else-c-lt0-clause-value
returns-else-c-lt0-clause-value c = machine_above c.args.c c.args.m c.unsigned_abs.result c.requires.coefficient c.requires.least (c.unsigned_abs.ensures.value ∙ ap nat_abs (to_z-of_z c.ranges.c)) (ap (λ z. lt_z z (pos 0)) (sym (to_z-of_z c.ranges.c)) ∙ c.if-c-lt0.false)

pub returns-else-c-lt0-clause-nearest : goal.returns-else-c-lt0-clause-nearest
returns-else-c-lt0-clause-nearest c = is_nearest c.args.c c.args.m _ (returns-else-c-lt0-clause-value c) c.requires.coefficient c.requires.least

pub returns-else-c-lt0-clause-half : goal.returns-else-c-lt0-clause-half
returns-else-c-lt0-clause-half c = half c.args.c c.args.m _ (returns-else-c-lt0-clause-value c) c.requires.coefficient c.requires.least

pub returns-else-c-lt0-clause-small : goal.returns-else-c-lt0-clause-small
returns-else-c-lt0-clause-small c = small c.args.c c.args.m _ (returns-else-c-lt0-clause-value c) c.requires.coefficient c.requires.least

pub returns-else-c-lt0-clause-small_from_two : goal.returns-else-c-lt0-clause-small_from_two
returns-else-c-lt0-clause-small_from_two c l = bound c.args.c c.args.m _ (returns-else-c-lt0-clause-value c) c.requires.coefficient c.requires.least 2 8191 l (lit≤ tt)

pub returns-else-c-lt0-clause-small_from_four : goal.returns-else-c-lt0-clause-small_from_four
returns-else-c-lt0-clause-small_from_four c l = bound c.args.c c.args.m _ (returns-else-c-lt0-clause-value c) c.requires.coefficient c.requires.least 4 4096 l (lit≤ tt)
