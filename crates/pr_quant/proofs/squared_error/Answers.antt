use Rattle.std.proofs.Common.{arith, ap, ◌∙◌, sym, subst, ◌≡◌, ◌≤◌, ◌<◌, ◌*◌, ◌^◌, nat_abs, to_z-of_z}
use Rattle.std.specs.Int.{abs_diff}
use Rattle.pr_quant.specs.Quantised.{distance, quantised, greatest_coefficient}
use Rattle.pr_quant.proofs.NearestLemmas.{nearest_is, quantised_near, distance-quantised, product_small, square_small}
use Rattle.pr_quant.proofs.squared_error.Goals as goal
use Rattle.pr_quant.proofs.squared_error.Goals.{After-unsigned_abs-2, After-from-2}

is_quantised : (c : After-unsigned_abs-2) → c.args.q ≡ quantised c.args.c c.args.m
is_quantised c = nearest_is c.args.c c.args.m c.args.q c.requires.least c.requires.quantised

pub overflow_mul-unsigned_abs : goal.overflow_mul-unsigned_abs
overflow_mul-unsigned_abs c =
    let abs_q : c.unsigned_abs-2.result ≡ nat_abs (quantised c.args.c c.args.m) = c.unsigned_abs-2.ensures.value ∙ ap nat_abs (to_z-of_z c.ranges.q) ∙ ap nat_abs (is_quantised c) in
    let e : c.unsigned_abs-2.result * c.args.m ≡ nat_abs (quantised c.args.c c.args.m) * c.args.m = ap (λ n. n * c.args.m) abs_q in
    omega (arith, e, product_small c.args.c c.args.m c.requires.least)

rest_is : (c : After-from-2) → c.abs_diff-rest.result ≡ distance c.args.c c.args.m c.args.q
rest_is c =
    let m = c.args.m in
    let q = nearest_is c.args.c m c.args.q c.requires.least c.requires.quantised in
    c.abs_diff-rest.ensures
    ∙ ap (λ n. abs_diff n (c.unsigned_abs-2.result * m)) (c.unsigned_abs.ensures.value ∙ ap nat_abs (to_z-of_z c.ranges.c))
    ∙ ap (λ n. abs_diff (nat_abs c.args.c) (n * m)) (c.unsigned_abs-2.ensures.value ∙ ap nat_abs (to_z-of_z c.ranges.q) ∙ ap nat_abs q)
    ∙ sym (distance-quantised c.args.c m)
    ∙ ap (distance c.args.c m) (sym q)

pub returns-clause-value : goal.returns-clause-value
returns-clause-value c =
    let r = rest_is c in
    ap (λ n. n * c.from-2.result) (c.from.ensures ∙ r) ∙ ap (λ n. distance c.args.c c.args.m c.args.q * n) (c.from-2.ensures ∙ r)

pub returns-clause-small : goal.returns-clause-small
returns-clause-small c =
    let m = c.args.m in
    let q = nearest_is c.args.c m c.args.q c.requires.least c.requires.quantised in
    let small : distance c.args.c m c.args.q ≤ greatest_coefficient = subst (λ q. distance c.args.c m q ≤ greatest_coefficient) (sym q) (omega (arith, quantised_near c.args.c m c.requires.least, c.requires.coefficient)) in
    subst (λ n. n < 2 ^ 28) (sym (returns-clause-value c)) (square_small (distance c.args.c m c.args.q) small)
