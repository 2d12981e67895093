use Rattle.std.proofs.Common.{◌≡◌, ℕ, ◌^◌, ◌<◌, ◌≤◌, min, length, Result, Ok, Err, OnOk, is_err, arith, rules, ◌∙◌}
use Rattle.std.proofs.lemmas.Result.{on_ok_weaker}
use Rattle.pw_outside.specs.Ports.{last, taken_more, CountsFault}
use Rattle.pr_alpha.specs.Alpha.{alpha}
use Rattle.pr_alpha.proofs.RowLemmas.{alpha_few}
use Rattle.pr_alpha.proofs.write.alpha_length.Goals as goal

-- a sink that never fails has counted all
counted : {T E : Type 0} (r : Result T E) (old new n : ℕ) → old ≡ 0 → n < 2 ^ 32 → OnOk r (min new last ≡ taken_more (min old last) n) → CountsFault 0 0 (is_err r) → new ≡ n
counted (Ok x) old new n e h t f = omega (arith, e, t)
counted (Err x) old new n e h t f = let rose : min 1 last ≤ 0 = f.rose in absurd (omega (arith, rose))

pub overflow_cast-result : goal.overflow_cast-result
overflow_cast-result c =
    let n = length (alpha c.args.bits c.args.values.now) in
    let small = alpha_few c.args.bits c.args.values.now c.requires.width c.requires.count.1 in
    let is : c.taken.result ≡ n = c.taken.ensures ∙ counted c.write_alpha.result c.new-sink.result c.write_alpha.new.sink n c.new-sink.ensures small (on_ok_weaker c.write_alpha.result (λ p. p.count) c.write_alpha.ensures.ok) c.write_alpha.ensures.cause in
    let lt : c.taken.result < 2 ^ 32 = omega (arith, is) in
    search rules

pub returns : goal.returns
returns c =
    let n = length (alpha c.args.bits c.args.values.now) in
    let small = alpha_few c.args.bits c.args.values.now c.requires.width c.requires.count.1 in
    c.taken.ensures ∙ counted c.write_alpha.result c.new-sink.result c.write_alpha.new.sink n c.new-sink.ensures small (on_ok_weaker c.write_alpha.result (λ p. p.count) c.write_alpha.ensures.ok) c.write_alpha.ensures.cause
