use Rattle.std.proofs.Common.{◌≡◌, ℕ, ◌+◌, ◌*◌, ◌^◌, ◌<◌, ◌≤◌, min, length, Result, Ok, Err, OnOk, is_err, arith, rules, ◌∙◌}
use Rattle.std.proofs.lemmas.Result.{on_ok_weaker}
use Rattle.pw_outside.specs.Ports.{last, taken_more, CountsFault}
use Rattle.pr_coeff.specs.Component.{places, component}
use Rattle.pr_coeff.proofs.WholeLemmas.{scan_of}
use Rattle.pr_coeff.proofs.CostLemmas.{component_cost, under_blocks}
use Rattle.pr_coeff.proofs.write.component_length.Goals as goal

-- a sink that never fails has counted all
counted : {T E : Type 0} (r : Result T E) (old new n : ℕ) → old ≡ 0 → n < 2 ^ 32 → OnOk r (min new last ≡ taken_more (min old last) n) → CountsFault 0 0 (is_err r) → new ≡ n
counted (Ok x) old new n e h t f = omega (arith, e, t)
counted (Err x) old new n e h t f = let rose : min 1 last ≤ 0 = f.rose in absurd (omega (arith, rose))

few : (n count : ℕ) → count ≤ 32 → 8 * n ≤ 59 * (64 * count) + 7 → n < 2 ^ 32
few n count h e = omega (arith, e)

pub overflow_cast-result : goal.overflow_cast-result
overflow_cast-result c =
    let n = length (component (places c.args.scan) c.args.blocks.now) in
    let small : n < 2 ^ 32 = few n (length c.args.blocks.now) c.requires.count.1 (component_cost 15 (places c.args.scan) c.args.blocks.now (scan_of c.args.scan) (omega arith) c.requires.count.1 (under_blocks c.args.blocks.now c.requires.small)) in
    let is : c.taken.result ≡ n = c.taken.ensures ∙ counted c.write_component.result c.new-sink.result c.write_component.new.sink n c.new-sink.ensures small (on_ok_weaker c.write_component.result (λ p. p.count) c.write_component.ensures.ok) c.write_component.ensures.cause in
    let lt : c.taken.result < 2 ^ 32 = omega (arith, is) in
    search rules

pub returns : goal.returns
returns c =
    let n = length (component (places c.args.scan) c.args.blocks.now) in
    let small : n < 2 ^ 32 = few n (length c.args.blocks.now) c.requires.count.1 (component_cost 15 (places c.args.scan) c.args.blocks.now (scan_of c.args.scan) (omega arith) c.requires.count.1 (under_blocks c.args.blocks.now c.requires.small)) in
    c.taken.ensures ∙ counted c.write_component.result c.new-sink.result c.write_component.new.sink n c.new-sink.ensures small (on_ok_weaker c.write_component.result (λ p. p.count) c.write_component.ensures.ok) c.write_component.ensures.cause
