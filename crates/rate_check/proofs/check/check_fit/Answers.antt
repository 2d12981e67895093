use Rattle.std.proofs.Common.{Vec, Global, map, ◌∙◌}
use Rattle.std.proofs.lemmas.List.{length-map}
use Rattle.std.proofs.lemmas.Result.{on_ok_weaker, IfErr-weaker}
use Rattle.rate_table.specs.declared.entry.Pair.{Pair}
use Rattle.rate_table.specs.Records.{Printed, HasCounts}
use Rattle.rate_cert.specs.Records.{Asks, FailsFit, FailsLayers}
use Rattle.rate_check.specs.inner.Printed.{of_layers}
use Rattle.rate_check.proofs.Answered.{granted}
use Rattle.rate_check.proofs.Judged.{good_fit, layers_fail}
use Rattle.rate_check.proofs.check.check_fit.Goals as goal

pub returns-clause-good : goal.returns-clause-good
returns-clause-good c =
    let t = c.args.table.now in
    let r : Printed = of_layers c.args.choice.now c.args.size c.args.error c.args.multiplier (map (λ (l : Vec Pair Global). l.items) c.args.layers.now) in
    let h = granted c.has_counts.result c.has_counts.ensures c.if-not-has_counts.false in
    let counts : HasCounts t r = (h.0, length-map c.args.layers.now (λ (l : Vec Pair Global). l.items) ∙ h.1) in
    let sums = c.in_ok-check_sums.ensures.good in
    on_ok_weaker c.check_layers.result (λ l. good_fit t r counts sums.0 sums.1 l) (c.check_layers.ensures.good c.args.choice.now c.args.size)

pub returns-clause-fails : goal.returns-clause-fails
returns-clause-fails c =
    let t = c.args.table.now in
    let r : Printed = of_layers c.args.choice.now c.args.size c.args.error c.args.multiplier (map (λ (l : Vec Pair Global). l.items) c.args.layers.now) in
    let h = granted c.has_counts.result c.has_counts.ensures c.if-not-has_counts.false in
    let counts : HasCounts t r = (h.0, length-map c.args.layers.now (λ (l : Vec Pair Global). l.items) ∙ h.1) in
    let sums = c.in_ok-check_sums.ensures.good in
    IfErr-weaker c.check_layers.result (λ c. FailsLayers t r c.number) (λ c. Asks 1 (HasCounts t r) (FailsFit t r) c.number) (λ c l. layers_fail t r c.number counts sums.0 sums.1 l)
    (c.check_layers.ensures.fails c.args.choice.now c.args.size)
