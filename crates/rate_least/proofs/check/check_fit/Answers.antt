use Rattle.std.proofs.Common.{Vec, Global, map, ◌∙◌}
use Rattle.std.proofs.lemmas.List.{length-map}
use Rattle.std.proofs.lemmas.Result.{on_ok_weaker, IfErr-weaker}
use Rattle.rate_cert.specs.Records.{Asks}
use Rattle.rate_check.proofs.Answered.{granted}
use Rattle.rate_least.specs.declared.outcome.WidePair.{WidePair}
use Rattle.rate_least.specs.Records.{Printed, HasCounts, FailsFit, FailsLayers}
use Rattle.rate_least.specs.inner.Printed.{of_layers}
use Rattle.rate_least.proofs.Judged.{good_fit, layers_fail}
use Rattle.rate_least.proofs.check.check_fit.Goals as goal

pub returns-clause-good : goal.returns-clause-good
returns-clause-good c =
    let t = c.args.table.now in
    let r : Printed = of_layers c.args.choice.now c.args.size c.args.error c.args.multiplier (map (λ (l : Vec WidePair Global). l.items) c.args.layers.now) in
    let h = granted c.has_counts.result c.has_counts.ensures c.if-not-has_counts.false in
    let counts : HasCounts t.slices r = (h.0, length-map c.args.layers.now (λ (l : Vec WidePair Global). l.items) ∙ h.1) in
    let sums = c.in_ok-check_sums.ensures.good in
    on_ok_weaker c.check_layers.result (λ l. good_fit t.slices c.args.cap r counts sums.0 sums.1 l) (c.check_layers.ensures.good c.args.choice.now c.args.error)

pub returns-clause-fails : goal.returns-clause-fails
returns-clause-fails c =
    let t = c.args.table.now in
    let r : Printed = of_layers c.args.choice.now c.args.size c.args.error c.args.multiplier (map (λ (l : Vec WidePair Global). l.items) c.args.layers.now) in
    let h = granted c.has_counts.result c.has_counts.ensures c.if-not-has_counts.false in
    let counts : HasCounts t.slices r = (h.0, length-map c.args.layers.now (λ (l : Vec WidePair Global). l.items) ∙ h.1) in
    let sums = c.in_ok-check_sums.ensures.good in
    IfErr-weaker c.check_layers.result (λ e. FailsLayers t.slices c.args.cap r e.number) (λ e. Asks 1 (HasCounts t.slices r) (FailsFit t.slices c.args.cap r) e.number) (λ e l. layers_fail t.slices c.args.cap r e.number counts sums.0 sums.1 l)
    (c.check_layers.ensures.fails c.args.choice.now c.args.error)
