use Rattle.rate_table.proofs.Vectors.{items_of}
use Rattle.rate_layers.proofs.Concluded.{tells_best, tells_good, not_passed}
use Rattle.rate_layers.proofs.search.best_fit.Goals as goal

pub returns-clause-fits : goal.returns-clause-fits
returns-clause-fits c =
    let b = c.in_ok-choice.ensures in
    tells_best c.args.table.now c.least_multiplier-multiplier.result c.in_ok-layers.field-0.goal (items_of c.narrow.new.layers.items) c.narrow.ensures b.0 b.1 c.in_ok-choice.choice.items c.from.result b.2 c.from.ensures

pub returns-clause-good : goal.returns-clause-good
returns-clause-good c =
    let b = c.in_ok-choice.ensures in
    tells_good c.args.table.now c.least_multiplier-multiplier.result c.in_ok-layers.field-0.goal (items_of c.narrow.new.layers.items) c.narrow.ensures b.0 b.1 c.requires.table c.in_ok-choice.choice.items c.from.result b.2 c.from.ensures

pub returns-clause-full_always : goal.returns-clause-full_always
returns-clause-full_always c =
    let b = c.in_ok-choice.ensures in
    λ p. absurd (not_passed c.args.table.now c.least_multiplier-multiplier.result c.in_ok-layers.field-0.goal (items_of c.narrow.new.layers.items) c.narrow.ensures b.0 b.1 c.least_multiplier-multiplier.ensures.multiplier p)
