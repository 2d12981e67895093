use Rattle.std.proofs.Common.{refl}
use Rattle.rate_table.proofs.Vectors.{items_of}
use Rattle.rate_least.proofs.Concluded.{tells_smallest, tells_good, tells_said, tells_widths, not_passed}
use Rattle.rate_least.proofs.search.smallest_fit.Goals as goal

pub returns-clause-answer : goal.returns-clause-answer
returns-clause-answer c =
    let b = c.in_ok-choice.ensures in
    tells_smallest c.args.table.now.slices c.args.cap c.greatest_multiplier-multiplier.result c.in_ok-layers.field-0.goal (items_of c.narrow.new.layers.items) c.narrow.ensures b.0 b.1 c.greatest_multiplier-multiplier.ensures c.in_ok-choice.choice.items b.2

pub returns-clause-good : goal.returns-clause-good
returns-clause-good c =
    let b = c.in_ok-choice.ensures in
    tells_good c.args.table.now.slices c.args.cap c.greatest_multiplier-multiplier.result c.in_ok-layers.field-0.goal (items_of c.narrow.new.layers.items) c.narrow.ensures b.0 b.1 c.requires.table.each c.in_ok-choice.choice.items b.2

pub returns-clause-said : goal.returns-clause-said
returns-clause-said c =
    let b = c.in_ok-choice.ensures in
    tells_said c.args.table.now.slices c.args.cap c.greatest_multiplier-multiplier.result c.in_ok-layers.field-0.goal (items_of c.narrow.new.layers.items) c.narrow.ensures b.0 b.1 c.args.table.now refl c.in_ok-choice.choice.items b.2

pub returns-clause-widths : goal.returns-clause-widths
returns-clause-widths c =
    let b = c.in_ok-choice.ensures in
    tells_widths c.args.table.now.slices c.args.cap c.greatest_multiplier-multiplier.result c.in_ok-layers.field-0.goal (items_of c.narrow.new.layers.items) c.narrow.ensures b.0 b.1 c.requires.table.each c.requires.table.few c.greatest_multiplier-multiplier.ensures c.in_ok-choice.choice.items b.2

pub returns-clause-full_always : goal.returns-clause-full_always
returns-clause-full_always c =
    let b = c.in_ok-choice.ensures in
    λ p. absurd (not_passed c.args.table.now.slices c.args.cap c.greatest_multiplier-multiplier.result c.in_ok-layers.field-0.goal (items_of c.narrow.new.layers.items) c.narrow.ensures b.0 b.1 c.greatest_multiplier-multiplier.ensures p)
