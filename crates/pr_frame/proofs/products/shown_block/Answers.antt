use Rattle.std.proofs.Common.{ap, ◌∙◌}
use Rattle.pr_dct.specs.Transform.{samples}
use Rattle.pr_frame.specs.Shown.{samples_shown, shown_block}
use Rattle.pr_frame.proofs.products.shown_block.Goals as goal

pub returns : goal.returns
unfolding shown_block
returns c = c.samples_of.ensures ∙ ap (samples_shown c.args.depth) (c.inverse.ensures ∙ ap samples c.products_of.ensures.value)
