use Rattle.std.proofs.Common.{sym, subst}
use Rattle.rate_build.specs.Coefficients.{AreOfLayout}
use Rattle.rate_build.proofs.Layouts.{of_layout}
use Rattle.rate_build.proofs.transform.coefficients_of.Goals as goal

pub whole_of-requires : goal.whole_of-requires
whole_of-requires c =
    let l = c.args.layout.now in
    subst (λ slices. AreOfLayout (record { layout = l; alpha = c.args.alpha; slices = slices })) (sym c.in_ok-slices.ensures)
    (of_layout l c.args.picture.now c.args.alpha c.requires.picture c.requires.alpha)
