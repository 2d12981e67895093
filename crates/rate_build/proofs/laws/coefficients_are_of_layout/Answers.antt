use Rattle.rate_build.proofs.Layouts.{of_layout}
use Rattle.rate_build.proofs.laws.coefficients_are_of_layout.Goals as goal

pub returns : goal.returns
returns c = of_layout
