use Rattle.std.proofs.Common.{◌≡◌, Ok, subst}
use Rattle.pr_alpha.specs.Reading.{alpha_at}
use Rattle.pr_alpha.proofs.StepLemmas.{alpha_again, alpha_found}
use Rattle.pr_alpha.proofs.laws.alpha_is_read.Goals as goal

pub returns : goal.returns
returns c = λ n count l values. (
  λ e. alpha_found n count l values e,
  λ t. subst (λ m. alpha_at m n l ≡ Ok values) t.0 (alpha_again n l values t.1),
)
