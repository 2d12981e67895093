use Rattle.std.proofs.Common.{◌≡◌, Ok, subst, arith}
use Rattle.pr_coeff.specs.Component.{places}
use Rattle.pr_coeff.specs.Reading.{component_at}
use Rattle.pr_coeff.proofs.WholeLemmas.{scan_of, component_again, component_found}
use Rattle.pr_coeff.proofs.laws.component_is_read.Goals as goal

pub returns : goal.returns
returns c = λ scan l blocks count h k. (
  λ e. component_found (places scan) l blocks count (scan_of scan) h e,
  λ t. subst (λ n. component_at n (places scan) l ≡ Ok blocks) t.0 (component_again (places scan) l blocks (scan_of scan) (omega (arith, t.0)) t.1),
)
