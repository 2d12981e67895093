use Rattle.pr_coeff.proofs.WholeLemmas.{scan_of}
use Rattle.pr_coeff.proofs.laws.scans_have_each_place.Goals as goal

pub returns : goal.returns
returns c = scan_of
