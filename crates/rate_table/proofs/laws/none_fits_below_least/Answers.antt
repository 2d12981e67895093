use Rattle.rate_table.proofs.Best.{none_fits_then_below, below_then_none_fits}
use Rattle.rate_table.proofs.laws.none_fits_below_least.Goals as goal

pub returns : goal.returns
returns c = λ t ok. (none_fits_then_below t ok, below_then_none_fits t)
