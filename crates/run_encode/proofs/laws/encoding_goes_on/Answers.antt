use Rattle.run_encode.proofs.Tabled.{here-table}
use Rattle.run_encode.proofs.Going.{goes-on, gap}
use Rattle.run_encode.proofs.laws.encoding_goes_on.Goals as goal

pub returns : goal.returns
returns c = λ j ps coded is are first.
    let tables = here-table c.coefficients_are_of_layout.ensures c.group_table_is_table.ensures j is ps are in
    goes-on c.none_fits_below_least.ensures c.best_exists.ensures c.multiplier_exists.ensures c.kept_exist.ensures j ps tables
    (gap j ps coded).0 coded first ((gap j ps coded).1 first)
