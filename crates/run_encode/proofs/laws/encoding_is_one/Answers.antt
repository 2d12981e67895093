use Rattle.run_encode.proofs.Tabled.{here-table}
use Rattle.run_encode.proofs.Alone.{one-encoding}
use Rattle.run_encode.proofs.laws.encoding_is_one.Goals as goal

pub returns : goal.returns
returns c = λ j ps end end' lists lists' is are e f.
    one-encoding c.best_is_one.ensures c.multiplier_is_one.ensures c.kept_are_one.ensures j ps
    (here-table c.coefficients_are_of_layout.ensures c.group_table_is_table.ensures j is ps are) e.coded f.coded e.first f.first end end' lists lists' e.ends f.ends
