use Rattle.rate_table.proofs.Vectors.{items_of}
use Rattle.rate_layers.proofs.Guessed.{guess_least}
use Rattle.rate_layers.proofs.search.guess.Goals as goal

pub returns-in-Ok : goal.returns-in-Ok
returns-in-Ok c =
    let found = c.in-Ok.ensures.found in
    guess_least c.args.table.now c.in_ok-finer.finer c.args.times c.in_ok-multiplier.multiplier found.0 c.in-Ok.found.goal (items_of c.in-Ok.found.layers.items) c.in_ok-finer.ensures found.1
