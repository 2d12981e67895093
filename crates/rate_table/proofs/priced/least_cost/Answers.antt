use Rattle.std.proofs.Common.{◌≡◌, ℕ, sym, subst}
use Rattle.rate_table.specs.Table.{least}
use Rattle.rate_table.specs.Pairs.{cost}
use Rattle.rate_table.proofs.Chosen.{least_from, least_from-first}
use Rattle.rate_table.proofs.priced.least_cost.Goals as goal

pub loop-entry-init : goal.loop-entry-init
loop-entry-init c =
    let f = cost c.args.multiplier in
    let xs = c.args.entries.now in
    record {
      value = subst (λ (n : ℕ). least_from f n xs ≡ least f xs) (sym c.cost_of-least.ensures.value) (least_from-first f _ xs c.requires);
      small = c.cost_of-least.ensures.small;
    }
