use Rattle.std.proofs.Common.{None, ◌≡◌, ◌<◌, drop}
use Rattle.std.specs.Prelude.{option_map, IfSome}
use Rattle.rate_table.specs.Choices.{best_of, all_choices}
use Rattle.rate_table.specs.Small.{choice_at}
use Rattle.rate_table.proofs.small.best_at.Given as goal

abbrev pub invariant-loop-i : goal.invariant-loop-i
invariant-loop-i l = record {
  best : best_of l.table (option_map (choice_at l.table.slices) l.best) (drop l.i (all_choices l.table.slices)) ≡ best_of l.table None (all_choices l.table.slices);
  number : IfSome l.best (λ n. n < l.i);
}
