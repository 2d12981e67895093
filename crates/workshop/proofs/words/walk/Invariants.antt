use Rattle.std.proofs.Common.{◌≡◌, ◌≤◌, [], map, drop, length}
use Rattle.std.specs.Prelude.{string_bytes}
use Rattle.workshop.specs.Options.{AreValues, no_values}
use Rattle.workshop.specs.Words.{walk, most_operands}
use Rattle.workshop.proofs.words.walk.Given as goal

abbrev pub invariant-loop-at : goal.invariant-loop-at
invariant-loop-at l = record {
  few : length l.operands.items ≤ most_operands l.command;
  values : AreValues l.values;
  walk : walk l.command (map string_bytes (drop l.at l.words)) l.at l.operands.items l.values ≡ walk l.command (map string_bytes (drop 1 l.words)) 1 [] no_values;
}
