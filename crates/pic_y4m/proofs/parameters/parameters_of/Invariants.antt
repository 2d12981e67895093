use Rattle.std.proofs.Common.{◌≡◌, ◌+◌, ◌-◌, ◌≤◌, length}
use Rattle.std.specs.List.{slice_split}
use Rattle.pic_y4m.specs.Parameters.{none_found, is_space, parameters_of, AreWithin}
use Rattle.pic_y4m.proofs.Words.{words_from}
use Rattle.pic_y4m.proofs.parameters.parameters_of.Given as goal

abbrev pub invariant-loop-at : goal.invariant-loop-at
invariant-loop-at l = record {
  at : l.at ≤ length l.text + 1;
  within : AreWithin l.found;
  answer : parameters_of l.found (l.place + l.at) (words_from l.at l.text) ≡ parameters_of none_found l.place (slice_split is_space l.text);
}

abbrev pub decreases-loop-at : goal.decreases-loop-at
decreases-loop-at l = length l.text + 1 - l.at
