use Rattle.rate_table.proofs.Enumerated.{all_are_choices, choices_are_all}
use Rattle.rate_table.proofs.laws.all_choices_are_choices.Goals as goal

pub returns : goal.returns
returns c = λ slices choice. (all_are_choices slices choice, choices_are_all slices choice)
