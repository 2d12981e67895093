use Rattle.std.proofs.Common.{◌≡◌, drop, find}
use Rattle.std.specs.Prelude.{bytes_eq}
use Rattle.workshop.specs.Options.{name_of_option}
use Rattle.workshop.proofs.words.Command.option_named.Given as goal

abbrev pub invariant-loop-option : goal.invariant-loop-option
invariant-loop-option l = find (λ o. bytes_eq l.name (name_of_option o)) (drop l.option-index l.options) ≡ find (λ o. bytes_eq l.name (name_of_option o)) l.options
