use Rattle.std.proofs.Common.{◌≡◌, ◌∙◌, Some, drop, ap, sym, subst}
use Rattle.std.proofs.lemmas.List.{take_rest}
use Rattle.workshop.specs.Options.{cut}
use Rattle.workshop.specs.Words.{IsWalk, option_named, with_named, with_option, with_parts}
use Rattle.workshop.proofs.words.with_option.Goals as goal

pub returns-clause-value : goal.returns-clause-value
unfolding with_option
returns-clause-value c =
    let parts : cut 61 (drop 2 c.args.word.now) ≡ Some (c.in-Some.name.now, c.in-Some.value.now) = ap (cut 61) (sym (take_rest c.args.word.now 2)) ∙ sym c.in-Some.ensures in
    let option : option_named c.args.command c.in-Some.name.now ≡ Some c.in-Some-option_named.option = sym c.option_named.ensures ∙ c.in-Some-option_named.is in
    subst (IsWalk (λ v. v) c.with_option_value.result)
    (sym (ap (λ p. with_parts c.args.command p c.args.at c.args.values) parts ∙ ap (λ o. with_named o c.in-Some.value.now c.args.at c.args.values) option))
    c.with_option_value.ensures.value
