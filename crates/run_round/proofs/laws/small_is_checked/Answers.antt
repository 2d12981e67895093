use Rattle.run_round.proofs.Small.{small-is-checked}
use Rattle.run_round.proofs.laws.small_is_checked.Goals as goal

pub returns : goal.returns
returns c = small-is-checked c.named_weights_are_in_range.ensures c.pictures_have_form.ensures c.encoded_has_headline.ensures
