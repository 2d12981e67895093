use Rattle.pw_fields.proofs.Inverse.{one, two, four, eight}
use Rattle.pw_fields.proofs.laws.numbers_are_read_again.Goals as goal

pub returns-clause-one : goal.returns-clause-one
returns-clause-one c = one

pub returns-clause-two : goal.returns-clause-two
returns-clause-two c = two

pub returns-clause-four : goal.returns-clause-four
returns-clause-four c = four

pub returns-clause-eight : goal.returns-clause-eight
returns-clause-eight c = eight
