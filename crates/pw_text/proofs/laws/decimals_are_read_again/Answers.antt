use Rattle.pw_text.proofs.Spelling.{decimal_spelled, spelled_decimal}
use Rattle.pw_text.proofs.laws.decimals_are_read_again.Goals as goal

pub returns-clause-again : goal.returns-clause-again
returns-clause-again c = decimal_spelled

pub returns-clause-one : goal.returns-clause-one
returns-clause-one c = spelled_decimal
