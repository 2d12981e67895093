use Rattle.pic_raw.proofs.Readers.{left-has-form}
use Rattle.pic_raw.proofs.laws.left_have_form.Goals as goal

pub returns : goal.returns
returns c = left-has-form
