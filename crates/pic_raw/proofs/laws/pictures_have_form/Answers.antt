use Rattle.pic_raw.proofs.Readers.{pictures-form}
use Rattle.pic_raw.proofs.laws.pictures_have_form.Goals as goal

pub returns : goal.returns
returns c = pictures-form
